-- `form::args_ok` meets its contract: the limits of c and m are tested before their product is made.
-- Assumes nothing.
use borrow.Author.Tests.{lt-leb, le-leb}
use native.Mathlib.Omega.{arith}
use mathlib.Core.Bool.{and-false}
use Rattle.theory.proofs.Raw.{small}
use Rattle.model.specs.Form.{args_ok}
use Rattle.form.proofs.args_ok.Goals as goal

pub returns-then-c-gt-MOST_COLUMNS : goal.returns-then-c-gt-MOST_COLUMNS
unfolding args_ok
returns-then-c-gt-MOST_COLUMNS c = simp (lt-leb _ _ c.if-c-gt-MOST_COLUMNS.true, and-false)

pub returns-then-m-gt-MOST_ENTRIES : goal.returns-then-m-gt-MOST_ENTRIES
unfolding args_ok
returns-then-m-gt-MOST_ENTRIES c = simp (le-leb _ _ c.if-c-gt-MOST_COLUMNS.false, lt-leb _ _ c.if-m-gt-MOST_ENTRIES.true, and-false)

pub overflow_mul-result : goal.overflow_mul-result
overflow_mul-result c = omega (arith, small c.if-m-gt-MOST_ENTRIES.false c.if-c-gt-MOST_COLUMNS.false)

pub returns : goal.returns
unfolding args_ok
returns c = simp (le-leb _ _ c.if-c-gt-MOST_COLUMNS.false, le-leb _ _ c.if-m-gt-MOST_ENTRIES.false)
