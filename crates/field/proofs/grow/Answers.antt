-- `field::grow` meets its contract: a digit is 48 to 57, and ten times v and the digit stay below 2^64.
-- Assumes nothing.
use native.Mathlib.Omega.{arith}
use mathlib.Core.Path.{◌∙◌}
use Rattle.std.proofs.lemmas.Bool.Decides.{nat_tests}
use Rattle.field.specs.Scan.{grown_by}
use Rattle.field.proofs.grow.Goals as goal

pub returns-then-not-is_ascii_digit : goal.returns-then-not-is_ascii_digit
unfolding grown_by
returns-then-not-is_ascii_digit c = grind (arith, nat_tests)

pub returns-in_err-checked_mul : goal.returns-in_err-checked_mul
unfolding grown_by
returns-in_err-checked_mul c = c.from_residual.ensures ∙ grind (arith, nat_tests)

pub returns : goal.returns
unfolding grown_by
returns c = grind (arith, nat_tests)
