-- `entry::Stored::sight` meets its contract: the head of the entry tells what it does.
-- Assumes nothing.
use borrow.Author.Tests.{eq-eqb, ne_eqb}
use mathlib.Core.Path.{◌≡◌, sym, ap, ◌∙◌}
use lib.ListN.{drop}
use Rattle.std.specs.Prelude.{Some}
use Rattle.entry.specs.Look.{look_of, edits}
use Rattle.entry.proofs.Looks.{found, stored_look}
use Rattle.entry.proofs.slice.Stored.sight.Goals as goal
use Rattle.entry.proofs.slice.Stored.sight.Goals.{After-head-h}

-- the head that was read tells what stands there
is : (c : After-head-h) → Some (found c.head-h.result) ≡ look_of (drop c.args.i (edits c.args.self.now))
is c = ap (λ h. Some (found h)) c.head-h.ensures ∙ stored_look c.args.self.now c.args.i c.requires

pub returns-then-h-eq-ADD : goal.returns-then-h-eq-ADD
returns-then-h-eq-ADD c = rw (eq-eqb _ _ c.if-h-eq-ADD.true) at (is (goal.at.returns-then-h-eq-ADD c).After-head-h)

pub returns-then-h-eq-STRIKE : goal.returns-then-h-eq-STRIKE
returns-then-h-eq-STRIKE c =
    rw (ne_eqb _ _ c.if-h-eq-ADD.false, eq-eqb _ _ c.if-h-eq-STRIKE.true) at (is (goal.at.returns-then-h-eq-STRIKE c).After-head-h)

pub returns : goal.returns
returns c =
    rw c.column_of.ensures (rw (ne_eqb _ _ c.if-h-eq-ADD.false, ne_eqb _ _ c.if-h-eq-STRIKE.false) at (is (goal.at.returns c).After-head-h))
