-- `head::stands_before` meets its contract: another position decides alone; else the tests are those of the order, by kind.
-- Assumes nothing.
use borrow.Author.Tests.{lt-ltb, le-ltb, eq-eqb, ne_eqb}
use Rattle.head.proofs.Heads.{before_by}
use Rattle.head.proofs.stands_before.Goals as goal

pub returns-then-d-e : goal.returns-then-d-e
returns-then-d-e c = rw (lt-ltb _ _ c.if-d-e.true)

pub returns-then-d-e-2 : goal.returns-then-d-e-2
returns-then-d-e-2 c = rw (le-ltb _ _ c.if-d-e.false, ne_eqb _ _ c.if-d-e-2.true)

pub returns : goal.returns
returns c =
    let a = c.args in
    let t = le-ltb _ _ c.if-d-e.false in
    let u = eq-eqb _ _ c.if-d-e-2.false in
    rw (t, u) (rw (t, u) at (before_by a.d a.e))
