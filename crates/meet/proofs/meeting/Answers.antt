-- `meet::meeting` meets its contract: its tests are the definition's, in its order.
-- Assumes nothing.
use borrow.Author.Tests.{eq-eqb, ne_eqb, lt-ltb, le-ltb}
use Rattle.meet.proofs.meeting.Goals as goal

pub returns-then-q-eq-ADD : goal.returns-then-q-eq-ADD
returns-then-q-eq-ADD c = rw (eq-eqb _ _ c.if-q-eq-ADD.true)

pub returns-then-q-eq-STRIKE : goal.returns-then-q-eq-STRIKE
returns-then-q-eq-STRIKE c = rw (ne_eqb _ _ c.if-q-eq-ADD.false, eq-eqb _ _ c.if-d-eq-ADD.true, eq-eqb _ _ c.if-q-eq-STRIKE.true)

pub returns-then-d-eq-ADD : goal.returns-then-d-eq-ADD
returns-then-d-eq-ADD c = rw (ne_eqb _ _ c.if-q-eq-ADD.false, eq-eqb _ _ c.if-d-eq-ADD.true, ne_eqb _ _ c.if-q-eq-STRIKE.false)

pub returns-then-q-d : goal.returns-then-q-d
returns-then-q-d c = rw (ne_eqb _ _ c.if-q-eq-ADD.false, ne_eqb _ _ c.if-d-eq-ADD.false, c.if-q-d.true)

pub returns-then-d-q : goal.returns-then-d-q
returns-then-d-q c =
    rw (ne_eqb _ _ c.if-q-eq-ADD.false, ne_eqb _ _ c.if-d-eq-ADD.false, c.if-q-d.false, lt-ltb _ _ c.if-d-q.true)

pub returns-then-d-q-2 : goal.returns-then-d-q-2
returns-then-d-q-2 c =
    rw (
      ne_eqb _ _ c.if-q-eq-ADD.false,
      ne_eqb _ _ c.if-d-eq-ADD.false,
      c.if-q-d.false,
      le-ltb _ _ c.if-d-q.false,
      eq-eqb _ _ c.if-d-q-2.true,
    )

pub returns : goal.returns
returns c =
    rw (
      ne_eqb _ _ c.if-q-eq-ADD.false,
      ne_eqb _ _ c.if-d-eq-ADD.false,
      c.if-q-d.false,
      le-ltb _ _ c.if-d-q.false,
      ne_eqb _ _ c.if-d-q-2.false,
    )
