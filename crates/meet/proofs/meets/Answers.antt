-- `meet::meets` meets its contract: the keys are compared first, then the kinds.
-- Assumes nothing.
use borrow.Author.Tests.{lt-ltb, le-ltb}
use Rattle.meet.proofs.meets.Goals as goal

pub returns-then-a-b : goal.returns-then-a-b
returns-then-a-b c = rw (lt-ltb _ _ c.if-a-b.true)

pub returns-then-b-a : goal.returns-then-b-a
returns-then-b-a c = rw (le-ltb _ _ c.if-a-b.false, lt-ltb _ _ c.if-b-a.true)

pub returns : goal.returns
returns c =
    rw (le-ltb _ _ c.if-a-b.false, le-ltb _ _ c.if-b-a.false) c.meeting.ensures
