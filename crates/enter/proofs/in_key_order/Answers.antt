-- Two splices in the order of their numbers.
-- Assumes nothing.
use mathlib.Core.Path.{refl}
use Rattle.enter.proofs.in_key_order.Goals as goal

pub returns-then-lower : goal.returns-then-lower
returns-then-lower c = rw c.if-lower.true refl

pub returns-else-lower : goal.returns-else-lower
returns-else-lower c = rw c.if-lower.false refl
