-- Two changes of one cell pass each other where their values are equal.
-- Assumes nothing.
use mathlib.Core.Path.{refl}
use Rattle.head.proofs.agrees.Goals as goal

pub returns : goal.returns
returns c = refl
