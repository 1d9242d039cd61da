-- `suit::rises` meets its contract: the test by numbers is the definition's.
-- Assumes nothing.
use mathlib.Core.Path.{refl}
use Rattle.suit.proofs.rises.Goals as goal

pub returns : goal.returns
returns c = refl
