-- `decimal::last_digit` meets its contract: the digit's byte is computed as the definition says.
-- Assumes nothing.
use mathlib.Core.Path.{refl}
use Rattle.decimal.proofs.last_digit.Goals as goal

pub returns : goal.returns
returns c = refl
