-- `told::past_rows` meets its contract: past all row numbers is 65,536 further.
-- Assumes nothing.
use mathlib.Core.Path.{refl}
use Rattle.told.proofs.past_rows.Goals as goal

pub returns : goal.returns
returns c = refl
