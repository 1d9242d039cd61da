-- `keys::five_ascend` meets its contract: four steps along the keys.
-- Assumes nothing.
use Rattle.keys.proofs.Rising.{four_steps}
use Rattle.keys.proofs.five_ascend.Goals as goal

pub returns : goal.returns
returns c = four_steps c.args.keys.now c.args.i c.requires
