-- `over::Stack::lower` meets its contract: the numbers are those of the stack.
-- Assumes nothing.
use Rattle.over.proofs.Layers.{lower_is}
use Rattle.over.proofs.stack.Stack.lower.Goals as goal

pub returns : goal.returns
returns c = lower_is c.args.self.now _
