-- `over::Stack::upper` meets its contract: the numbers are those of the stack.
-- Assumes nothing.
use Rattle.over.proofs.Layers.{upper_is}
use Rattle.over.proofs.stack.Stack.upper.Goals as goal

pub returns : goal.returns
returns c = upper_is c.args.self.now _
