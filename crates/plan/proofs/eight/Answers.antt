-- A row written over eight zeros.
-- Assumes nothing.
use mathlib.Core.Path.{◌∙◌}
use Rattle.plan.proofs.Planned.{filled}
use Rattle.plan.proofs.eight.Goals as goal

pub returns : goal.returns
returns c = c.copy_in.ensures.1 ∙ filled c.args.row.now
