-- `probe::check` meets its contract: an accepted file of an empty layer, else the whole check.
-- Assumes nothing.
use mathlib.Core.Path.{sym}
use Rattle.probe.proofs.check.Goals as goal

pub returns-then-empty : goal.returns-then-empty
returns-then-empty c = sym (c.empty.ensures c.if-empty.true)

pub returns : goal.returns
returns c = c.whole.ensures
