-- `keys::ascend_from` meets its contract: one step along the keys at each turn.
-- Assumes nothing.
use mathlib.Core.Path.{◌≡◌}
use Rattle.keys.specs.Rising.{ascend_from}
use Rattle.keys.proofs.ascend_from.Given as goal

abbrev pub invariant-loop-i : goal.invariant-loop-i
invariant-loop-i l =
    ascend_from l.keys l.from ≡ ascend_from l.keys l.i
