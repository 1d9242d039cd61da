-- `keys::ascend` meets its contract: eight steps along the keys at each turn, and the rest one by one.
-- Assumes nothing.
use mathlib.Core.Path.{◌≡◌}
use Prim.Native.Nat.{◌*◌}
use Rattle.order.specs.Lists.{ascending}
use Rattle.keys.specs.Rising.{ascend_from}
use Rattle.keys.proofs.ascend.Given as goal

abbrev pub invariant-loop-k : goal.invariant-loop-k
invariant-loop-k l =
    ascending l.keys ≡ ascend_from l.keys (8 * l.k)
