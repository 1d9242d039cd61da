-- `keys::nine_ascend` meets its contract: four steps along the keys, twice.
-- Assumes nothing.
use native.Mathlib.Omega.{arith}
use Prim.Native.Nat.{◌+◌}
use Rattle.keys.proofs.Rising.{on}
use Rattle.keys.proofs.nine_ascend.Goals as goal

pub returns : goal.returns
returns c =
    let a = c.args in
    on a.keys.now a.i (a.i + 4) (a.i + 4 + 4) (a.i + 8) c.five_ascend-low.result c.five_ascend-high.result
    c.five_ascend-low.ensures c.five_ascend-high.ensures (omega arith)
