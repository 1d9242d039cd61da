-- A value of an entry stands within the slice.
-- Assumes nothing.
use native.Mathlib.Nat.{mul-le-mul_right, suc-mul}
use native.Mathlib.Omega.{arith}
use mathlib.Core.Path.{refl}
use Prim.Native.Nat.{suc, ◌+◌, ◌*◌, ◌≤◌}
use lib.ListN.{length}
use Rattle.enter.proofs.set_value.Goals as goal
use Rattle.enter.proofs.set_value.Goals.{Start}

own : (c : Start) → let a = c.args in (a.x.i * (a.c + 2) + (a.c + 2) ≤ a.m * (a.c + 2))
    × (a.m * (a.c + 2) ≤ length a.layer.now) × (a.m * (a.c + 2) ≤ 5120)
own c =
    let a = c.args in
    let H = c.requires.0 in (
      omega (arith, suc-mul a.x.i (a.c + 2), mul-le-mul_right {m = suc a.x.i} (a.c + 2) c.requires.1.0),
      H.room,
      omega (arith, mul-le-mul_right {m = a.m} (a.c + 2) H.entries, H.columns),
    )

pub overflow_mul-at : goal.overflow_mul-at
overflow_mul-at c = omega (arith, own (goal.at.overflow_mul-at c).Start)

pub overflow_add-own-2 : goal.overflow_add-own-2
overflow_add-own-2 c = omega (arith, own (goal.at.overflow_add-own-2 c).Start, c.requires.1.1)

pub offset_bounds-layer-own : goal.offset_bounds-layer-own
offset_bounds-layer-own c = omega (arith, own (goal.at.offset_bounds-layer-own c).Start, c.requires.1.1)

pub bounds-layer-own : goal.bounds-layer-own
bounds-layer-own c = omega (arith, own (goal.at.bounds-layer-own c).Start, c.requires.1.1)

pub returns : goal.returns
returns c = refl
