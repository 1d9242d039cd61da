-- `weave::rest_if` meets its contract: where the walk writes, the numbers of the entries are copied behind those that stand.
-- Assumes nothing.
use native.Mathlib.Omega.{arith}
use native.Mathlib.Nat.{mul-le-mul_right}
use Prim.Native.Nat.{◌+◌, ◌*◌, ◌-◌, ◌≤◌}
use lib.ListN.{take, drop}
use Rattle.theory.proofs.Raw as raw
use Rattle.weave.proofs.Buffer.{put_wrote, put_kept, put_paste}
use Rattle.weave.proofs.rest_if.Goals as goal
use Rattle.weave.proofs.rest_if.Goals.{Start}

off : (c : Start) → c.args.i * (c.args.c + 2) ≤ c.args.mr * (c.args.c + 2)
off c = let a = c.args in mul-le-mul_right {m = a.i} {n = a.mr} (a.c + 2) c.requires.upto

few : (c : Start) → c.args.mr * (c.args.c + 2) ≤ 5120
few c =
    let a = c.args in
    raw.small {m = a.mr} {c = a.c} c.requires.held.entries c.requires.held.columns

pub overflow_mul-at : goal.overflow_mul-at
overflow_mul-at c = omega (arith, off (goal.at.overflow_mul-at c).Start, few (goal.at.overflow_mul-at c).Start)

pub offset_bounds-r-at : goal.offset_bounds-r-at
offset_bounds-r-at c = omega (arith, off (goal.at.offset_bounds-r-at c).Start, few (goal.at.offset_bounds-r-at c).Start)

pub slice_bounds-copy_in-count : goal.slice_bounds-copy_in-count
slice_bounds-copy_in-count c = off (goal.at.slice_bounds-copy_in-count c).Start

pub slice_bounds-copy_in-start : goal.slice_bounds-copy_in-start
slice_bounds-copy_in-start c = omega (arith, off (goal.at.slice_bounds-copy_in-start c).Start, c.requires.held.room)

pub overflow_mul-m : goal.overflow_mul-m
overflow_mul-m c =
    omega (arith, c.requires.room c.if-write.true, c.well_formed)

pub copy_in-requires : goal.copy_in-requires
copy_in-requires c = c.requires.room c.if-write.true

pub returns-then-write : goal.returns-then-write
returns-then-write c =
    let a = c.args in
    let f = c.copy_in in
    put_wrote a.write _ a.out.now (a.m * (a.c + 2)) f.new.dst c.if-write.true
    (put_paste (take (a.mr * (a.c + 2) - a.i * (a.c + 2)) (drop (a.i * (a.c + 2)) a.r.now))
    a.out.now f.new.dst (a.m * (a.c + 2)) (c.requires.room c.if-write.true) f.ensures.1)

pub returns-else-write : goal.returns-else-write
returns-else-write c = put_kept _ _ _ _ c.if-write.false
