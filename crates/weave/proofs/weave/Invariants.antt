-- `weave::weave` meets its contract: the invariant says that what is written and what the walk still leaves are the whole.
-- Assumes nothing.
use Prim.Native.Nat.{◌+◌, ◌-◌}
use Rattle.model.specs.Raw.{layer_of}
use Rattle.over.specs.Over.{over}
use Rattle.weave.proofs.Writing.{Going}
use Rattle.weave.proofs.weave.Given as goal

abbrev pub invariant-loop-k : goal.invariant-loop-k
invariant-loop-k l =
    let s = l.s in
    Going l.write s.c s.keys.now (over s.c s.keys.now s.mr s.r.now) (layer_of s.c s.mr s.r.now)
    (layer_of s.c s.mw s.w.now) l.initial.out l.k l.out

abbrev pub decreases-loop-k : goal.decreases-loop-k
decreases-loop-k l =
    (l.s.mr + l.s.mw) - (l.k.i + l.k.j)
