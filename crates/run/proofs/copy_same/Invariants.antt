-- Copying over a slice of the same length: after k turns the first k numbers are pasted.
-- Assumes nothing.
use mathlib.Core.Path.{◌≡◌}
use Prim.Native.Nat.{◌-◌, ◌≤◌}
use lib.ListN.{length}
use lib.Seq.{paste}
use Rattle.run.proofs.copy_same.Given as goal

abbrev pub invariant-loop-k : goal.invariant-loop-k
invariant-loop-k l =
    (l.k-end ≡ length l.src) × (l.k ≤ length l.src) × (length l.dst ≡ length l.initial.dst) × (l.dst ≡ paste l.initial.dst 0 l.src l.k)

abbrev pub decreases-loop-k : goal.decreases-loop-k
decreases-loop-k l =
    length l.src - l.k
