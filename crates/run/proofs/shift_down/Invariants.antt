-- Moving a run down, the first number first: those up to k are pasted w places lower.
-- Assumes nothing.
use mathlib.Core.Path.{◌≡◌}
use Prim.Native.Nat.{◌-◌, ◌≤◌}
use lib.ListN.{length, drop}
use lib.Seq.{paste}
use Rattle.run.proofs.shift_down.Given as goal

abbrev pub invariant-loop-k : goal.invariant-loop-k
invariant-loop-k l =
    (l.a ≤ l.k) × (l.k ≤ l.b) × (length l.layer ≡ length l.initial.layer) × (l.layer ≡ paste l.initial.layer (l.a - l.w) (drop l.a l.initial.layer) (l.k - l.a))

abbrev pub decreases-loop-k : goal.decreases-loop-k
decreases-loop-k l =
    l.b - l.k
