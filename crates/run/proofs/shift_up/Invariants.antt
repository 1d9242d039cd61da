-- Moving a run up, the last number first: those from k on are pasted w places higher.
-- Assumes nothing.
use mathlib.Core.Path.{◌≡◌}
use Prim.Native.Nat.{◌+◌, ◌-◌, ◌≤◌}
use lib.ListN.{length, drop}
use lib.Seq.{paste}
use Rattle.run.proofs.shift_up.Given as goal

abbrev pub invariant-loop-k : goal.invariant-loop-k
invariant-loop-k l =
    (l.a ≤ l.k) × (l.k ≤ l.b) × (length l.layer ≡ length l.initial.layer) × (l.layer ≡ paste l.initial.layer (l.k + l.w) (drop l.k l.initial.layer) (l.b - l.k))

abbrev pub decreases-loop-k : goal.decreases-loop-k
decreases-loop-k l =
    l.k - l.a
