-- Copying by pairs: after each turn the numbers up to `a` are pasted.
-- Assumes nothing.
use mathlib.Core.Path.{◌≡◌}
use Prim.Native.Nat.{◌+◌, ◌-◌, ◌≤◌}
use lib.ListN.{length, drop}
use lib.Seq.{paste}
use Rattle.pairs.proofs.copy_pairs.Given as goal

abbrev pub invariant-loop-a : goal.invariant-loop-a
invariant-loop-a l =
    (l.at ≤ l.a) × (l.a ≤ l.end) × (l.b + l.at ≡ l.o + l.a) × (length l.out ≡ length l.initial.out) × (l.out ≡ paste l.initial.out l.o (drop l.at l.layer) (l.a - l.at))

abbrev pub decreases-loop-a : goal.decreases-loop-a
decreases-loop-a l =
    l.end - l.a
