-- `little::read_numbers` meets its contract: after i turns the first i numbers stand in front.
-- Assumes nothing.
use mathlib.Core.Path.{◌≡◌}
use Prim.Native.Nat.{◌-◌, ◌≤◌}
use lib.ListN.{length}
use lib.Seq.{paste}
use Rattle.little.specs.Little.{numbers_at}
use Rattle.little.proofs.read_numbers.Given as goal

abbrev pub invariant-loop-i : goal.invariant-loop-i
invariant-loop-i l =
    (l.i ≤ l.k) × (length l.out ≡ length l.initial.out) × (l.out ≡ paste l.initial.out 0 (numbers_at l.k l.at l.file) l.i)

abbrev pub decreases-loop-i : goal.decreases-loop-i
decreases-loop-i l =
    l.k - l.i
