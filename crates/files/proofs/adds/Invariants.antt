-- `files::adds`: each turn writes one number.
-- Assumes nothing.
use mathlib.Core.Path.{◌≡◌}
use Prim.Native.Nat.{◌-◌, ◌≤◌}
use lib.ListN.{length}
use Rattle.files.proofs.adds.Given as goal

abbrev pub invariant-loop-i : goal.invariant-loop-i
invariant-loop-i l =
    (l.i ≤ 512) × (length l.layer ≡ length l.initial.layer)

abbrev pub decreases-loop-i : goal.decreases-loop-i
decreases-loop-i l =
    512 - l.i
