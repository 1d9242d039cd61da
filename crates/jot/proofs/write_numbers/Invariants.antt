-- `jot::write_numbers` meets its contract: after i turns the bytes of the first i numbers stand in front.
-- Assumes nothing.
use mathlib.Core.Path.{◌≡◌}
use Prim.Native.Nat.{◌-◌, ◌≤◌}
use lib.ListN.{length}
use Rattle.jot.proofs.Written.{front}
use Rattle.jot.proofs.write_numbers.Given as goal

abbrev pub invariant-loop-i : goal.invariant-loop-i
invariant-loop-i l =
    (l.i ≤ l.k) × (length l.file ≡ length l.initial.file) × (l.file ≡ front l.numbers l.initial.file l.i)

abbrev pub decreases-loop-i : goal.decreases-loop-i
decreases-loop-i l =
    l.k - l.i
