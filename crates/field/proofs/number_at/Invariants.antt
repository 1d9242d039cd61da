-- `field::number_at` meets its contract: what is read so far and the bytes to come make the whole field.
-- Assumes nothing.
use mathlib.Core.Path.{◌≡◌}
use Prim.Native.Nat.{◌≤◌, ◌<◌}
use lib.ListN.{length, drop}
use Rattle.decimal.specs.Number.{too_large}
use Rattle.field.specs.Scan.{scanned}
use Rattle.field.proofs.number_at.Given as goal

abbrev pub invariant-loop-i : goal.invariant-loop-i
invariant-loop-i l =
    (l.i ≤ length l.bytes) × (l.k ≤ 20) × (l.v < too_large)
    × (scanned 0 0 l.at (drop l.at l.bytes) ≡ scanned l.k l.v l.i (drop l.i l.bytes))
