-- A row gathered value by value: after j turns its first j values stand in front of the zeros.
-- Assumes nothing.
use Prim.Native.Nat.{◌+◌, ◌*◌, ◌≤◌}
use mathlib.Core.Path.{◌≡◌}
use lib.ListN.{replicate}
use lib.Seq.{paste}
use Rattle.model.specs.Row.{row_at}
use Rattle.lift.proofs.row_at.Given as goal

abbrev pub invariant-loop-j : goal.invariant-loop-j
invariant-loop-j l =
    (l.j ≤ l.c) × (l.at ≡ l.j * l.w + l.s) × (l.vals ≡ paste (replicate 8 0) 0 (row_at l.c l.w l.xs l.s) l.j)
