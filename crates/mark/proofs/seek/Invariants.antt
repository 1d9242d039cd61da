-- `mark::seek` meets its contract: at every turn the mark finds the same rows.
-- Assumes nothing.
use mathlib.Core.Path.{◌≡◌}
use Prim.Native.Nat.{◌-◌}
use Rattle.entry.specs.Look.{edits}
use Rattle.mark.specs.Walk.{Marks}
use Rattle.mark.proofs.seek.Given as goal

abbrev pub invariant-loop-t : goal.invariant-loop-t
invariant-loop-t l =
    Marks (edits l.layer) l.k × (l.k.row ≡ l.row)

abbrev pub decreases-loop-t : goal.decreases-loop-t
decreases-loop-t l =
    l.layer.m - l.k.i
