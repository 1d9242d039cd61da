-- The halving: where the edit lands stays between lo and hi.
-- Assumes nothing.
use Prim.Native.Nat.{◌-◌, ◌≤◌}
use Rattle.entry.specs.Look.{edits}
use Rattle.head.specs.Head.{seen}
use Rattle.landing.specs.Landing.{landing}
use Rattle.landing.proofs.landing.Given as goal

abbrev pub invariant-loop-lo : goal.invariant-loop-lo
invariant-loop-lo l =
    (l.lo ≤ landing (seen l.e) (edits l.layer)) × (landing (seen l.e) (edits l.layer) ≤ l.hi) × (l.hi ≤ l.layer.m)

abbrev pub decreases-loop-lo : goal.decreases-loop-lo
decreases-loop-lo l =
    l.hi - l.lo
