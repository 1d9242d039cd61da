-- `walk::advance` meets its contract: at every turn all that is passed stands before e.
-- Assumes nothing.
use mathlib.Core.Path.{◌≡◌}
use Rattle.head.specs.Head.{seen}
use Rattle.entry.specs.Look.{edits}
use Rattle.walk.specs.Walk.{Marks, Early}
use Rattle.walk.proofs.advance.Given as goal

abbrev pub invariant-loop-i : goal.invariant-loop-i
invariant-loop-i l =
    (l.k.i ≡ l.i) × Marks (edits l.layer) l.k × Early (edits l.layer) l.k.i (seen l.e)
