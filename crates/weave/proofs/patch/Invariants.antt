-- `weave::patch` meets its contract: what is left to do is what the rest of the layer asks of the row.
-- Assumes nothing.
use mathlib.Core.Path.{◌≡◌}
use lib.ListN.{drop}
use Rattle.entry.specs.Look.{edits}
use Rattle.woven.specs.Woven.{patched}
use Rattle.weave.proofs.patch.Given as goal

abbrev pub invariant-loop-i : goal.invariant-loop-i
invariant-loop-i l =
    patched l.p (drop l.from (edits l.layer)) l.initial.row ≡ patched l.p (drop l.i (edits l.layer)) l.row
