-- `view::touched` meets its contract: none of the entries passed shows, so what is left decides.
-- Assumes nothing.
use mathlib.Core.Path.{◌≡◌}
use Rattle.order.specs.Lists.{any}
use Rattle.model.specs.Read.{touches}
use Rattle.entry.specs.Look.{edits}
use Rattle.view.proofs.Touching.{touched_from}
use Rattle.view.proofs.touched.Given as goal

abbrev pub invariant-loop-i : goal.invariant-loop-i
invariant-loop-i l =
    any (touches l.j) (edits l.layer) ≡ touched_from l.layer l.i l.j
