-- A base row with its changes: each of them sets one value.
-- Assumes nothing.
use mathlib.Core.Path.{◌≡◌}
use mathlib.Core.Bool.{true}
use lib.ListN.{take, drop}
use Rattle.order.specs.Lists.{all}
use Rattle.model.specs.Layer.{changed}
use Rattle.entry.specs.Look.{edits}
use Rattle.lift.specs.Own.{own_change}
use Rattle.lift.proofs.shown_row.Given as goal

abbrev pub invariant-loop-k : goal.invariant-loop-k
invariant-loop-k l =
    (all (own_change l.layer.c l.s) (drop l.k (take l.end (edits l.layer))) ≡ true)
    × (changed l.s (drop l.k (take l.end (edits l.layer))) l.row
    ≡ changed l.s (drop l.i (take l.end (edits l.layer))) l.initial.row)
