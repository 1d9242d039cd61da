-- `view::touched` meets its contract: none of the entries passed shows, so what is left decides.
-- Assumes nothing.
use Prim.Native.Nat.{◌+◌}
use mathlib.Core.Path.{◌≡◌, sym, ◌∙◌}
use mathlib.Core.Bool.{◌||◌}
use lib.ListN.{drop}
use Rattle.order.specs.Lists.{any}
use Rattle.model.specs.Read.{touches}
use Rattle.entry.specs.Look.{edits}
use Rattle.view.proofs.Touching.{touched_step, touched_end}
use Rattle.view.proofs.touched.Goals as goal
use Rattle.view.proofs.touched.Goals.{After-shows}

-- in a turn: the entry shows, or a later one does
judged : (c : After-shows) → let a = c.args in let L = edits a.layer.now in
    any (touches a.j) L ≡ (c.shows.result || any (touches a.j) (drop (c.loop-i.i + 1) L))
judged c =
    c.loop-i.invariant
    ∙ rw c.shows.ensures (touched_step c.args.layer.now _ _ c.sight.result c.sight.ensures c.loop-i-test.true)

pub returns-then-shows : goal.returns-then-shows
returns-then-shows c = sym (judged (goal.at.returns-then-shows c).After-shows ∙ rw c.if-shows.true)

pub loop-i-preserved : goal.loop-i-preserved
loop-i-preserved c = judged (goal.at.loop-i-preserved c).After-shows ∙ rw c.if-shows.false

pub returns : goal.returns
returns c = sym (c.loop-i.invariant ∙ touched_end c.args.layer.now _ _ c.loop-i-test.false)
