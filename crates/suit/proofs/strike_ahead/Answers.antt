-- `suit::strike_ahead` meets its contract: what was passed stands at s and strikes nothing.
-- Assumes nothing.
use borrow.Author.Tests.{eq-eqb, ne_eqb}
use mathlib.Core.Path.{◌≡◌, ◌∙◌}
use Prim.Native.Nat.{◌+◌}
use mathlib.Core.Bool.{◌&&◌, ◌||◌}
use lib.Dec.{eqb}
use Rattle.words.specs.Entry.{STRIKE}
use Rattle.entry.specs.Look.{entry_of, entries_from}
use Rattle.suit.specs.Suit.{struck_ahead}
use Rattle.suit.proofs.Looks.{ahead_step, ahead_end}
use Rattle.suit.proofs.strike_ahead.Goals as goal
use Rattle.suit.proofs.strike_ahead.Goals.{After-pos}

-- what this entry says, and those after it
step : (c : After-pos) → let a = c.args in
    let l = a.layer.now in
    let j = c.loop-j.j in
    struck_ahead a.s (entries_from l a.i)
    ≡ (eqb c.pos.result a.s && (eqb (entry_of l j).kind STRIKE || struck_ahead a.s (entries_from l (j + 1))))
step c = c.loop-j.invariant ∙ rw c.pos.ensures (ahead_step c.args.layer.now c.loop-j.j c.args.s c.loop-j-test.true)

pub returns-then-pos-s : goal.returns-then-pos-s
returns-then-pos-s c = rw (step (goal.at.returns-then-pos-s c).After-pos, ne_eqb _ _ c.if-pos-s.true)

pub returns-then-kind-eq-STRIKE : goal.returns-then-kind-eq-STRIKE
returns-then-kind-eq-STRIKE c =
    rw (
      step (goal.at.returns-then-kind-eq-STRIKE c).After-pos,
      eq-eqb _ _ c.if-pos-s.false,
      ← c.kind.ensures,
      eq-eqb _ _ c.if-kind-eq-STRIKE.true,
    )

pub loop-j-preserved : goal.loop-j-preserved
loop-j-preserved c =
    step (goal.at.loop-j-preserved c).After-pos
    ∙ rw (eq-eqb _ _ c.if-pos-s.false, ← c.kind.ensures, ne_eqb _ _ c.if-kind-eq-STRIKE.false)

pub returns : goal.returns
returns c = rw (c.loop-j.invariant, ahead_end c.args.layer.now c.loop-j.j c.args.s c.loop-j-test.false)
