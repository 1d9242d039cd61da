-- `meet::changes_ahead` meets its contract: the invariant says that what is passed and what is ahead are the whole.
-- Assumes nothing.
use native.Mathlib.Omega.{arith}
use mathlib.Core.Path.{sym, ap, ◌∙◌}
use Rattle.std.specs.Prelude.{Some}
use Rattle.theory.proofs.Raw.{layer_length}
use Rattle.entry.specs.Look.{edits}
use Rattle.meet.proofs.Ahead.{ahead_end, ahead_on}
use Rattle.meet.proofs.changes_ahead.Goals as goal

pub loop-i-preserved : goal.loop-i-preserved
loop-i-preserved c =
    let L = edits c.args.layer.now in
    let look = sym c.sight.ensures ∙ ap Some c.in-Change.is in
    omega (arith, c.loop-i.invariant, ahead_on c.args.p L c.loop-i.i _ _ _ look c.if-s-p.true)

pub returns : goal.returns
returns c =
    let l = c.args.layer.now in
    omega (
      arith,
      c.loop-i.invariant,
      c.loop-i.auto,
      c.requires,
      ahead_end c.args.p (edits l) c.loop-i.i (omega (arith, c.loop-i-test.false, layer_length l.c l.m l.numbers.now)),
    )
