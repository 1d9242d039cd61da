-- `walk::clashes` meets its contract: entry number i is the first of those from it on.
-- Assumes nothing.
use mathlib.Core.Path.{sym, ap, ◌∙◌}
use borrow.Author.Tests.{le-ltb}
use Rattle.model.specs.Layer.{Layer}
use Rattle.model.specs.Conflict.{clash, met}
use Rattle.head.specs.declared.Head.{Head}
use Rattle.head.specs.Head.{seen}
use Rattle.head.proofs.Heads.{clash_head}
use Rattle.entry.specs.Look.{entry_of}
use Rattle.entry.proofs.Looks.{stored_end}
use Rattle.walk.specs.Walk.{rule_ahead}
use Rattle.walk.proofs.Marks.{entry_here}
use Rattle.walk.proofs.clashes.Goals as goal

pub returns-then-i-layer : goal.returns-then-i-layer
returns-then-i-layer c =
    let a = c.args in
    c.is_some.ensures
    ∙ (ap met c.rule_met.ensures
    ∙ (ap (λ (h : Head). met (clash (seen a.e) (seen h))) c.head.ensures
    ∙ (ap met (clash_head (seen a.e) (entry_of a.layer.now a.i))
    ∙ sym (ap (λ (L : Layer). met (rule_ahead (seen a.e) L)) (entry_here a.layer.now a.i c.if-i-layer.true).split))))

pub returns-else-i-layer : goal.returns-else-i-layer
returns-else-i-layer c =
    let a = c.args in
    le-ltb a.i a.layer.now.m c.if-i-layer.false
    ∙ sym (ap (λ (L : Layer). met (rule_ahead (seen a.e) L)) (stored_end a.layer.now a.i c.if-i-layer.false))
