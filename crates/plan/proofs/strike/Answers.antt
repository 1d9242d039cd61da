-- Striking a row number: of the base row or of the added entry behind it.
-- Assumes nothing.
use mathlib.Core.Path.{sym, ap, ◌∙◌}
use Rattle.entry.specs.Look.{edits}
use Rattle.plan.specs.Moves.{strike_splice}
use Rattle.plan.proofs.Answers.{may_look}
use Rattle.plan.proofs.Planned.{of_base}
use Rattle.landing.proofs.Known.{known}
use Rattle.plan.proofs.strike.Goals as goal

pub origin_of-requires : goal.origin_of-requires
origin_of-requires c = may_look c.requires.0 c.requires.1

pub strike_base-requires : goal.strike_base-requires
strike_base-requires c =
    let w = of_base (known c.requires.0) c.args.r c.requires.1 _ (sym c.origin_of.ensures ∙ c.in-Base.is) in
    (c.requires.0, w.0, w.1)

pub returns-in-Base : goal.returns-in-Base
returns-in-Base c =
    let a = c.args in
    c.strike_base.ensures
    ∙ ap (strike_splice a.keys.now (edits a.layer.now)) (sym c.in-Base.is ∙ c.origin_of.ensures)

pub returns-in-Added : goal.returns-in-Added
returns-in-Added c =
    let a = c.args in
    c.out.ensures ∙ ap (strike_splice a.keys.now (edits a.layer.now)) (sym c.in-Added.is ∙ c.origin_of.ensures)
