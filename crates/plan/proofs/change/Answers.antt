-- Changing a cell of a row number: of the base row or of the added entry behind it.
-- Assumes nothing.
use mathlib.Core.Path.{sym, ◌∙◌}
use Rattle.plan.proofs.Answers.{may_look}
use Rattle.plan.proofs.Planned.{of_base, change_of_base, change_of_added}
use Rattle.landing.proofs.Known.{known}
use Rattle.plan.proofs.change.Goals as goal

pub origin_of-requires : goal.origin_of-requires
origin_of-requires c = may_look c.requires.0 c.requires.1

pub change_base-requires : goal.change_base-requires
change_base-requires c =
    let w = of_base (known c.requires.0) c.args.r c.requires.1 _ (sym c.origin_of.ensures ∙ c.in-Base.is) in
    (c.requires.0, w.0, c.requires.2, c.requires.3)

pub returns-in-Base : goal.returns-in-Base
returns-in-Base c =
    let a = c.args in
    change_of_base (known c.requires.0) a.r c.requires.1 a.j a.v _ (sym c.origin_of.ensures ∙ c.in-Base.is) _
    c.change_base.ensures

pub returns-in-Added : goal.returns-in-Added
returns-in-Added c =
    let a = c.args in
    change_of_added (known c.requires.0) a.r c.requires.1 a.j a.v _ (sym c.origin_of.ensures ∙ c.in-Added.is)
    c.requires.3
