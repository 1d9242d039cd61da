-- Changing a cell of a base row: its old change is replaced where it stands, or the new one is entered where it lands.
-- Assumes nothing.
use mathlib.Core.Path.{◌≡◌, sym, ◌∙◌}
use Rattle.entry.specs.Look.{edits}
use Rattle.write.specs.Plans.{splices, sets}
use Rattle.landing.specs.Landing.{aim, landing}
use Rattle.landing.proofs.Landed.{aimed}
use Rattle.landing.proofs.Known.{known}
use Rattle.plan.proofs.Answers.{may_land}
use Rattle.plan.proofs.Planned.{change_stands, change_comes}
use Rattle.plan.proofs.change_base.Goals as goal
use Rattle.plan.proofs.change_base.Goals.{After-landing-i}

-- where the change lands
lands : (c : After-landing-i) → let a = c.args in c.landing-i.result ≡ landing (aim a.s a.j 0) (edits a.layer.now)
lands c = aimed (edits c.args.layer.now) c.landing-i.ensures c.new.ensures

pub landing-i-requires : goal.landing-i-requires
landing-i-requires c = may_land c.requires.0

pub returns-then-changes : goal.returns-then-changes
returns-then-changes c =
    let a = c.args in
    sets (change_stands (known c.requires.0) a.s a.j a.v _ c.requires.2 c.requires.3
    (lands (goal.at.returns-then-changes c).After-landing-i) (sym c.changes.ensures ∙ c.if-changes.true))

pub returns : goal.returns
returns c =
    let a = c.args in
    splices (change_comes (known c.requires.0) a.s a.j a.v _ c.requires.2 c.requires.3
    (lands (goal.at.returns c).After-landing-i)
    (sym c.changes.ensures ∙ c.if-changes.false) c.change-entry.result c.change-entry.ensures)
