-- Striking a base row: its changes stand from where the strike lands up to the first entry past the row.
-- Assumes nothing.
use Prim.Native.Nat.{◌+◌, ◌-◌}
use mathlib.Core.Path.{◌≡◌}
use Rattle.std.specs.Prelude.{Some}
use Rattle.words.specs.Entry.{ADD, STRIKE}
use Rattle.entry.specs.Look.{edits}
use Rattle.landing.specs.Landing.{aim, landing}
use Rattle.landing.proofs.Landed.{aimed}
use Rattle.plan.proofs.Answers.{may_land}
use Rattle.plan.proofs.Struck.{in_turn_lem}
use Rattle.plan.proofs.strike_base.Goals as goal
use Rattle.plan.proofs.strike_base.Goals.{After-landing-end}

pub landing-i-requires : goal.landing-i-requires
landing-i-requires c = may_land c.requires.0

pub landing-end-requires : goal.landing-end-requires
landing-end-requires c = may_land c.requires.0

-- where the strike lands, and the first entry past the row
starts : (c : After-landing-end) → c.landing-i.result ≡ landing (aim c.args.s STRIKE 0) (edits c.args.layer.now)
starts c = aimed (edits c.args.layer.now) c.landing-i.ensures c.new.ensures

ends : (c : After-landing-end) → c.landing-end.result ≡ landing (aim (c.args.s + 1) ADD 0) (edits c.args.layer.now)
ends c = aimed (edits c.args.layer.now) c.landing-end.ensures c.new-2.ensures

pub overflow_sub-gone : goal.overflow_sub-gone
overflow_sub-gone c =
    let w = (goal.at.overflow_sub-gone c).After-landing-end in
    (in_turn_lem c.args.s (edits c.args.layer.now) (may_land c.requires.0) _ _ (starts w) (ends w)).0

pub returns : goal.returns
returns c =
    let w = (goal.at.returns c).After-landing-end in
    λ x. record { i = starts w x; gone = ends w x - starts w x; comes = Some (c.strike-entry.ensures x) }
