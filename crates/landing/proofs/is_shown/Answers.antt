-- Whether a key is shown: by what a look finds where its add would land, and by the base key there.
-- Assumes nothing.
use mathlib.Core.Path.{◌≡◌, sym, ap, ◌∙◌}
use mathlib.Core.Bool.{Bool, false, not, ◌&&◌, ◌||◌}
use lib.ListN.{drop}
use lib.Dec.{eqb}
use Rattle.std.specs.Prelude.{Some}
use Rattle.std.proofs.Common.{rules}
use Rattle.model.specs.Read.{keys_after}
use Rattle.model.specs.Refusals.{shown_key}
use Rattle.entry.specs.Look.{look_of, edits}
use Rattle.landing.proofs.Landed.{has_key}
use Rattle.landing.proofs.Known.{known}
use Rattle.landing.proofs.Shown.{shown_add, shown_strike, shown_base}
use Rattle.landing.proofs.is_shown.Goals as goal
use Rattle.landing.proofs.is_shown.Goals.{After-look}

finds : (c : After-look) → look_of (drop c.args.i (edits c.args.layer.now)) ≡ c.look.result
finds c = sym c.look.ensures

pub returns-in-Some-Add : goal.returns-in-Some-Add
returns-in-Some-Add c =
    let a = c.args in
    let l = a.layer.now in
    ap (λ (t : Bool). t || (eqb c.in-Some-Add.t a.p && eqb c.in-Some-Add.v a.k)) c.key_is-base.ensures
    ∙ shown_add l.c l.m l.numbers.now a.keys.now (known c.requires.0) a.k a.p c.requires.1 a.i c.requires.2 _ _
    (finds (goal.at.returns-in-Some-Add c).After-look ∙ (c.in-Some-Add.is ∙ ap Some c.in-Some-Add.field-0-is))

pub returns-in-Some-Strike : goal.returns-in-Some-Strike
returns-in-Some-Strike c =
    let a = c.args in
    let l = a.layer.now in
    ap (λ (t : Bool). t && not (eqb c.in-Some-Strike.t a.p)) c.key_is-base.ensures
    ∙ shown_strike l.c l.m l.numbers.now a.keys.now (known c.requires.0) a.k a.p c.requires.1 a.i c.requires.2 _ _
    (finds (goal.at.returns-in-Some-Strike c).After-look ∙ (c.in-Some-Strike.is ∙ ap Some c.in-Some-Strike.field-0-is))

-- it is neither an add nor a strike
other : (c : After-look) → has_key c.look.result ≡ false
    → c.key_is-base.result ≡ shown_key c.args.k (keys_after c.args.keys.now (edits c.args.layer.now))
other c h =
    let a = c.args in
    let l = a.layer.now in
    c.key_is-base.ensures
    ∙ shown_base l.c l.m l.numbers.now a.keys.now (known c.requires.0) a.k a.p c.requires.1 a.i c.requires.2
    (ap has_key (finds c) ∙ h)

pub returns-in_default : goal.returns-in_default
returns-in_default c =
    let h : has_key c.look.result ≡ false = search rules in
    other (goal.at.returns-in_default c).After-look h

pub returns-in_default-2 : goal.returns-in_default-2
returns-in_default-2 c = other (goal.at.returns-in_default-2 c).After-look (ap has_key c.in_default.is)
