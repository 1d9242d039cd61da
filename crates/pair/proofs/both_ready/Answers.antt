-- `pair::both_ready` meets its contract: the form check, the keys, then the place of fit of each layer, X before Y.
-- Assumes nothing.
use native.Mathlib.Omega.{arith}
use mathlib.Core.Path.{◌≡◌, sym, ◌∙◌}
use lib.ListN.{length}
use Rattle.std.proofs.Common.{rules}
use Rattle.std.specs.Prelude.{Err}
use Rattle.form.specs.InForm.{InForm}
use Rattle.form.proofs.Accepted.{accepted}
use Rattle.pair.proofs.Stages.{forms, form_refused, keys_refused, mine_misfits, theirs_misfits, both_fit}
use Rattle.pair.proofs.both_ready.Goals as goal
use Rattle.pair.proofs.both_ready.Goals.{In_ok-rows}

-- both layers are in form
both : (c : In_ok-rows) → let a = c.args in
    InForm a.c (length a.keys.now) a.mx a.x.now × InForm a.c (length a.keys.now) a.my a.y.now
both c = forms _ _ _ _ _ _ _ (sym c.both_formed.ensures ∙ c.in_ok-rows.was)

pub invariant_of-x : goal.invariant_of-x
invariant_of-x c = record { held = (accepted _ _ _ _ _ (both (goal.at.invariant_of-x c).In_ok-rows).0).held }

pub invariant_of-y : goal.invariant_of-y
invariant_of-y c = record { held = (accepted _ _ _ _ _ (both (goal.at.invariant_of-y c).In_ok-rows).1).held }

pub returns-then-not-ascend : goal.returns-then-not-ascend
returns-then-not-ascend c =
    c.refused.ensures
    ∙ keys_refused _ _ _ _ _ _ _ (sym c.both_formed.ensures ∙ c.in_ok-rows.was)
    (sym c.ascend.ensures ∙ c.if-not-ascend.true)

pub fit_place-mine-requires : goal.fit_place-mine-requires
fit_place-mine-requires c = (both (goal.at.fit_place-mine-requires c).In_ok-rows).0

pub returns-then-mine-mx : goal.returns-then-mine-mx
returns-then-mine-mx c =
    c.refused-then-mine-mx.ensures
    ∙ mine_misfits _ _ _ _ _ _ _ (sym c.both_formed.ensures ∙ c.in_ok-rows.was)
    (sym c.ascend.ensures ∙ c.if-not-ascend.false) _ c.fit_place-mine.ensures c.if-mine-mx.true

pub fit_place-theirs-requires : goal.fit_place-theirs-requires
fit_place-theirs-requires c = (both (goal.at.fit_place-theirs-requires c).In_ok-rows).1

pub overflow_add-theirs : goal.overflow_add-theirs
overflow_add-theirs c =
    omega (
      arith,
      (accepted _ _ _ _ _ (both (goal.at.overflow_add-theirs c).In_ok-rows).1).held.entries,
      c.if-theirs-my.true,
    )

pub returns-then-theirs-my : goal.returns-then-theirs-my
returns-then-theirs-my c =
    rw c.refused-then-theirs-my.ensures
    (theirs_misfits _ _ _ _ _ _ _ (sym c.both_formed.ensures ∙ c.in_ok-rows.was)
    (sym c.ascend.ensures ∙ c.if-not-ascend.false) _ c.fit_place-mine.ensures c.if-mine-mx.false _
    c.fit_place-theirs.ensures c.if-theirs-my.true)

pub returns-in_err-rows : goal.returns-in_err-rows
returns-in_err-rows c =
    let e : c.from_residual.result ≡ Err c.in_err-rows.field-0.0 = search rules in
    e ∙ form_refused _ _ _ _ _ _ _ (sym c.both_formed.ensures ∙ c.in_err-rows.was)

pub returns : goal.returns
returns c =
    both_fit _ _ _ _ _ _ _ (sym c.both_formed.ensures ∙ c.in_ok-rows.was)
    (sym c.ascend.ensures ∙ c.if-not-ascend.false) _ c.fit_place-mine.ensures c.if-mine-mx.false _
    c.fit_place-theirs.ensures c.if-theirs-my.false
