-- `fit::in_turn` meets its contract: the form check, then the keys, then the place of the first entry that does not fit.
-- Assumes nothing.
use mathlib.Core.Path.{◌≡◌, sym, ◌∙◌}
use Rattle.std.proofs.Common.{rules}
use Rattle.std.specs.Prelude.{Err}
use Rattle.form.proofs.Accepted.{accepted, in_form}
use Rattle.fit.proofs.Answers.{form_refused, keys_refused, place_refused, ready_done}
use Rattle.fit.proofs.in_turn.Goals as goal

pub returns-then-not-ascend : goal.returns-then-not-ascend
returns-then-not-ascend c =
    c.refused.ensures
    ∙ keys_refused _ _ _ _ _ (sym c.check.ensures ∙ c.in_ok-rows.was) (sym c.ascend.ensures ∙ c.if-not-ascend.true)

pub invariant_of-stored : goal.invariant_of-stored
invariant_of-stored c =
    record { held = (accepted _ _ _ _ _ (in_form _ _ _ _ _ (sym c.check.ensures ∙ c.in_ok-rows.was))).held }

pub fit_place-place-requires : goal.fit_place-place-requires
fit_place-place-requires c = in_form _ _ _ _ _ (sym c.check.ensures ∙ c.in_ok-rows.was)

pub returns-then-place-m : goal.returns-then-place-m
returns-then-place-m c =
    c.refused-then-place-m.ensures
    ∙ place_refused _ _ _ _ _ (sym c.check.ensures ∙ c.in_ok-rows.was) (sym c.ascend.ensures ∙ c.if-not-ascend.false) _
    c.fit_place-place.ensures c.if-place-m.true

pub returns-in_err-rows : goal.returns-in_err-rows
returns-in_err-rows c =
    let e : c.from_residual.result ≡ Err c.in_err-rows.field-0.0 = search rules in
    e ∙ form_refused _ _ _ _ _ (sym c.check.ensures ∙ c.in_err-rows.was)

pub returns : goal.returns
returns c =
    ready_done _ _ _ _ _ (sym c.check.ensures ∙ c.in_ok-rows.was) (sym c.ascend.ensures ∙ c.if-not-ascend.false) _
    c.fit_place-place.ensures c.if-place-m.false
