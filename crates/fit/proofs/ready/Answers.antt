-- `fit::ready` meets its contract: the arguments, then the one pass; what it found is judged, or the refusals are gone through in turn.
-- Assumes nothing.
use mathlib.Core.Path.{◌≡◌, sym, ◌∙◌}
use mathlib.Core.Bool.{true}
use lib.ListN.{length}
use Rattle.std.proofs.Common.{rules}
use Rattle.std.specs.Prelude.{Err}
use Rattle.model.specs.Form.{args_ok}
use Rattle.model.specs.Calls.{form_answer}
use Rattle.theory.proofs.Raw.{args_held}
use Rattle.form.proofs.Formed.{args_refused, judged, judges}
use Rattle.form.proofs.Accepted.{in_form}
use Rattle.fit.proofs.Fitting.{place}
use Rattle.vet.proofs.Vetting.{all_fit}
use Rattle.fit.proofs.Answers.{form_refused, keys_refused, ready_done}
use Rattle.fit.proofs.ready.Goals as goal
use Rattle.fit.proofs.ready.Goals.{After-judge, Else-not-args_ok}

pub returns-then-not-args_ok : goal.returns-then-not-args_ok
returns-then-not-args_ok c =
    c.refused.ensures
    ∙ form_refused _ _ _ _ _ (sym (args_refused _ _ _ _ (sym c.args_ok.ensures ∙ c.if-not-args_ok.true)))

passed : (c : Else-not-args_ok) → let a = c.args in
    args_ok a.c (length a.keys.now) a.m (length a.layer.now) ≡ true
passed c = sym c.args_ok.ensures ∙ c.if-not-args_ok.false

pub invariant_of-stored : goal.invariant_of-stored
invariant_of-stored c =
    record { held = (args_held _ _ _ _ (passed (goal.at.invariant_of-stored c).Else-not-args_ok)).0 }

pub returns-then-seen-m : goal.returns-then-seen-m
returns-then-seen-m c = c.in_turn.ensures

pub judge-requires : goal.judge-requires
judge-requires c =
    judged _ _ _ _ (passed (goal.at.judge-requires c).Else-not-args_ok) _ _ _
    (c.form_and_fit-seen.ensures.complete c.if-seen-m.false)

-- what the judge says is the form check's answer
formed : (c : After-judge) → let a = c.args in
    c.judge.result ≡ form_answer a.c (length a.keys.now) a.m a.layer.now
formed c =
    c.judge.ensures
    ∙ judges _ _ _ _ (sym c.args_ok.ensures ∙ c.if-not-args_ok.false) _ _ _
    (c.form_and_fit-seen.ensures.complete c.if-seen-m.false)

pub returns-then-not-ascend : goal.returns-then-not-ascend
returns-then-not-ascend c =
    c.refused-then-not-ascend.ensures
    ∙ keys_refused _ _ _ _ _ (sym (formed (goal.at.returns-then-not-ascend c).After-judge) ∙ c.in_ok-rows.was)
    (sym c.ascend.ensures ∙ c.if-not-ascend.true)

pub returns-in_err-rows : goal.returns-in_err-rows
returns-in_err-rows c =
    let e : c.from_residual.result ≡ Err c.in_err-rows.field-0.0 = search rules in
    e ∙ form_refused _ _ _ _ _ (sym (formed (goal.at.returns-in_err-rows c).After-judge) ∙ c.in_err-rows.was)

pub returns : goal.returns
returns c =
    let f = sym (formed (goal.at.returns c).After-judge) ∙ c.in_ok-rows.was in
    ready_done _ _ _ _ _ f (sym c.ascend.ensures ∙ c.if-not-ascend.false) _
    (sym (place _ _ _ _ (in_form _ _ _ _ _ f)))
    (all_fit c.form_and_fit-seen.ensures c.if-seen-m.false)
