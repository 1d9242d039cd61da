-- `stacked::check_both` meets its contract: its tests are the rows of the table, in its order.
-- Assumes nothing.
use native.Mathlib.Omega.{arith}
use mathlib.Core.Path.{◌≡◌, sym, ◌∙◌}
use mathlib.Core.Bool.{true, ◌&&◌}
use lib.ListN.{length}
use Rattle.std.proofs.Common.{rules}
use Rattle.std.specs.Prelude.{Err}
use Rattle.model.specs.Form.{args_ok}
use Rattle.form.proofs.Accepted.{accepted}
use Rattle.stacked.proofs.Answers.{args_refused, lower_form_refused, upper_form_refused, upper_place, forms, fits_answer_lem}
use Rattle.stacked.proofs.check_both.Goals as goal
use Rattle.stacked.proofs.check_both.Goals.{Else-not-args_ok}

-- the arguments of both layers pass
passed : (c : Else-not-args_ok) → let a = c.args in
    args_ok a.c (length a.keys.now) a.mr (length a.r.now)
    && args_ok a.c (length a.keys.now) a.mw (length a.w.now) ≡ true
passed c = rw (← c.args_ok.ensures, ← c.args_ok-2.ensures) c.if-not-args_ok.false

pub returns-then-not-args_ok : goal.returns-then-not-args_ok
returns-then-not-args_ok c =
    rw c.refused.ensures (
      args_refused _ _ _ _ _ _ (rw (← c.args_ok.ensures, ← c.args_ok-2.ensures) c.if-not-args_ok.true),
      tt,
    )

pub overflow_add-y : goal.overflow_add-y
overflow_add-y c =
    let a = c.args in
    let ok = passed (goal.at.overflow_add-y c).Else-not-args_ok in
    let low = sym c.check.ensures ∙ c.in_ok-rows.was in
    let up = sym c.check-2.ensures ∙ c.in-Err.is in
    omega (arith, upper_place a.c a.keys.now a.mr a.r.now a.mw a.w.now ok c.in_ok-rows.rows low c.in-Err.y up)

-- both layers are held
pub invariant_of-s : goal.invariant_of-s
invariant_of-s c = record {
  lower_held = (accepted _ _ _ _ _ (sym c.check.ensures ∙ c.in_ok-rows.was)).held;
  upper_held = (accepted _ _ _ _ _ (sym c.check-2.ensures ∙ c.in-Ok.is)).held;
}

pub fit_both-requires : goal.fit_both-requires
fit_both-requires c =
    let ok = passed (goal.at.fit_both-requires c).Else-not-args_ok in
    let low = sym c.check.ensures ∙ c.in_ok-rows.was in (
      forms _ _ _ _ _ _ ok _ low _ (sym c.check-2.ensures ∙ c.in-Ok.is),
      (accepted _ _ _ _ _ low).shown,
      c.requires,
    )

pub returns-in_err-rows : goal.returns-in_err-rows
returns-in_err-rows c =
    let e : c.from_residual.result ≡ Err c.in_err-rows.field-0.0 = search rules in
    rw e (
      lower_form_refused _ _ _ _ _ _ (passed (goal.at.returns-in_err-rows c).Else-not-args_ok) _
          (sym c.check.ensures ∙ c.in_err-rows.was),
      tt,
    )

pub returns-in-Err : goal.returns-in-Err
returns-in-Err c =
    let ok = passed (goal.at.returns-in-Err c).Else-not-args_ok in
    let low = sym c.check.ensures ∙ c.in_ok-rows.was in
    let up = sym c.check-2.ensures ∙ c.in-Err.is in
    rw c.refused-in-Err.ensures (upper_form_refused _ _ _ _ _ _ ok _ low _ up, tt)

pub returns-in-Ok : goal.returns-in-Ok
returns-in-Ok c =
    let ok = passed (goal.at.returns-in-Ok c).Else-not-args_ok in
    let low = sym c.check.ensures ∙ c.in_ok-rows.was in
    let up = sym c.check-2.ensures ∙ c.in-Ok.is in
    (c.fit_both.ensures.0 ∙ fits_answer_lem _ _ _ _ _ _ ok _ low _ up, c.fit_both.ensures.1)
