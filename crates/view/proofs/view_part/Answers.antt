-- Where the read is done, the entries that show decide between the front of the buffer and the base column.
-- Assumes nothing.
use mathlib.Core.Path.{◌≡◌, refl, sym, ap, ◌∙◌}
use Rattle.std.specs.Prelude.{Ok}
use Rattle.std.specs.Result.{result_ok}
use Rattle.model.specs.Calls.{read_answer}
use Rattle.read.proofs.Answers.{done}
use Rattle.view.proofs.Viewing.{counted, front_viewed, base_viewed, none_viewed}
use Rattle.view.proofs.view_part.Goals as goal
use Rattle.view.proofs.view_part.Goals.{In_ok-rows}

-- the answer of the read
read_done : (c : In_ok-rows) → let a = c.args in
    read_answer a.c a.m a.layer.now a.base.now a.j a.len ≡ Ok c.in_ok-rows.rows
read_done c =
    sym c.answer.ensures ∙ counted _ c.in_ok-rows.rows (sym c.ok.ensures.value ∙ c.in_ok-rows.was)

pub invariant_of-stored : goal.invariant_of-stored
invariant_of-stored c =
    record { held = (done _ _ _ _ _ _ _ (read_done (goal.at.invariant_of-stored c).In_ok-rows)).held }

pub returns-then-touched : goal.returns-then-touched
returns-then-touched c =
    let a = c.args in
    let t = sym c.touched.ensures ∙ c.if-touched.true in
    rw (front_viewed a.c a.m a.layer.now a.base.now a.j a.len _ (read_done (goal.at.returns-then-touched c).In_ok-rows) t) refl

pub returns : goal.returns
returns c =
    let a = c.args in
    let t = sym c.touched.ensures ∙ c.if-touched.false in
    rw (base_viewed a.c a.m a.layer.now a.base.now a.j a.len _ (read_done (goal.at.returns c).In_ok-rows) t) refl

pub returns-in_err-rows : goal.returns-in_err-rows
returns-in_err-rows c =
    let a = c.args in
    let e = sym (ap result_ok c.answer.ensures) ∙ (sym c.ok.ensures.value ∙ c.in_err-rows.was) in
    c.from_residual.ensures ∙ rw (none_viewed a.c a.m a.layer.now a.base.now a.j a.len e) refl
