-- `read::read` meets its contract: where the answer is done the buffer is filled, where it is refused nothing is written.
-- Assumes nothing.
use mathlib.Core.Path.{◌≡◌, sym, ap, ◌∙◌}
use lib.ListN.{length}
use Rattle.std.proofs.Common.{rules}
use Rattle.std.specs.Prelude.{Ok, Err}
use Rattle.model.specs.Calls.{read_answer}
use Rattle.read.proofs.Answers.{Finished, done, can_read, slice_after}
use Rattle.read.proofs.read.Goals as goal
use Rattle.read.proofs.read.Goals.{In_ok-answer}

-- the answer is done: the read is

answered : (c : In_ok-answer) → let a = c.args in
    Ok c.in_ok-answer.field-0
    ≡ read_answer a.c a.m a.layer.now a.base.now a.j (length a.out.now)
answered c = sym c.in_ok-answer.was ∙ c.answer.ensures

finished : (c : In_ok-answer) → let a = c.args in
    Finished a.c a.m a.layer.now a.base.now a.j (length a.out.now) c.in_ok-answer.field-0
finished c = done _ _ _ _ _ _ _ (sym (answered c))

pub invariant_of-stored : goal.invariant_of-stored
invariant_of-stored c = record { held = (finished (goal.at.invariant_of-stored c).In_ok-answer).held }

pub read_part-requires : goal.read_part-requires
read_part-requires c = can_read _ _ _ _ _ (finished (goal.at.read_part-requires c).In_ok-answer)

pub returns-in_err-answer : goal.returns-in_err-answer
returns-in_err-answer c =
    let k : c.from_residual.result ≡ Err c.in_err-answer.field-0.0 = search rules in
    let e = sym c.in_err-answer.was ∙ c.answer.ensures in
    (k ∙ e, slice_after _ _ _ _ _ _ _ e)

pub returns : goal.returns
returns c =
    let f = c.read_part.ensures in
    let d = (goal.at.returns c).In_ok-answer in
    let e = ap Ok (f.0 ∙ (finished d).rows_are) ∙ answered d in
    (e, f.1 ∙ slice_after _ _ _ _ _ _ _ e)
