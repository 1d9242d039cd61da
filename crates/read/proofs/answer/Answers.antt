-- `read::answer` meets its contract: the column number, then the form check, then the room of the buffer.
-- Assumes nothing.
use native.Mathlib.Omega.{arith}
use Prim.Native.Nat.{◌<◌}
use mathlib.Core.Path.{◌≡◌, sym, ◌∙◌}
use lib.ListN.{length}
use Rattle.std.proofs.Common.{rules}
use Rattle.std.specs.Prelude.{Ok, Err}
use Rattle.model.specs.Calls.{form_answer}
use Rattle.read.proofs.Answers.{column_refused, form_refused, short, enough}
use Rattle.read.proofs.answer.Goals as goal
use Rattle.read.proofs.answer.Goals.{Else-c-j, In_ok-rows}

pub returns-then-c-j : goal.returns-then-c-j
returns-then-c-j c = c.refused.ensures ∙ column_refused _ _ _ _ _ _ (omega (arith, c.if-c-j.true))

-- the column number passes
below : (c : Else-c-j) → c.args.j < c.args.c
below c = omega (arith, c.if-c-j.false)

-- the form check is done
formed : (c : In_ok-rows) → let a = c.args in
    form_answer a.c (length a.base.now) a.m a.layer.now ≡ Ok c.in_ok-rows.rows
formed c = sym c.check_layer.ensures ∙ c.in_ok-rows.was

pub returns-then-len-rows : goal.returns-then-len-rows
returns-then-len-rows c =
    let p = goal.at.returns-then-len-rows c in
    c.refused-then-len-rows.ensures
    ∙ short _ _ _ _ _ _ _ (below p.Else-c-j) (formed p.In_ok-rows) (omega (arith, c.if-len-rows.true))

pub returns-in_err-rows : goal.returns-in_err-rows
returns-in_err-rows c =
    let e : c.from_residual.result ≡ Err c.in_err-rows.field-0.0 = search rules in
    let p = goal.at.returns-in_err-rows c in
    e ∙ form_refused _ _ _ _ _ _ _ (below p.Else-c-j) (sym c.check_layer.ensures ∙ c.in_err-rows.was)

pub returns : goal.returns
returns c =
    let p = goal.at.returns c in
    enough _ _ _ _ _ _ _ (below p.Else-c-j) (formed p.In_ok-rows) (omega (arith, c.if-len-rows.false))
