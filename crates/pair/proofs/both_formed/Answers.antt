-- `pair::both_formed` meets its contract: the form check of each layer, X before Y.
-- Assumes nothing.
use native.Mathlib.Omega.{arith}
use mathlib.Core.Path.{◌≡◌, sym, ◌∙◌}
use mathlib.Core.Bool.{true, ◌&&◌}
use lib.ListN.{length}
use Rattle.std.proofs.Common.{rules}
use Rattle.std.specs.Prelude.{Err}
use Rattle.model.specs.Form.{args_ok}
use Rattle.form.proofs.Accepted.{accepted}
use Rattle.pair.proofs.Stages.{args_refused, mine_refused, theirs_refused, theirs_place, both_formed}
use Rattle.pair.proofs.both_formed.Goals as goal
use Rattle.pair.proofs.both_formed.Goals.{Else-not-args_ok}

-- the arguments of both layers pass
ok : (c : Else-not-args_ok) → let a = c.args in
    (args_ok a.c a.n a.mx (length a.x.now) && args_ok a.c a.n a.my (length a.y.now)) ≡ true
ok c = rw (← c.args_ok.ensures, ← c.args_ok-2.ensures) c.if-not-args_ok.false

pub returns-then-not-args_ok : goal.returns-then-not-args_ok
returns-then-not-args_ok c =
    c.refused.ensures
    ∙ args_refused _ _ _ _ _ _ (rw (← c.args_ok.ensures, ← c.args_ok-2.ensures) c.if-not-args_ok.true)

pub overflow_add-r : goal.overflow_add-r
overflow_add-r c =
    let p = ok (goal.at.overflow_add-r c).Else-not-args_ok in
    let mine = sym c.check.ensures ∙ c.in_ok-mine.was in
    let theirs = sym c.check-2.ensures ∙ c.in-Err.is in
    omega (arith, theirs_place _ _ _ _ _ _ p _ mine _ theirs)

pub overflow_add-result : goal.overflow_add-result
overflow_add-result c =
    let mine = sym c.check.ensures ∙ c.in_ok-mine.was in
    let theirs = sym c.check-2.ensures ∙ c.in-Ok.is in
    omega (arith, (accepted _ _ _ _ _ mine).few, (accepted _ _ _ _ _ theirs).few)

pub returns-in_err-mine : goal.returns-in_err-mine
returns-in_err-mine c =
    let e : c.from_residual.result ≡ Err c.in_err-mine.field-0.0 = search rules in
    e ∙ mine_refused _ _ _ _ _ _ (ok (goal.at.returns-in_err-mine c).Else-not-args_ok) _
    (sym c.check.ensures ∙ c.in_err-mine.was)

pub returns-in-Err : goal.returns-in-Err
returns-in-Err c =
    c.refused-in-Err.ensures
    ∙ theirs_refused _ _ _ _ _ _ (ok (goal.at.returns-in-Err c).Else-not-args_ok) _
    (sym c.check.ensures ∙ c.in_ok-mine.was) _ (sym c.check-2.ensures ∙ c.in-Err.is)

pub returns-in-Ok : goal.returns-in-Ok
returns-in-Ok c =
    both_formed _ _ _ _ _ _ (ok (goal.at.returns-in-Ok c).Else-not-args_ok) _
    (sym c.check.ensures ∙ c.in_ok-mine.was) c.in-Ok.theirs (sym c.check-2.ensures ∙ c.in-Ok.is)
