-- `form::check_layer` meets its contract: an empty layer is answered by its arguments, else it is the form check.
-- Assumes nothing.
use mathlib.Core.Path.{sym, ◌∙◌}
use native.Mathlib.Omega.{arith}
use Rattle.form.proofs.Formed.{args_refused, empty_done}
use Rattle.form.proofs.check_layer.Goals as goal

pub returns-then-args_ok : goal.returns-then-args_ok
returns-then-args_ok c =
    let a = c.args in
    empty_done a.c a.n a.m a.layer.now
    (omega (arith, c.if-m-eq0.true)) (sym c.args_ok.ensures ∙ c.if-args_ok.true)

pub returns-then-m-eq0 : goal.returns-then-m-eq0
returns-then-m-eq0 c =
    c.refused.ensures ∙ args_refused _ _ _ _ (sym c.args_ok.ensures ∙ c.if-args_ok.false)

pub returns : goal.returns
returns c = c.check.ensures
