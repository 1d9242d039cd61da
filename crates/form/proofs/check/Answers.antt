-- `form::check` meets its contract: the arguments, then what the pass finds is judged.
-- Assumes nothing.
use mathlib.Core.Path.{◌≡◌, sym, ◌∙◌}
use mathlib.Core.Bool.{true}
use lib.ListN.{length}
use Rattle.model.specs.Form.{args_ok}
use Rattle.theory.proofs.Raw.{args_held}
use Rattle.form.proofs.Formed.{args_refused, judged, judges}
use Rattle.form.proofs.check.Goals as goal
use Rattle.form.proofs.check.Goals.{Else-not-args_ok}

pub returns-then-not-args_ok : goal.returns-then-not-args_ok
returns-then-not-args_ok c =
    c.refused.ensures ∙ args_refused _ _ _ _ (sym c.args_ok.ensures ∙ c.if-not-args_ok.true)

passed : (c : Else-not-args_ok) → let a = c.args in
    args_ok a.c a.n a.m (length a.layer.now) ≡ true
passed c = sym c.args_ok.ensures ∙ c.if-not-args_ok.false

pub invariant_of-stored : goal.invariant_of-stored
invariant_of-stored c =
    record { held = (args_held _ _ _ _ (passed (goal.at.invariant_of-stored c).Else-not-args_ok)).0 }

pub judge-requires : goal.judge-requires
judge-requires c = judged _ _ _ _ (passed (goal.at.judge-requires c).Else-not-args_ok) _ _ _ c.scan_layer.ensures

pub returns : goal.returns
returns c =
    c.judge.ensures ∙ judges _ _ _ _ (passed (goal.at.returns c).Else-not-args_ok) _ _ _ c.scan_layer.ensures
