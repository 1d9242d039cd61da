-- `position::shift` meets its contract: refused past n, and as the check refuses, else the shift is `shift_at`'s.
-- Assumes nothing.
use native.Mathlib.Omega.{arith}
use mathlib.Core.Path.{◌≡◌, sym, ap, ◌∙◌}
use Rattle.std.proofs.Common.{rules}
use Rattle.std.specs.Prelude.{Ok, Err}
use Rattle.form.proofs.Accepted.{Accepted, accepted}
use Rattle.tally.proofs.Signed.{read_back}
use Rattle.tally.proofs.Small.{shift_small}
use Rattle.position.proofs.Answers.{shift_past, shift_within}
use Rattle.position.proofs.shift.Goals as goal
use Rattle.position.proofs.shift.Goals.{In_ok-check_layer}

-- what the check gives where it is done
known : (c : In_ok-check_layer) → let a = c.args in
    Accepted a.c a.n a.m a.layer.now c.in_ok-check_layer.field-0
known c = accepted _ _ _ _ _ (sym c.check_layer.ensures ∙ c.in_ok-check_layer.was)

pub returns-then-n-s : goal.returns-then-n-s
returns-then-n-s c = c.refused.ensures ∙ shift_past _ _ _ _ _ (omega (arith, c.if-n-s.true))

pub invariant_of-stored : goal.invariant_of-stored
invariant_of-stored c = record { held = (known (goal.at.invariant_of-stored c).In_ok-check_layer).held }

pub returns : goal.returns
returns c =
    let a = c.args in
    rw (
      shift_within a.c a.n a.m a.layer.now a.s (omega (arith, c.if-n-s.false)),
      ← c.check_layer.ensures,
      c.in_ok-check_layer.was,
    )
    (ap Ok (read_back _ _ c.shift_at.ensures (shift_small _ _ _ _ (known (goal.at.returns c).In_ok-check_layer).held)))

pub returns-in_err-check_layer : goal.returns-in_err-check_layer
returns-in_err-check_layer c =
    let a = c.args in
    let e : c.from_residual.result ≡ Err c.in_err-check_layer.field-0.0 = search rules in
    e
    ∙ sym (shift_within a.c a.n a.m a.layer.now a.s (omega (arith, c.if-n-s.false))
    ∙ rw (← c.check_layer.ensures, c.in_err-check_layer.was))
