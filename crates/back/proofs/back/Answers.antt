-- `back::back` meets its contract: refused as the form check refuses, then for its row number, else as the row stands.
-- Assumes nothing.
use borrow.Author.Tests.{le-leb, lt-leb}
use mathlib.Core.Path.{◌≡◌, sym, ap, ◌∙◌}
use Rattle.std.proofs.Common.{rules}
use Rattle.std.specs.Prelude.{Ok, Err}
use native.Mathlib.Omega.{arith}
use Rattle.form.proofs.Accepted.{Accepted, accepted}
use Rattle.model.specs.Layer.{rows_after}
use Rattle.model.specs.Raw.{layer_of}
use Rattle.back.proofs.Answers.{back_checked}
use Rattle.back.proofs.back.Goals as goal
use Rattle.back.proofs.back.Goals.{In_ok-rows}

-- what acceptance gives
known : (c : In_ok-rows) → let a = c.args in
    Accepted a.c a.n a.m a.layer.now c.in_ok-rows.rows
known c = accepted _ _ _ _ _ (sym c.check_layer.ensures ∙ c.in_ok-rows.was)

pub returns-then-rows-r : goal.returns-then-rows-r
returns-then-rows-r c =
    let a = c.args in
    rw (
      c.refused.ensures,
      back_checked a.c a.n a.m a.layer.now a.r,
      ← c.check_layer.ensures,
      c.in_ok-rows.was,
      le-leb (rows_after a.n (layer_of a.c a.m a.layer.now)) a.r
          (omega (arith, c.if-rows-r.true, (known (goal.at.returns-then-rows-r c).In_ok-rows).shown)),
    )

pub invariant_of-stored : goal.invariant_of-stored
invariant_of-stored c = record { held = (known (goal.at.invariant_of-stored c).In_ok-rows).held }

pub origin_of-requires : goal.origin_of-requires
origin_of-requires c =
    let k = known (goal.at.origin_of-requires c).In_ok-rows in
    (k.base, k.ordered, omega (arith, c.if-rows-r.false, k.shown))

pub returns : goal.returns
returns c =
    let a = c.args in
    rw (
      back_checked a.c a.n a.m a.layer.now a.r,
      ← c.check_layer.ensures,
      c.in_ok-rows.was,
      lt-leb (rows_after a.n (layer_of a.c a.m a.layer.now)) a.r
          (omega (arith, c.if-rows-r.false, (known (goal.at.returns c).In_ok-rows).shown)),
    )
    (ap Ok c.origin_of.ensures)

pub returns-in_err-rows : goal.returns-in_err-rows
returns-in_err-rows c =
    let a = c.args in
    let e : c.from_residual.result ≡ Err c.in_err-rows.field-0.0 = search rules in
    e ∙ sym (back_checked a.c a.n a.m a.layer.now a.r ∙ rw (← c.check_layer.ensures, c.in_err-rows.was))
