-- `pass::move_past` meets its contract: where no refusal is met, the new positions are written.
-- Assumes nothing.
use native.Mathlib.Omega.{arith}
use mathlib.Core.Path.{◌≡◌, sym, ◌∙◌}
use Rattle.std.proofs.Common.{rules}
use Rattle.std.specs.Prelude.{Ok, Err}
use Rattle.model.specs.Raw.{layer_of}
use Rattle.fit.proofs.Answers.{ready_form}
use Rattle.pair.proofs.Stages.{checked}
use Rattle.pass.proofs.Sides.{Sides, movable}
use Rattle.pass.proofs.Moving.{checked_refused, ready, clash_refused, rows_refused, passes}
use Rattle.pass.proofs.move_past.Goals as goal
use Rattle.pass.proofs.move_past.Goals.{In_ok-rows}

-- both layers are ready

done : (c : In_ok-rows) → let a = c.args in
    checked a.c a.keys.now a.mx a.x.now a.my a.y.now
    ≡ Ok c.in_ok-rows.rows
done c = sym c.both_ready.ensures ∙ c.in_ok-rows.was

sides : (c : In_ok-rows) → let a = c.args in Sides a.c a.keys.now a.mx a.x.now a.my a.y.now
sides c = ready _ _ _ _ _ _ _ (done c)

pub invariant_of-mine : goal.invariant_of-mine
invariant_of-mine c = record { held = (ready_form (sides (goal.at.invariant_of-mine c).In_ok-rows).mine).held }

pub invariant_of-theirs : goal.invariant_of-theirs
invariant_of-theirs c = record { held = (ready_form (sides (goal.at.invariant_of-theirs c).In_ok-rows).theirs).held }

pub first_clash-place-requires : goal.first_clash-place-requires
first_clash-place-requires c =
    let S = sides (goal.at.first_clash-place-requires c).In_ok-rows in
    (movable _ _ _ S.mine S.theirs, (ready_form S.mine).held.entries)

pub returns-then-place-mx : goal.returns-then-place-mx
returns-then-place-mx c =
    rw c.refused.ensures
    (clash_refused _ _ _ _ _ _ _ (done (goal.at.returns-then-place-mx c).In_ok-rows) _ c.first_clash-place.ensures.0
    c.if-place-mx.true)

pub overflow_add-keys : goal.overflow_add-keys
overflow_add-keys c =
    omega (arith, (ready_form (sides (goal.at.overflow_add-keys c).In_ok-rows).mine).base)

pub returns-then-keys-rows : goal.returns-then-keys-rows
returns-then-keys-rows c =
    rw c.refused-then-keys-rows.ensures
    (rows_refused _ _ _ _ _ _ _ (done (goal.at.returns-then-keys-rows c).In_ok-rows) _ c.first_clash-place.ensures.0
    c.if-place-mx.false c.if-keys-rows.true)

pub put_positions-requires : goal.put_positions-requires
put_positions-requires c =
    let A = ready_form (sides (goal.at.put_positions-requires c).In_ok-rows).mine in
    (A.held, A.zeroed)

pub returns-in_err-rows : goal.returns-in_err-rows
returns-in_err-rows c =
    let e : c.from_residual.result ≡ Err c.in_err-rows.field-0.0 = search rules in
    rw e (checked_refused _ _ _ _ _ _ _ (sym c.both_ready.ensures ∙ c.in_err-rows.was))

pub returns : goal.returns
returns c =
    let a = c.args in
    let f = c.first_clash-place.ensures in
    let all = c.if-place-mx.false in
    passes _ _ _ _ _ _ _ (done (goal.at.returns c).In_ok-rows) _ f.0 all c.if-keys-rows.false _
    (c.put_positions.ensures (layer_of a.c a.my a.y.now) (λ j h. f.1 j (omega (arith, h, all))))
