-- `add::add` meets its contract: the refusals in the table's order, then the splice is entered.
-- Assumes nothing.
use native.Mathlib.Omega.{arith}
use mathlib.Core.Path.{◌≡◌}
use Rattle.std.proofs.Common.{rules}
use Rattle.std.specs.Prelude.{Err}
use Rattle.landing.proofs.Known.{Known}
use Rattle.plan.proofs.Answers.{passed_held}
use Rattle.add.proofs.Answers.{
  add_not_wide,
  add_first,
  knows,
  add_asks,
  add_shown,
  add_no_room,
  add_too_many,
  add_may,
  add_enters,
}
use Rattle.add.proofs.add.Goals as goal
use Rattle.add.proofs.add.Goals.{In_ok-rows}

pub returns-then-row-c : goal.returns-then-row-c
returns-then-row-c c = add_not_wide _ _ _ _ _ c.if-row-c.true _ c.refused.ensures

pub returns-in_err-rows : goal.returns-in_err-rows
returns-in_err-rows c =
    let e : c.from_residual.result ≡ Err c.in_err-rows.field-0.0 = search rules in
    add_first _ _ _ _ _ c.if-row-c.false c.ready.ensures c.in_err-rows.was _ e

pub invariant_of-stored : goal.invariant_of-stored
invariant_of-stored c = record { held = passed_held _ _ _ _ c.ready.ensures c.in_ok-rows.was }

pub add-p-requires : goal.add-p-requires
add-p-requires c = add_asks _ _ _ _ _ c.if-row-c.false c.ready.ensures c.in_ok-rows.was

pub returns-then-p : goal.returns-then-p
returns-then-p c =
    add_shown _ _ _ _ _ c.if-row-c.false c.ready.ensures c.in_ok-rows.was c.add-p.ensures.0 c.if-p.true _
    c.refused-then-p.ensures

-- the layer is known
held : (c : In_ok-rows) → let a = c.args in Known a.c a.m a.layer.now a.keys.now
held c = knows _ _ _ _ _ c.if-row-c.false c.ready.ensures c.in_ok-rows.was

pub room_of-requires : goal.room_of-requires
room_of-requires c = (held (goal.at.room_of-requires c).In_ok-rows).acc.held.columns

pub overflow_add-m : goal.overflow_add-m
overflow_add-m c = omega (arith, (held (goal.at.overflow_add-m c).In_ok-rows).acc.held.entries)

pub returns-then-room_of-m : goal.returns-then-room_of-m
returns-then-room_of-m c =
    add_no_room _ _ _ _ _ c.if-row-c.false c.ready.ensures c.in_ok-rows.was c.add-p.ensures.0 c.if-p.false
    c.room_of.ensures c.if-room_of-m.true _ c.refused-then-room_of-m.ensures

pub returns-then-rows-ge-MOST_ROWS : goal.returns-then-rows-ge-MOST_ROWS
returns-then-rows-ge-MOST_ROWS c =
    add_too_many _ _ _ _ _ c.if-row-c.false c.ready.ensures c.in_ok-rows.was c.add-p.ensures.0 c.if-p.false
    c.room_of.ensures c.if-room_of-m.false c.if-rows-ge-MOST_ROWS.true _ c.refused-then-rows-ge-MOST_ROWS.ensures

pub enter-requires : goal.enter-requires
enter-requires c = add_may _ _ _ _ _ c.if-row-c.false c.ready.ensures c.in_ok-rows.was c.add-p.ensures.1

pub returns : goal.returns
returns c =
    add_enters _ _ _ _ _ c.if-row-c.false c.ready.ensures c.in_ok-rows.was c.add-p.ensures.0 c.if-p.false
    c.if-rows-ge-MOST_ROWS.false c.add-p.ensures.1 _ _ c.enter.ensures
