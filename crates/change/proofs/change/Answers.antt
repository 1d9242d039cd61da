-- `change::change` meets its contract: the refusals in the table's order, then one value is set or the splice entered.
-- Assumes nothing.
use mathlib.Core.Path.{◌≡◌}
use Rattle.std.proofs.Common.{rules}
use Rattle.std.specs.Prelude.{Err}
use Rattle.plan.proofs.Answers.{passed_held}
use Rattle.change.proofs.Answers.{
  change_no_column,
  change_first,
  change_no_row,
  change_key,
  change_asks,
  change_may,
  change_enters,
}
use Rattle.change.proofs.change.Goals as goal

pub returns-then-c-j : goal.returns-then-c-j
returns-then-c-j c = change_no_column _ _ _ _ _ _ _ c.if-c-j.true _ c.refused.ensures

pub returns-in_err-rows : goal.returns-in_err-rows
returns-in_err-rows c =
    let e : c.from_residual.result ≡ Err c.in_err-rows.field-0.0 = search rules in
    change_first _ _ _ _ _ _ _ c.if-c-j.false c.ready.ensures c.in_err-rows.was _ e

pub returns-then-rows-r : goal.returns-then-rows-r
returns-then-rows-r c =
    change_no_row _ _ _ _ _ _ _ c.if-c-j.false c.ready.ensures c.in_ok-rows.was c.if-rows-r.true _
    c.refused-then-rows-r.ensures

pub returns-then-j-eq0 : goal.returns-then-j-eq0
returns-then-j-eq0 c =
    change_key _ _ _ _ _ _ _ c.if-c-j.false c.ready.ensures c.in_ok-rows.was c.if-rows-r.false c.if-j-eq0.true _
    c.refused-then-j-eq0.ensures

pub invariant_of-stored : goal.invariant_of-stored
invariant_of-stored c = record { held = passed_held _ _ _ _ c.ready.ensures c.in_ok-rows.was }

pub change-x-requires : goal.change-x-requires
change-x-requires c =
    change_asks _ _ _ _ _ _ c.args.v c.if-c-j.false c.ready.ensures c.in_ok-rows.was c.if-rows-r.false c.if-j-eq0.false

pub enter-requires : goal.enter-requires
enter-requires c =
    change_may _ _ _ _ _ _ _ c.if-c-j.false c.ready.ensures c.in_ok-rows.was c.if-rows-r.false c.if-j-eq0.false
    c.change-x.ensures

pub returns : goal.returns
returns c =
    change_enters _ _ _ _ _ _ _ c.if-c-j.false c.ready.ensures c.in_ok-rows.was c.if-rows-r.false c.if-j-eq0.false
    c.change-x.ensures _ _ c.enter.ensures
