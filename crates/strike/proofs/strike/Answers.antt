-- `strike::strike` meets its contract: the refusals in the table's order, then the splice is entered.
-- Assumes nothing.
use mathlib.Core.Path.{◌≡◌}
use Rattle.std.proofs.Common.{rules}
use Rattle.std.specs.Prelude.{Err}
use Rattle.plan.proofs.Answers.{passed_held}
use Rattle.strike.proofs.Answers.{strike_first, strike_no_row, strike_asks, strike_may, strike_enters}
use Rattle.strike.proofs.strike.Goals as goal

pub returns-in_err-rows : goal.returns-in_err-rows
returns-in_err-rows c =
    let e : c.from_residual.result ≡ Err c.in_err-rows.field-0.0 = search rules in
    strike_first _ _ _ _ _ c.ready.ensures c.in_err-rows.was _ e

pub returns-then-rows-r : goal.returns-then-rows-r
returns-then-rows-r c = strike_no_row _ _ _ _ _ c.ready.ensures c.in_ok-rows.was c.if-rows-r.true _ c.refused.ensures

pub invariant_of-stored : goal.invariant_of-stored
invariant_of-stored c = record { held = passed_held _ _ _ _ c.ready.ensures c.in_ok-rows.was }

pub strike-p-requires : goal.strike-p-requires
strike-p-requires c = strike_asks _ _ _ _ _ c.ready.ensures c.in_ok-rows.was c.if-rows-r.false

pub enter-requires : goal.enter-requires
enter-requires c =
    strike_may _ _ _ _ _ c.ready.ensures c.in_ok-rows.was c.if-rows-r.false c.strike-p.ensures

pub returns : goal.returns
returns c =
    strike_enters _ _ _ _ _ c.ready.ensures c.in_ok-rows.was c.if-rows-r.false c.strike-p.ensures _ _ c.enter.ensures
