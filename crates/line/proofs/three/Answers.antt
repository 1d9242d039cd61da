-- `line::three` meets its contract: the signs B, + and = are told apart in this order.
-- Assumes nothing.
use borrow.Author.Tests.{eq-eqb, ne_eqb}
use Rattle.line.proofs.three.Goals as goal

pub returns-then-sign-eq66 : goal.returns-then-sign-eq66
returns-then-sign-eq66 c = simp (eq-eqb _ _ c.if-sign-eq66.true)

pub returns-then-sign-eq43 : goal.returns-then-sign-eq43
returns-then-sign-eq43 c = simp (ne_eqb _ _ c.if-sign-eq66.false, eq-eqb _ _ c.if-sign-eq43.true)

pub returns-then-sign-eq61 : goal.returns-then-sign-eq61
returns-then-sign-eq61 c = simp (ne_eqb _ _ c.if-sign-eq66.false, ne_eqb _ _ c.if-sign-eq43.false, eq-eqb _ _ c.if-sign-eq61.true)

pub returns : goal.returns
returns c = simp (ne_eqb _ _ c.if-sign-eq66.false, ne_eqb _ _ c.if-sign-eq43.false, ne_eqb _ _ c.if-sign-eq61.false)
