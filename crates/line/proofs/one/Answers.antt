-- `line::one` meets its contract: only the minus sign says anything of one number.
-- Assumes nothing.
use borrow.Author.Tests.{eq-eqb, ne_eqb}
use Rattle.line.proofs.one.Goals as goal

pub returns-then-sign-eq45 : goal.returns-then-sign-eq45
returns-then-sign-eq45 c = simp (eq-eqb _ _ c.if-sign-eq45.true)

pub returns : goal.returns
returns c = simp (ne_eqb _ _ c.if-sign-eq45.false)
