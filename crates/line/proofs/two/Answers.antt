-- `line::two` meets its contract: only the exclamation mark says anything of two numbers.
-- Assumes nothing.
use borrow.Author.Tests.{eq-eqb, ne_eqb}
use Rattle.line.proofs.two.Goals as goal

pub returns-then-sign-eq33 : goal.returns-then-sign-eq33
returns-then-sign-eq33 c = simp (eq-eqb _ _ c.if-sign-eq33.true)

pub returns : goal.returns
returns c = simp (ne_eqb _ _ c.if-sign-eq33.false)
