-- `tally::Tally::with` meets its contract: an add counts by its position, a strike by its own, a change not at all.
-- Assumes nothing.
use native.Mathlib.Omega.{arith}
use Rattle.tally.proofs.Tally.with.Goals as goal

pub returns-in-Add : goal.returns-in-Add
returns-in-Add c = rw c.in-Add.is (omega (arith, c.from.ensures), omega arith)

pub returns-in-Strike : goal.returns-in-Strike
returns-in-Strike c = rw c.in-Strike.is (omega arith, omega (arith, c.from-in-Strike.ensures))

pub returns-in-Change : goal.returns-in-Change
returns-in-Change c = rw c.in-Change.is (omega arith, omega arith)
