-- `told::signed` meets its contract: a small number is read as itself.
-- Assumes nothing.
use native.Mathlib.Omega.{arith}
use Rattle.tally.proofs.Signed.{read_small}
use Rattle.told.proofs.signed.Goals as goal

pub returns : goal.returns
returns c = read_small c.args.k (omega (arith, c.requires))
