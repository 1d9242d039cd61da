-- `base::not_above` meets its contract: with no row there is no last key.
-- Assumes nothing.
use native.Mathlib.Omega.{arith}
use Prim.Native.Nat.{◌-◌}
use lib.Seq.{get_or-take}
use Rattle.base.specs.Base.{most_base}
use borrow.Author.Tests.{eq-eqb, ne_eqb}
use Rattle.base.proofs.not_above.Goals as goal

pub returns-then-n-eq0 : goal.returns-then-n-eq0
returns-then-n-eq0 c = rw (eq-eqb _ _ c.if-n-eq0.true)

pub returns : goal.returns
returns c =
    let a = c.args in
    rw (ne_eqb _ _ c.if-n-eq0.false, get_or-take most_base a.table.now (a.n - 1) 0 (omega arith))
