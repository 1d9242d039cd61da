-- The base rows from s up to p are one run, copied as a block.
-- Assumes nothing.
use native.Mathlib.Omega.{arith}
use mathlib.Core.Path.{ap, subst}
use mathlib.Core.List.{List}
use Prim.Native.Nat.{ℕ}
use lib.ListN.{length}
use Rattle.column.specs.Runs.{Pasted}
use Rattle.column.proofs.Writing.{part_slice}
use Rattle.column.proofs.show_rows.Goals as goal

pub copy_in-requires : goal.copy_in-requires
copy_in-requires c =
    let a = c.args in
    omega (arith, ap length (part_slice a.s a.p a.base.now), c.requires.2)

pub returns : goal.returns
returns c =
    let f = c.copy_in in
    let a = c.args in
    subst (λ (ys : List ℕ). Pasted ys a.out.now a.o f.result f.new.dst)
    (part_slice a.s a.p a.base.now)
    (record { end = f.ensures.0; numbers = f.ensures.1 })
