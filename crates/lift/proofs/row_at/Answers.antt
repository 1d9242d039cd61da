-- A row gathered value by value: after j turns its first j values stand in front of the zeros.
-- Assumes nothing.
use native.Mathlib.Omega.{arith}
use mathlib.Core.Path.{◌≡◌, ap, ◌∙◌}
use lib.ListN.{length, replicate}
use lib.Seq.{paste}
use Rattle.model.specs.Row.{row_at}
use Rattle.theory.proofs.Columnwise.{row_length}
use Rattle.plan.proofs.Planned.{filled}
use Rattle.lift.proofs.Rows.{next_at, one_more}
use Rattle.lift.proofs.row_at.Goals as goal

pub loop-j-preserved : goal.loop-j-preserved
loop-j-preserved c =
    let l = c.loop-j in
    let a = c.args in (
      omega arith,
      next_at a.c a.w a.s l.j a.xs.now c.loop-j-test.true l.at l.invariant.1,
      one_more a.c a.w a.s l.j a.xs.now c.loop-j-test.true l.vals l.at c.requires.0
          l.invariant.1 l.invariant.2,
    )

pub returns : goal.returns
returns c =
    let l = c.loop-j in
    let a = c.args in
    let q = row_at a.c a.w a.xs.now a.s in
    let e : l.j ≡ length q = omega (arith, row_length a.c a.w a.s a.xs.now) in
    l.invariant.2 ∙ (ap (paste (replicate 8 0) 0 q) e ∙ filled q)
