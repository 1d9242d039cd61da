-- `text::put_rows` meets its contract: row after row, each behind the last.
-- Assumes nothing.
use native.Mathlib.Omega.{arith}
use mathlib.Core.Path.{◌≡◌}
use Rattle.text.proofs.Writing.{row_more, text_end, wrote_none}
use Rattle.text.proofs.put_rows.Goals as goal

pub loop-i-init : goal.loop-i-init
loop-i-init c = (omega arith, omega arith, λ q new w. w)

pub put_row-end-requires : goal.put_row-end-requires
put_row-end-requires c = omega arith

pub overflow_step-i : goal.overflow_step-i
overflow_step-i c = omega arith

pub loop-i-smaller : goal.loop-i-smaller
loop-i-smaller c = omega arith

pub loop-i-preserved : goal.loop-i-preserved
loop-i-preserved c =
    let l = c.loop-i in
    let a = c.args in
    let w = c.put_row-end in (
      omega arith,
      omega arith,
      row_more a.rows a.columns.now a.out.now a.at l.out l.end l.i w.result _ (omega arith)
          (omega arith) (omega arith) w.ensures.0 l.invariant.2,
    )

pub returns : goal.returns
returns c =
    let l = c.loop-i in
    let a = c.args in
    let e : l.i ≡ a.rows = omega arith in
    l.invariant.2 l.end l.out
    (rw (e, text_end a.rows a.columns.now (omega arith) (omega arith)) (wrote_none l.out l.end))
