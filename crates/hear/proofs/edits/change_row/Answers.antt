-- `hear::edits::change_row` meets its contract, by what the edit answers.
-- Assumes nothing.
use native.Mathlib.Omega.{arith}
use lib.Seq.{length-take-le}
use Rattle.hear.proofs.Hearing.{heard_change}
use Rattle.hear.proofs.edits.change_row.Goals as goal

pub slice_bounds-change-end-2 : goal.slice_bounds-change-end-2
slice_bounds-change-end-2 c =
    let a = c.args in
    omega (arith, length-take-le a.desk.now.counts.rows a.desk.now.table (omega arith))

pub returns : goal.returns
returns c =
    let a = c.args in
    let d = a.desk.now in
    let w = c.change-answer.ensures in
    let e = c.entered_on.ensures in
    rw (e.table, e.layer) (heard_change d.counts d.table d.layer _ _ _ d.standing e.reply a.r a.j a.v w.0 w.1)
