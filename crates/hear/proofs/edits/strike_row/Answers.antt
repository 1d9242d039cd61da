-- `hear::edits::strike_row` meets its contract, by what the edit answers.
-- Assumes nothing.
use native.Mathlib.Omega.{arith}
use lib.Seq.{length-take-le}
use Rattle.hear.proofs.Hearing.{heard_strike}
use Rattle.hear.proofs.edits.strike_row.Goals as goal

pub slice_bounds-strike-end-2 : goal.slice_bounds-strike-end-2
slice_bounds-strike-end-2 c =
    let a = c.args in
    omega (arith, length-take-le a.desk.now.counts.rows a.desk.now.table (omega arith))

pub returns : goal.returns
returns c =
    let a = c.args in
    let d = a.desk.now in
    let w = c.strike-answer.ensures in
    let e = c.entered_on.ensures in
    rw (e.table, e.layer) (heard_strike d.counts d.table d.layer _ _ _ d.standing e.reply a.r w.0 w.1)
