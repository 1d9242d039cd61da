-- A base row with its changes: each of them sets one value.
-- Assumes nothing.
use Prim.Native.Nat.{◌<◌}
use native.Mathlib.Omega.{arith}
use lib.ListN.{take, drop}
use Rattle.model.specs.Row.{row_at}
use Rattle.theory.proofs.Columnwise.{row_length}
use Rattle.entry.specs.Look.{edits}
use Rattle.lift.proofs.Rows.{front_end, change_column, change_step, all_done}
use Rattle.lift.proofs.shown_row.Goals as goal
use Rattle.lift.proofs.shown_row.Goals.{After-head-h}

-- the column that is set
column : (c : After-head-h) → c.head-h.result.kind < 8
column c =
    let a = c.args in
    let l = c.loop-k in
    let t = change_column a.layer.now a.s a.end l.k c.requires.0 c.head-h.result
    c.head-h.ensures c.loop-k-test.true l.invariant.0 in
    omega (arith, t, a.layer.now.held.columns)

pub offset_bounds-row-j : goal.offset_bounds-row-j
offset_bounds-row-j c = omega (arith, column (goal.at.offset_bounds-row-j c).After-head-h)

pub bounds-row-j : goal.bounds-row-j
bounds-row-j c = column (goal.at.bounds-row-j c).After-head-h

pub loop-k-preserved : goal.loop-k-preserved
loop-k-preserved c =
    let a = c.args in
    let l = c.loop-k in
    change_step a.layer.now a.s a.end l.k c.requires.0 c.head-h.result c.head-h.ensures c.loop-k-test.true l.invariant.0
    l.row _ l.invariant.1

pub returns : goal.returns
returns c =
    let a = c.args in
    let l = c.loop-k in
    let e = front_end a.layer.now a.end l.k c.requires.0 c.loop-k-test.false in
    all_done a.layer.now.c a.s (drop a.i (take a.end (edits a.layer.now))) (row_at a.layer.now.c a.w a.table.now a.s)
    c.row_at-row.result l.row (row_length a.layer.now.c a.w a.s a.table.now) c.requires.3 c.row_at-row.ensures
    (rw e at l.invariant.1)
