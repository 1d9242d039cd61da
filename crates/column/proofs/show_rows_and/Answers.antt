-- One number more is written behind the run.
-- Assumes nothing.
use native.Mathlib.Omega.{arith}
use lib.Seq.{slice}
use Rattle.column.proofs.Writing.{pasted_one}
use Rattle.column.proofs.show_rows_and.Goals as goal

pub show_rows-end-requires : goal.show_rows-end-requires
show_rows-end-requires c =
    (c.requires.0, c.requires.1, omega (arith, c.requires.2))

pub bounds-out-end : goal.bounds-out-end
bounds-out-end c =
    let f = c.show_rows-end in
    omega (arith, f.ensures.end, f.auto.out, c.requires.2)

pub overflow_add-result : goal.overflow_add-result
overflow_add-result c =
    let f = c.show_rows-end in
    omega (arith, f.ensures.end, f.auto.out, c.requires.2)

pub returns : goal.returns
returns c =
    let f = c.show_rows-end in
    let a = c.args in
    let ys = slice a.s a.p a.base.now in
    pasted_one ys a.out.now f.new.out a.o f.result a.v f.ensures c.requires.2
