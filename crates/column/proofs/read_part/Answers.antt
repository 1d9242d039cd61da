-- `column::read_part` meets its contract: the loop over the entries keeps `Going`; then the rest of the base is shown.
-- Assumes nothing.
use native.Mathlib.Omega.{arith}
use lib.Seq.{slice}
use Rattle.column.proofs.Writing.{pasted_none}
use Rattle.column.proofs.Going.{
  passed,
  fitting,
  fitting_one,
  on_add,
  on_strike,
  on_change,
  on_other,
  set_out,
  last_row,
  last_room,
  ended,
}
use Rattle.column.proofs.read_part.Goals as goal
use Rattle.column.proofs.read_part.Goals.{in-Add, in-Strike, in-Change+then-i-j, in-Change+else-i-j}

pub loop-k-init : goal.loop-k-init
loop-k-init c = set_out c.requires

-- an add
pub show_rows_and-o-requires : goal.show_rows_and-o-requires
show_rows_and-o-requires c =
    let g = c.loop-k.invariant in
    let w = on_add c.args.layer.now g c.loop-k-test.true c.sight.ensures c.in-Add.is c.value-own.ensures in
    (w.0, w.1, fitting_one g (slice c.loop-k.s c.in-Add.p c.args.base.now) c.value-own.result w.2)

-- a strike
pub show_rows-o-requires : goal.show_rows-o-requires
show_rows-o-requires c =
    let g = c.loop-k.invariant in
    let w = on_strike g c.sight.ensures c.in-Strike.is in
    (w.0, omega (arith, w.1), fitting g w.2)

pub overflow_add-s : goal.overflow_add-s
overflow_add-s c = omega (arith, (on_strike c.loop-k.invariant c.sight.ensures c.in-Strike.is).1)

-- a change of column j
pub show_rows_and-o-requires-then-i-j : goal.show_rows_and-o-requires-then-i-j
show_rows_and-o-requires-then-i-j c =
    let g = c.loop-k.invariant in
    let w = on_change g c.sight.ensures c.in-Change.is c.if-i-j.true in
    (w.0, omega (arith, w.1), fitting_one g (slice c.loop-k.s c.in-Change.p c.args.base.now) c.in-Change.v w.2)

pub overflow_add-s-then-i-j : goal.overflow_add-s-then-i-j
overflow_add-s-then-i-j c =
    omega (arith, (on_change c.loop-k.invariant c.sight.ensures c.in-Change.is c.if-i-j.true).1)

pub loop-k-preserved : goal.loop-k-preserved
loop-k-preserved c =
    let g = c.loop-k.invariant in
    let h = c.loop-k-test.true in
    let e = c.sight.ensures in
    elim c.match-sight.branch [
      | in-Add w ↦ rw (w.out-is, w.s-is, w.o-is)
          (passed g (on_add c.args.layer.now g h e w.in-Add.is w.value-own.ensures).2 w.show_rows_and-o.ensures)
      | in-Strike w ↦ rw (w.out-is, w.s-is, w.o-is) (passed g (on_strike g e w.in-Strike.is).2 w.show_rows-o.ensures)
      | in-Change+then-i-j w ↦ rw (w.out-is, w.s-is, w.o-is)
          (passed g (on_change g e w.in-Change.is w.if-i-j.true).2 w.show_rows_and-o-then-i-j.ensures)
      | in-Change+else-i-j w ↦ rw (w.out-is, w.s-is, w.o-is)
          (passed g (on_other g e w.in-Change.is w.if-i-j.false) (pasted_none _ _))
    ]

-- the rest of the base
pub show_rows-requires : goal.show_rows-requires
show_rows-requires c =
    let l = c.args.layer.now in
    let g = c.loop-k.invariant in
    (last_row l g c.loop-k-test.false, omega arith, last_room l g c.loop-k-test.false)

pub returns : goal.returns
returns c =
    let f = ended c.args.layer.now c.loop-k.invariant c.loop-k-test.false c.requires c.show_rows.ensures in
    (f.1, f.2)
