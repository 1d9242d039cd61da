-- `show::read_column` meets its contract: what was read stands at the front of the column's place.
-- Assumes nothing.
use native.Mathlib.Omega.{arith}
use Prim.Native.Nat.{◌+◌, ◌-◌, ◌*◌}
use borrow.Rule.Slice.PartMut.{mid_len}
use Rattle.form.proofs.Accepted.{accepted}
use Rattle.read.proofs.Answers.{can_read}
use Rattle.show.proofs.Printed.{base_part, ready_to_read, column_stands}
use Rattle.show.proofs.read_column.Goals as goal

pub invariant_of-stored : goal.invariant_of-stored
invariant_of-stored c = record { held = (accepted _ _ _ _ _ c.requires.0).held }

pub read_part-requires : goal.read_part-requires
read_part-requires c =
    let a = c.args in
    let p = c.requires in
    let column = base_part a.rows a.n a.m a.j a.layer.now a.table.now p.1 p.2 p.3 p.0 in
    rw (column (512 * a.j + a.n - 512 * a.j) (omega arith))
    (can_read _ _ _ _ _ (ready_to_read a.rows a.n a.m a.j a.layer.now a.table.now p.1 p.2 p.3 p.0 _
    (omega (arith, mid_len (1024 * a.j) (1024 * a.j + 1024) a.work.now (omega arith)))))

pub returns : goal.returns
returns c =
    let a = c.args in
    let p = c.requires in
    column_stands a.rows a.n a.m a.j a.layer.now a.table.now p.1 p.2 p.3 p.0
    (512 * a.j + a.n - 512 * a.j) (1024 * a.j + 1024 - 1024 * a.j) a.work.now _ _ (omega arith) p.5
    c.read_part.ensures.1
