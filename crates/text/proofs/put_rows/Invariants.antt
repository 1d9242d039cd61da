-- `text::put_rows` meets its contract: row after row, each behind the last.
-- Assumes nothing.
use Prim.Native.Nat.{◌+◌, ◌-◌, ◌*◌, ◌≤◌}
use Rattle.text.proofs.Writing.{Rows}
use Rattle.text.proofs.put_rows.Given as goal

abbrev pub invariant-loop-i : goal.invariant-loop-i
invariant-loop-i l =
    (l.i ≤ l.rows) × (l.end ≤ l.at + l.i * 84) × Rows l.rows l.columns l.initial.out l.at l.out l.end l.i

abbrev pub decreases-loop-i : goal.decreases-loop-i
decreases-loop-i l =
    l.rows - l.i
