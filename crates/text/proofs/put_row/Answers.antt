-- `text::put_row` meets its contract: four numbers, one behind another.
-- Assumes nothing.
use native.Mathlib.Omega.{arith}
use Rattle.text.specs.Text.{row_text}
use Rattle.text.proofs.Writing.{wrote_then}
use Rattle.text.proofs.put_row.Goals as goal

pub returns : goal.returns
unfolding row_text
returns c =
    let w1 = c.put_number-a.ensures in
    let w2 = c.put_number-b.ensures in
    let w3 = c.put_number-c.ensures in
    (wrote_then w1.0 (wrote_then w2.0 (wrote_then w3.0 c.put_number.ensures.0)), omega arith)
