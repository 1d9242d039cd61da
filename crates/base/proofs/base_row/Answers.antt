-- `base::base_row` meets its contract: the row that passed the tests stands in the three columns.
-- Assumes nothing.
use native.Mathlib.Omega.{arith}
use mathlib.Core.Path.{refl, sym, ◌∙◌}
use Rattle.base.proofs.Based.{still_open, based_taken, row_stored}
use Rattle.base.specs.Desk.{sheet_on}
use Rattle.base.proofs.base_row.Goals as goal

pub returns : goal.returns
returns c =
    let a = c.args in
    let d = a.desk.now in
    let room = still_open d.counts c.if-desk.false (omega arith) in
    let above = sym c.not_above.ensures ∙ c.if-not_above.false in
    based_taken a.g a.s a.m d.counts (sheet_on d) _ _ room above refl
    (row_stored d.counts.rows a.g a.s a.m d.table d.layer (omega arith))
