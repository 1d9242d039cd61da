-- `hear::edits::renumber_row` meets its contract, by what the edit answers.
-- Assumes nothing.
use mathlib.Core.Path.{◌≡◌}
use lib.ListN.{length}
use Rattle.hear.proofs.Hearing.{heard_renumber}
use borrow.Author.Rules.{rules}
use Rattle.hear.proofs.edits.renumber_row.Goals as goal

pub returns : goal.returns
returns c =
    let a = c.args in
    let d = a.desk.now in
    let w = c.renumber_apart-answer.ensures in
    let e = c.entered_on.ensures in
    let size : length d.table ≡ 1536 = search rules in
    rw (e.table, e.layer) (heard_renumber d.counts d.table d.layer _ _ _ d.standing e.reply a.r a.g size w.0 w.1)
