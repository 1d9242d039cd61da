-- `show::put_table` meets its contract: the three columns, read one by one, are those of the table that is read.
-- Assumes nothing.
use borrow.Author.Rules.{rules}
use mathlib.Core.Path.{◌≡◌, ◌∙◌}
use lib.ListN.{length}
use Rattle.show.proofs.Columns.{first_stays, second_stays}
use Rattle.show.proofs.Printed.{rows_read}
use Rattle.show.proofs.put_table.Goals as goal

pub returns : goal.returns
returns c =
    let a = c.args in
    let p = c.requires in
    let w1 = c.read_column in
    let w2 = c.read_column-2 in
    let w3 = c.read_column-3 in
    let one = w1.new.work in
    let two = w2.new.work in
    let three = w3.new.work in
    let i : length one ≡ 3072 = search rules in
    let j : length two ≡ 3072 = search rules in
    let k : length three ≡ 3072 = search rules in
    let t =
    rows_read a.rows a.n a.m a.layer.now a.table.now three p.1 p.2
    (first_stays a.rows one two three p.3 i j k w3.ensures.1 w2.ensures.1 ∙ w1.ensures.0)
    (second_stays a.rows one two three p.3 i j k w3.ensures.1 ∙ w2.ensures.0) w3.ensures.0 in
    rw (← t) c.put_rows.ensures
