-- `show::finish` meets its contract: the header, and the rows where the layer keeps form.
-- Assumes nothing.
use native.Mathlib.Omega.{arith}
use mathlib.Core.Path.{◌≡◌, sym, ◌∙◌}
use Rattle.std.specs.Prelude.{Ok}
use Rattle.model.specs.Calls.{form_answer}
use Rattle.base.specs.Desk.{sheet_on}
use Rattle.show.proofs.Printed.{few_shown, header_alone, header_rows}
use borrow.Author.Rules.{rules}
use Rattle.show.proofs.finish.Goals as goal

pub put_table-requires : goal.put_table-requires
put_table-requires c =
    let a = c.args in
    let e = c.put_bytes-end.ensures.end in
    let f : form_answer 3 a.desk.now.counts.rows a.desk.now.counts.entries a.desk.now.layer ≡ Ok c.in-Ok.rows =
    sym c.check.ensures ∙ c.in-Ok.is in
    let few = few_shown a.desk.now.counts.rows a.desk.now.counts.entries c.in-Ok.rows a.desk.now.layer a.desk.now.standing f in
    (f, omega arith, search rules, few, omega arith)

pub returns-in-Err : goal.returns-in-Err
returns-in-Err c =
    let a = c.args in
    let w = c.put_bytes-end.ensures in
    header_alone a.desk.now.counts (sheet_on a.desk.now) a.out.now _ _ _ w
    c.in-Err.field-0 c.check.ensures c.in-Err.is

pub returns-in-Ok : goal.returns-in-Ok
returns-in-Ok c =
    let a = c.args in
    let w = c.put_bytes-end.ensures in
    header_rows a.desk.now.counts (sheet_on a.desk.now) a.out.now _ _ _ w
    c.in-Ok.rows _ _ c.check.ensures c.in-Ok.is c.put_table.ensures
