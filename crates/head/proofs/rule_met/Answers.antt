-- `head::rule_met` meets its contract: the tests are those of conflict, by kind.
-- Assumes nothing.
use mathlib.Core.Path.{sym, ◌∙◌}
use Rattle.head.proofs.Heads.{one_key, two_keys, one_adds, two_rows, row_struck, two_cells, agreed, one_cell}
use Rattle.head.proofs.rule_met.Goals as goal

pub returns-then-mine-theirs-2 : goal.returns-then-mine-theirs-2
returns-then-mine-theirs-2 c =
    let a = c.args in
    one_key a.mine a.theirs c.if-mine-theirs.true c.if-mine-theirs-2.true

pub returns-else-mine-theirs-2 : goal.returns-else-mine-theirs-2
returns-else-mine-theirs-2 c =
    let a = c.args in
    two_keys a.mine a.theirs c.if-mine-theirs.true c.if-mine-theirs-2.false

pub returns-then-mine-theirs-3 : goal.returns-then-mine-theirs-3
returns-then-mine-theirs-3 c =
    let a = c.args in
    one_adds a.mine a.theirs c.if-mine-theirs.false c.if-mine-theirs-3.true

pub returns-then-mine-theirs-4 : goal.returns-then-mine-theirs-4
returns-then-mine-theirs-4 c =
    let a = c.args in
    two_rows a.mine a.theirs c.if-mine-theirs.false c.if-mine-theirs-3.false c.if-mine-theirs-4.true

pub returns-then-mine-theirs-5 : goal.returns-then-mine-theirs-5
returns-then-mine-theirs-5 c =
    let a = c.args in
    row_struck a.mine a.theirs c.if-mine-theirs.false c.if-mine-theirs-3.false c.if-mine-theirs-4.false c.if-mine-theirs-5.true

pub returns-then-column_of : goal.returns-then-column_of
returns-then-column_of c =
    let a = c.args in
    two_cells a.mine a.theirs c.if-mine-theirs.false c.if-mine-theirs-3.false c.if-mine-theirs-4.false c.if-mine-theirs-5.false
    (λ e. c.if-column_of.true (c.column_of.ensures ∙ (e ∙ sym c.column_of-2.ensures)))

pub returns-then-agrees : goal.returns-then-agrees
returns-then-agrees c =
    let a = c.args in
    agreed a.mine a.theirs c.if-mine-theirs.false c.if-mine-theirs-3.false c.if-mine-theirs-4.false c.if-mine-theirs-5.false
    (sym c.column_of.ensures ∙ (c.if-column_of.false ∙ c.column_of-2.ensures))
    (sym c.agrees.ensures ∙ c.if-agrees.true)

pub returns-else-agrees : goal.returns-else-agrees
returns-else-agrees c =
    let a = c.args in
    one_cell a.mine a.theirs c.if-mine-theirs.false c.if-mine-theirs-3.false c.if-mine-theirs-4.false c.if-mine-theirs-5.false
    (sym c.column_of.ensures ∙ (c.if-column_of.false ∙ c.column_of-2.ensures))
    (sym c.agrees.ensures ∙ c.if-agrees.false)
