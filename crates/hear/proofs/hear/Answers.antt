-- `hear::hear` meets its contract, by what the line says.
-- Assumes nothing.
use borrow.Author.Rules.{rules}
use mathlib.Core.Path.{sym, ◌∙◌}
use Rattle.hear.proofs.Hearing.{heard_as, heard_base, heard_none}
use Rattle.hear.proofs.hear.Goals as goal

pub returns-in-Some-Base : goal.returns-in-Some-Base
returns-in-Some-Base c = heard_as (heard_base c.base_row.ensures)
    (sym c.parse.ensures ∙ search rules)

pub returns-in-Some-Add : goal.returns-in-Some-Add
returns-in-Some-Add c = heard_as c.add_row.ensures
    (sym c.parse.ensures ∙ search rules)

pub returns-in-Some-Strike : goal.returns-in-Some-Strike
returns-in-Some-Strike c = heard_as c.strike_row.ensures
    (sym c.parse.ensures ∙ search rules)

pub returns-in-Some-Change : goal.returns-in-Some-Change
returns-in-Some-Change c = heard_as c.change_row.ensures
    (sym c.parse.ensures ∙ search rules)

pub returns-in-Some-Renumber : goal.returns-in-Some-Renumber
returns-in-Some-Renumber c = heard_as c.renumber_row.ensures
    (sym c.parse.ensures ∙ search rules)

pub returns-in-None : goal.returns-in-None
returns-in-None c = heard_as (heard_none c.stay.ensures)
    (sym c.parse.ensures ∙ c.in-None.is)
