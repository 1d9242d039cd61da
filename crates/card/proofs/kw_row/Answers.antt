-- `card::kw_row` meets its contract: the two numbers are those of `position::row`'s answer.
-- Assumes nothing.
use mathlib.Core.Path.{ap, ◌∙◌}
use Rattle.words.specs.Answer.{number_of, value_of}
use Rattle.card.proofs.kw_row.Goals as goal

pub returns : goal.returns
returns c = let f = c.row.ensures in (c.into.ensures.0 ∙ ap number_of f, c.into.ensures.1 ∙ ap value_of f)
