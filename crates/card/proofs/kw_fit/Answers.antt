-- `card::kw_fit` meets its contract: the two numbers are those of `fit::fit`'s answer.
-- Assumes nothing.
use mathlib.Core.Path.{ap, ◌∙◌}
use Rattle.words.specs.Answer.{number_of, value_of}
use Rattle.card.proofs.kw_fit.Goals as goal

pub returns : goal.returns
returns c = let f = c.fit.ensures in (c.into.ensures.0 ∙ ap number_of f, c.into.ensures.1 ∙ ap value_of f)
