-- `card::kw_load` meets its contract: the two numbers are those of `file::load`'s answer, and the slice is as it left it.
-- Assumes nothing.
use mathlib.Core.Path.{◌∙◌, ap}
use Rattle.words.specs.Answer.{number_of, value_of}
use Rattle.card.proofs.kw_load.Goals as goal

pub returns : goal.returns
returns c =
    let f = c.load.ensures in
    ((c.into.ensures.0 ∙ ap number_of f.0, c.into.ensures.1 ∙ ap value_of f.0), f.1)
