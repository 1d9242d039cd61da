-- `card::kw_file_check` meets its contract: the number of `probe::check`'s answer.
-- Assumes nothing.
use mathlib.Core.Path.{◌∙◌, ap}
use Rattle.words.specs.Answer.{number_of}
use Rattle.card.proofs.kw_file_check.Goals as goal

pub returns : goal.returns
returns c = c.number.ensures ∙ ap number_of c.check.ensures
