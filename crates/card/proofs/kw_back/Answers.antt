-- `card::kw_back` meets its contract: the two numbers are those of `position::back`'s answer, and an added entry's number is small.
-- Assumes nothing.
use mathlib.Core.Path.{sym, ap, ◌∙◌}
use Rattle.words.specs.Answer.{back_number, back_value}
use Rattle.told.proofs.Places.{back_small}
use Rattle.card.proofs.kw_back.Goals as goal

pub tell_back-requires : goal.tell_back-requires
tell_back-requires c = λ i e. back_small _ _ _ _ _ i (sym c.back.ensures ∙ e)

pub returns : goal.returns
returns c =
    let f = c.back.ensures in
    (c.tell_back.ensures.0 ∙ ap back_number f, c.tell_back.ensures.1 ∙ ap back_value f)
