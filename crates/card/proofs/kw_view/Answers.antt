-- `card::kw_view` meets its contract: the two numbers are those of the part that `view::view_part` names.
-- Assumes nothing.
use mathlib.Core.Path.{◌∙◌, ap}
use Rattle.view.specs.View.{seen_number, seen_value}
use Rattle.card.proofs.kw_view.Goals as goal

pub returns : goal.returns
returns c =
    let f = c.view_part.ensures in
    (c.into.ensures.0 ∙ ap seen_number f, c.into.ensures.1 ∙ ap seen_value f)
