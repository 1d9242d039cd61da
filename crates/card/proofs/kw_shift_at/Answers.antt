-- `card::kw_shift_at` meets its contract: the two numbers are those of `position::shift`'s answer, whose shifts and places are small.
-- Assumes nothing.
use Prim.Native.Nat.{◌≤◌}
use lib.IntN.{nat_abs}
use mathlib.Core.Path.{sym, ap, subst, ◌∙◌}
use Rattle.words.specs.Answer.{shift_number, shift_value, Shifted}
use Rattle.told.proofs.Places.{shift_small}
use Rattle.card.proofs.kw_shift_at.Goals as goal

pub tell_shift-requires : goal.tell_shift-requires
tell_shift-requires c =
    subst (λ (a : Shifted). nat_abs (shift_value a) ≤ 512) (sym c.shift.ensures) (shift_small _ _ _ _ _)

pub returns : goal.returns
returns c =
    let f = c.shift.ensures in
    (c.tell_shift.ensures.0 ∙ ap shift_number f, c.tell_shift.ensures.1 ∙ ap shift_value f)
