-- Numbers and their digits.
-- Assumes nothing.
use mathlib.Core.Path.{◌≡◌, refl}
use mathlib.Core.List.{[], ◌∷◌, map}
use Rattle.decimal.specs.Decimal.{digits_within, digits, decimal}

pub each_number : map decimal (0 ∷ 7 ∷ 10 ∷ 405 ∷ []) ≡
    (48 ∷ []) ∷ (55 ∷ []) ∷ (49 ∷ 48 ∷ []) ∷ (52 ∷ 48 ∷ 53 ∷ []) ∷ []
unfolding decimal digits digits_within
each_number = refl
