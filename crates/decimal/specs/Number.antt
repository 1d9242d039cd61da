-- A number in decimal: 1 to 20 digits with a value below 2^64.
use Rattle.std.specs.Prelude.{Bool, ◌&&◌, List, [], ◌∷◌, ℕ, ◌+◌, ◌-◌, ◌*◌, length, leb, ltb}
use Rattle.order.specs.Lists.{all}

-- the bytes `0` to `9`
abbrev pub digit : ℕ → Bool
digit b = leb 48 b && leb b 57

-- the value of digits that stand behind digits worth v, and of digits alone
abbrev pub value_from : ℕ → List ℕ → ℕ
value_from v [] = v
value_from v (b ∷ bs) = value_from (v * 10 + (b - 48)) bs

abbrev pub value : List ℕ → ℕ
value bs = value_from 0 bs

-- the first number that 64 bits do not hold, 2^64
abbrev pub too_large : ℕ
too_large = 18446744073709551616

-- 1 to 20 digits with a value below 2^64
unfoldable pub is_number : List ℕ → Bool
is_number bs = (leb 1 (length bs) && leb (length bs) 20) && (all digit bs && ltb (value bs) too_large)
