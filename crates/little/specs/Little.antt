-- A number as its bytes, little end first.
use Rattle.std.specs.Prelude.{List, [], ◌∷◌, ℕ, zero, suc, ◌+◌, ◌*◌, ◌/◌, ◌%◌, take, drop}
use Rattle.order.specs.Lists.{gather}

-- the k lowest bytes of a number, the lowest first
abbrev pub bytes : ℕ → ℕ → List ℕ
bytes zero v = []
bytes (suc k) v = v % 256 ∷ bytes k (v / 256)

-- the eight bytes of a number
abbrev pub eight : ℕ → List ℕ
eight v = bytes 8 v

-- the number that bytes are
abbrev pub number : List ℕ → ℕ
number [] = 0
number (b ∷ bs) = b + 256 * number bs

-- the number whose first byte is byte i
unfoldable pub number_at : ℕ → List ℕ → ℕ
number_at i f = number (take 8 (drop i f))

-- the k numbers that stand one after the other from byte i on
unfoldable pub numbers_at : ℕ → ℕ → List ℕ → List ℕ
numbers_at zero i f = []
numbers_at (suc k) i f = number_at i f ∷ numbers_at k (i + 8) f

-- the bytes of numbers, end to end
unfoldable pub eights : List ℕ → List ℕ
eights vs = gather eight vs
