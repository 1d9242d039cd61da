-- A field read byte after byte: the number that it makes, and where the next field starts.
use Rattle.std.specs.Prelude.{Bool, Option, Some, None, cond, ◌&&◌, List, [], ◌∷◌, ℕ, suc, ◌+◌, ◌-◌, ◌*◌, leb, ltb, eqb}
use Rattle.decimal.specs.Number.{digit, too_large}
use Rattle.field.specs.declared.Field.{Field}
use Rattle.field.specs.declared.Field.TheVariants as field

-- a number with one more digit behind it
abbrev pub more : ℕ → ℕ → ℕ
more v b = v * 10 + (b - 48)

abbrev pub grows : ℕ → ℕ → Bool
grows v b = digit b && ltb (more v b) too_large

unfoldable pub grown_by : ℕ → ℕ → Option ℕ
grown_by v b = cond (grows v b) (Some (more v b)) None

-- k digits worth v are read; what the bytes from index i on make of them, up to a space or the end
unfoldable pub scanned : ℕ → ℕ → ℕ → List ℕ → Option Field
scanned k v i [] = cond (leb 1 k) (Some (field.Last v)) None
scanned k v i (b ∷ bs) =
    cond (eqb b 32) (cond (leb 1 k) (Some (field.More v (suc i))) None)
    (cond (ltb k 20 && grows v b) (scanned (suc k) (more v b) (suc i) bs) None)
