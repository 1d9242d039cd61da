-- A number as its decimal digits: no zeros in front, and one zero for zero.
use Rattle.std.specs.Prelude.{cond, List, [], ◌∷◌, ◌++◌, ℕ, zero, suc, ◌+◌, ◌/◌, ◌%◌, eqb}

-- the digits of x, none for zero: those of x / 10, then the last; they are fewer than k + 1 where x is at most k
unfoldable pub digits_within : ℕ → ℕ → List ℕ
digits_within zero x = []
digits_within (suc k) x = cond (eqb x 0) [] (digits_within k (x / 10) ++ ((48 + x % 10) ∷ []))

unfoldable pub digits : ℕ → List ℕ
digits x = digits_within x x

unfoldable pub decimal : ℕ → List ℕ
decimal x = cond (eqb x 0) (48 ∷ []) (digits x)
