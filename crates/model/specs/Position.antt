-- Positions: the shift at a base position, its row number, and back from a row number to what stands there.
use Rattle.words.specs.declared.Origin.{Origin}
use Rattle.words.specs.declared.Origin.TheVariants.{Base as base, Added as added}
use Rattle.std.specs.Prelude.{Bool, cond, List, [], ◌∷◌, map, ℕ, suc, ◌+◌, ◌-◌, get_or, replicate, ℤ, leb, ltb, eqb}
use Rattle.std.proofs.Math.IntN.{sub_ℕ}
use Rattle.order.specs.Lists.{count}
use Rattle.model.specs.Layer.{Edit, at, add, strike, change, Layer, on_add, on_strike, struck}
use Rattle.model.specs.Read.{unless, through}

-- an add at a position up to and including s
abbrev pub add_up_to : ℕ → Edit → Bool
add_up_to s = on_add (λ p r. leb p s)

-- a strike at a position before s
abbrev pub strike_before : ℕ → Edit → Bool
strike_before s = on_strike (λ p k. ltb p s)

-- the shift at base position s: adds up to and including s, less strikes before s, a signed number
unfoldable pub shift : Layer → ℕ → ℤ
shift L s = sub_ℕ (count (add_up_to s) L) (count (strike_before s) L)

-- row number = s + shift
unfoldable pub row_of : Layer → ℕ → ℕ
row_of L s = (s + count (add_up_to s) L) - count (strike_before s) L

-- the numbers of the entries that add at s, where the first entry of the list has number i
abbrev pub add_numbers : ℕ → ℕ → Layer → List ℕ
add_numbers s i [] = []
add_numbers s i (at p (add r) ∷ L) = cond (eqb s p) (i ∷ add_numbers s (suc i) L) (add_numbers s (suc i) L)
add_numbers s i (at p (strike k) ∷ L) = add_numbers s (suc i) L
add_numbers s i (at p (change j e) ∷ L) = add_numbers s (suc i) L

-- what each shown row is, by the reading rule
abbrev pub origins_from : ℕ → List ℕ → Layer → List Origin
origins_from s xs L = through (λ p. map added (add_numbers p 0 L)) (λ p x. unless (struck p L) (base p)) s xs

unfoldable pub origins : ℕ → Layer → List Origin
origins n L = origins_from 0 (replicate n 0) L

-- back: row r is either base row s or the added entry number i
abbrev pub back : ℕ → Layer → ℕ → Origin
back n L r = get_or (origins n L) r (base n)
