-- Fit of a layer to a key column K, rule by rule, and the place of the least entry that breaks a rule.
use Rattle.std.specs.Prelude.{Bool, true, false, not, ◌&&◌, ◌||◌, List, [], ℕ, zero, suc, length, get_or, leb, ltb, eqb}
use Rattle.order.specs.Lists.{least_broken, count}
use Rattle.model.specs.Row.{key}
use Rattle.model.specs.Layer.{Deed, add, strike, change, Edit, at, Layer, struck}

-- K[s-1] < k, if s > 0
abbrev pub above : List ℕ → ℕ → ℕ → Bool
above K zero k = true
above K (suc s) k = ltb (get_or K s 0) k

-- and, if s < n, k < K[s], or k = K[s] where row s is struck
abbrev pub under : List ℕ → Layer → ℕ → ℕ → Bool
under K L s k = leb (length K) s || (ltb k (get_or K s 0) || (eqb k (get_or K s 0) && struck s L))

-- Alone. A strike's key is K at its position; an add's key lies between its neighbours.
abbrev pub suits : List ℕ → Layer → Edit → Bool
suits K L (at s (add r)) = above K s (key r) && under K L s (key r)
suits K L (at s (strike k)) = eqb (get_or K s 0) k
suits K L (at s (change j e)) = true

-- With an earlier one: adds at one position have strictly ascending keys.
abbrev pub keys_rise : Deed → Deed → Bool
keys_rise (add q) (add r) = ltb (key q) (key r)
keys_rise (add q) (strike k) = true
keys_rise (add q) (change j e) = true
keys_rise (strike k) d = true
keys_rise (change j e) d = true

abbrev pub rises : Edit → Edit → Bool
rises (at p d) (at s e) = not (eqb p s) || keys_rise d e

-- the place of the least edit that breaks a rule, or their number
unfoldable pub fit_place : List ℕ → Layer → ℕ
fit_place K L = least_broken (suits K L) rises [] L

unfoldable pub fits : List ℕ → Layer → Bool
fits K L = eqb (fit_place K L) (length L)

-- the number of keys below k: an add's position in the base, a key's row number in a table
abbrev pub keys_below : ℕ → List ℕ → ℕ
keys_below k K = count (λ l. ltb l k) K
