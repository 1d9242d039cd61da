-- A list of what a function gives for numbers in a row: its length, its elements.
-- Assumes nothing.
use mathlib.Core.Path.{◌≡◌, refl, ap, ◌∙◌}
use mathlib.Core.List.Memᴰ.{head as here}
use mathlib.Core.List.Memᴰ.{tail as next}
use mathlib.Core.List.{Memᴰ as Mem}
use Prim.Native.Nat.{ℕ, zero, suc, ◌+◌, ◌<◌}
use native.Mathlib.Omega.{arith}
use lib.ListN.{length, get_or}
use Rattle.order.specs.Lists.{up_from}

module _ {A : Type 0} (f : ℕ → A) where
  pub up_length : (s k : ℕ) → length (up_from f s k) ≡ k
  up_length s zero = refl
  up_length s (suc k) = ap suc (up_length (suc s) k)

  -- its element number i is what f gives for s + i
  pub up_get_or : (s k i : ℕ) (d : A) → i < k → get_or (up_from f s k) i d ≡ f (s + i)
  up_get_or s zero i d h = absurd (omega arith)
  up_get_or s (suc k) zero d h = let e : s ≡ s + 0 = omega arith in ap f e
  up_get_or s (suc k) (suc i) d h =
      let e : suc s + i ≡ s + suc i = omega arith in up_get_or (suc s) k i d (omega arith) ∙ ap f e

  -- a member is what f gives for some number
  pub up_mem : (s k : ℕ) (x : A) → Mem x (up_from f s k) → (i : ℕ) × (x ≡ f i)
  up_mem s zero x x3 = elim x3 [ ]
  up_mem s (suc k) x (here e) = (s, e)
  up_mem s (suc k) x (next m) = up_mem (suc s) k x m
