-- The first element of a list that passes a test: where it stands, that it passes, that none earlier does.
-- Assumes nothing.
use mathlib.Core.Path.{◌≡◌, refl, sym, ◌∙◌}
use mathlib.Core.Bool.{Bool, true, false, cond, ◌||◌}
use mathlib.Core.List.Memᴰ.{head as here}
use mathlib.Core.List.Memᴰ.{tail as next}
use mathlib.Core.List.{List, [], ◌∷◌, Memᴰ as Mem}
use Prim.Native.Nat.{ℕ, zero, suc, ◌≤◌, ◌<◌}
use native.Mathlib.Omega.{arith}
use lib.ListN.{length, get_or}
use lib.Dec.{ltb}
use borrow.Author.Tests.{lt-ltb}
use Rattle.order.specs.Lists.{any, first_at}
use Rattle.order.proofs.Tests.{tests, same_test}

module _ {A : Type 0} (f : A → Bool) where
  pub first_le : (xs : List A) → first_at f xs ≤ length xs
  first_le [] = omega arith
  first_le (x ∷ xs) = go (f x) (first_le xs)
    where
      go : (t : Bool) → first_at f xs ≤ length xs → cond t 0 (suc (first_at f xs)) ≤ suc (length xs)
      go true ih = omega arith
      go false ih = omega arith

  -- it is there where some element passes
  pub any_first : (xs : List A) → any f xs ≡ ltb (first_at f xs) (length xs)
  any_first [] = refl
  any_first (x ∷ xs) = go (f x) (any_first xs)
    where
      go : (t : Bool) → any f xs ≡ ltb (first_at f xs) (length xs)
          → (t || any f xs) ≡ ltb (cond t 0 (suc (first_at f xs))) (suc (length xs))
      go true ih = sym (lt-ltb 0 (suc (length xs)) (omega arith))
      go false ih =
          ih
          ∙ same_test (ltb (first_at f xs) (length xs)) (ltb (suc (first_at f xs)) (suc (length xs))) (λ e. omega tests)
          (λ e. omega tests)

  pub first_passes : (d : A) (xs : List A) → first_at f xs < length xs → f (get_or xs (first_at f xs) d) ≡ true
  first_passes d [] h = absurd (omega arith)
  first_passes d (x ∷ xs) h = go (f x) refl h (first_passes d xs)
    where
      go : (t : Bool) → f x ≡ t → cond t 0 (suc (first_at f xs)) < suc (length xs)
          → (first_at f xs < length xs → f (get_or xs (first_at f xs) d) ≡ true)
          → f (get_or (x ∷ xs) (cond t 0 (suc (first_at f xs))) d) ≡ true
      go true e g ih = e
      go false e g ih = ih (omega arith)

  pub first_least : (d : A) (xs : List A) (i : ℕ) → i < first_at f xs → f (get_or xs i d) ≡ false
  first_least d [] i h = absurd (omega arith)
  first_least d (x ∷ xs) i h = go (f x) refl i h (first_least d xs)
    where
      go : (t : Bool) → f x ≡ t → (i : ℕ) → i < cond t 0 (suc (first_at f xs))
          → ((j : ℕ) → j < first_at f xs → f (get_or xs j d) ≡ false)
          → f (get_or (x ∷ xs) i d) ≡ false
      go true e i g ih = absurd (omega arith)
      go false e zero g ih = e
      go false e (suc i) g ih = ih i (omega arith)

-- where two tests are one on the elements, so is the place
module _ {A : Type 0} (f g : A → Bool) where
  pub first_same : (xs : List A) → ((x : A) → Mem x xs → f x ≡ g x) → first_at f xs ≡ first_at g xs
  first_same [] h = refl
  first_same (x ∷ xs) h = rw (h x (here refl), first_same xs (λ y m. h y (next m)))
