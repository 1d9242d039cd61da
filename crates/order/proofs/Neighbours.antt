-- Looking at the one element before is looking at every earlier element, where a rule of pairs carries over.
-- Assumes nothing.
use Prim.Native.Nat.{ℕ, suc}
use mathlib.Core.Path.{◌≡◌, refl, sym, ap, ◌∙◌}
use mathlib.Core.Logic.{⊎_elim}
use mathlib.Core.Bool.{Bool, true, false, cond, ◌&&◌}
use mathlib.Core.List.Memᴰ.{cases_cons}
use mathlib.Core.List.Memᴰ.{head as here}
use mathlib.Core.List.Memᴰ.{not-nil}
use mathlib.Core.List.{
  List,
  [],
  ◌∷◌,
  Memᴰ as Mem,
}
use Rattle.order.specs.Lists.{all, least_broken}
use Rattle.order.proofs.Tests.{and_l, same_test}
use Rattle.order.proofs.Members.{all_mem, all_of}
use Rattle.order.proofs.Pairs.{Unbroken, unbroken_next}

module _ {A : Type 0} (alone : A → Bool) (pair : A → A → Bool) where
  -- how many elements stand before the first that fails alone or with the one before it, which for the first is d
  abbrev pub least_after : A → List A → ℕ
  least_after d [] = 0
  least_after d (x ∷ xs) = cond (alone x && pair d x) (suc (least_after x xs)) 0

-- the rule carries over where the elements are known to obey another rule, G
module _ {A : Type 0} (alone sure : A → Bool) (pair G : A → A → Bool)
    (trans : (y d x : A) → G y d ≡ true → G d x ≡ true → pair y d ≡ true → pair d x ≡ true → pair y x ≡ true) where
  -- d speaks for all the earlier ones
  speaks : (d x : A) (ys : List A) → ((y : A) → Mem y ys → (G y d ≡ true) × (pair y d ≡ true)) → G d x ≡ true
      → pair d x ≡ all (λ y. pair y x) (d ∷ ys)
  speaks d x ys h g = same_test (pair d x) (all (λ y. pair y x) (d ∷ ys))
      (λ p. all_of (λ y. pair y x) (d ∷ ys) (λ y m. ⊎_elim (λ e. ap (λ (z : A). pair z x) e ∙ p)
      (λ n. trans y d x (h y n).0 g (h y n).1 p) (cases_cons m)))
      (λ p. and_l (pair d x) (all (λ y. pair y x) ys) p)

  pub neighbours : (d : A) (ys xs : List A) → ((y : A) → Mem y ys → (G y d ≡ true) × (pair y d ≡ true))
      → Unbroken sure G (d ∷ ys) xs → least_after alone pair d xs ≡ least_broken alone pair (d ∷ ys) xs
  neighbours d ys [] h U = refl
  neighbours d ys (x ∷ xs) h U =
      by (alone x) (pair d x) refl same
      (λ p. neighbours x (d ∷ ys) xs
      (λ y m. (U.past y x m (here refl), all_mem (λ z. pair z x) (d ∷ ys) (sym same ∙ p) y m)) (unbroken_next x U))
    where
      same : pair d x ≡ all (λ y. pair y x) (d ∷ ys)
      same = speaks d x ys h (U.past d x (here refl) (here refl))

      by : (a b : Bool) {u : Bool} → pair d x ≡ b → b ≡ u
          → (pair d x ≡ true → least_after alone pair x xs ≡ least_broken alone pair (x ∷ d ∷ ys) xs)
          → cond (a && b) (suc (least_after alone pair x xs)) 0
          ≡ cond (a && u) (suc (least_broken alone pair (x ∷ d ∷ ys) xs)) 0
      by false b e f ih = refl
      by true true e f ih = rw (← f) (ap suc (ih e))
      by true false e f ih = rw (← f)

  -- from the start on: anything may follow d
  pub from_start : (d : A) (xs : List A) → ((x : A) → pair d x ≡ true) → Unbroken sure G [] xs
      → least_after alone pair d xs ≡ least_broken alone pair [] xs
  from_start d [] h U = refl
  from_start d (x ∷ xs) h U =
      rw (h x) (ap (λ (k : ℕ). cond (alone x && true) (suc k) 0)
      (neighbours x [] xs (λ y m. absurd (not-nil m)) (unbroken_next x U)))
