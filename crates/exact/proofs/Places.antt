-- The least element that breaks a rule: k is at most its place exactly where the first k elements keep the rules.
-- Assumes nothing.
use Prim.Native.Nat.{ℕ, zero, suc, ◌≤◌, ◌<◌}
use native.Mathlib.Omega.{arith}
use mathlib.Core.Path.{◌≡◌, refl, ap, ◌∙◌}
use mathlib.Core.Logic.{⊎_elim}
use mathlib.Core.Bool.{Bool, true, false, cond, ◌&&◌}
use mathlib.Core.List.Memᴰ.{cases_cons}
use mathlib.Core.List.Memᴰ.{head as here}
use mathlib.Core.List.Memᴰ.{tail as next}
use mathlib.Core.List.{
  List,
  [],
  ◌∷◌,
  Memᴰ as Mem,
}
use lib.ListN.{length, get_or}
use Rattle.order.specs.Lists.{all, least_broken}
use Rattle.order.proofs.Tests.{and_l, and_r, and_of}
use Rattle.order.proofs.Members.{all_mem, all_of}

module _ {A : Type 0} (alone : A → Bool) (pair : A → A → Bool) (d : A) where
  -- the first k elements break no rule, alone or with an earlier one
  pub record Keeps (earlier xs : List A) (k : ℕ) : Type 0 where
    pub each : (i : ℕ) → i < k → alone (get_or xs i d) ≡ true
    pub past : (y : A) → Mem y earlier → (i : ℕ) → i < k → pair y (get_or xs i d) ≡ true
    pub pairs : (i j : ℕ) → i < j → j < k → pair (get_or xs i d) (get_or xs j d) ≡ true

  keeps_none : (earlier xs : List A) → Keeps earlier xs 0
  keeps_none earlier xs = record {
    each = λ i h. absurd (omega arith);
    past = λ y m i h. absurd (omega arith);
    pairs = λ i j h l. absurd (omega arith);
  }

  -- one more in front
  keeps_more : (x : A) (earlier xs : List A) (k : ℕ) → alone x && all (λ y. pair y x) earlier ≡ true
      → Keeps (x ∷ earlier) xs k → Keeps earlier (x ∷ xs) (suc k)
  keeps_more x earlier xs k e w = record { each = each; past = past; pairs = pairs }
    where
      each : (i : ℕ) → i < suc k → alone (get_or (x ∷ xs) i d) ≡ true
      each zero h = and_l (alone x) (all (λ y. pair y x) earlier) e
      each (suc i) h = w.each i (omega arith)

      past : (y : A) → Mem y earlier → (i : ℕ) → i < suc k → pair y (get_or (x ∷ xs) i d) ≡ true
      past y m zero h = all_mem (λ z. pair z x) earlier (and_r (alone x) (all (λ z. pair z x) earlier) e) y m
      past y m (suc i) h = w.past y (next m) i (omega arith)

      pairs : (i j : ℕ) → i < j → j < suc k → pair (get_or (x ∷ xs) i d) (get_or (x ∷ xs) j d) ≡ true
      pairs i zero h l = absurd (omega arith)
      pairs zero (suc j) h l = w.past x (here refl) j (omega arith)
      pairs (suc i) (suc j) h l = w.pairs i j (omega arith) (omega arith)

  keeps_first : (x : A) (earlier xs : List A) (k : ℕ) → Keeps earlier (x ∷ xs) (suc k)
      → (alone x && all (λ y. pair y x) earlier ≡ true) × Keeps (x ∷ earlier) xs k
  keeps_first x earlier xs k w = (
    and_of (alone x) (all (λ y. pair y x) earlier) (w.each 0 (omega arith))
        (all_of (λ y. pair y x) earlier (λ y m. w.past y m 0 (omega arith))),
    record {
      each = λ i h. w.each (suc i) (omega arith);
      past = λ y m i h.
          ⊎_elim (λ g. ap (λ (z : A). pair z (get_or xs i d)) g ∙ w.pairs 0 (suc i) (omega arith) (omega arith))
          (λ n. w.past y n (suc i) (omega arith)) (cases_cons m);
      pairs = λ i j h l. w.pairs (suc i) (suc j) (omega arith) (omega arith);
    },
  )

  pub least_keeps : (earlier xs : List A) (k : ℕ) → k ≤ least_broken alone pair earlier xs → Keeps earlier xs k
  least_keeps earlier xs zero l = keeps_none earlier xs
  least_keeps earlier [] (suc k) l = absurd (omega arith)
  least_keeps earlier (x ∷ xs) (suc k) l =
      go (least_keeps (x ∷ earlier) xs k) (alone x && all (λ y. pair y x) earlier) refl l
    where
      go : (k ≤ least_broken alone pair (x ∷ earlier) xs → Keeps (x ∷ earlier) xs k)
          → (t : Bool) → alone x && all (λ y. pair y x) earlier ≡ t
          → suc k ≤ cond t (suc (least_broken alone pair (x ∷ earlier) xs)) 0 → Keeps earlier (x ∷ xs) (suc k)
      go ih true e h = keeps_more x earlier xs k e (ih (omega arith))
      go ih false e h = absurd (omega arith)

  pub keeps_least : (earlier xs : List A) (k : ℕ) → k ≤ length xs → Keeps earlier xs k
      → k ≤ least_broken alone pair earlier xs
  keeps_least earlier xs zero h w = omega arith
  keeps_least earlier [] (suc k) h w = absurd (omega arith)
  keeps_least earlier (x ∷ xs) (suc k) h w =
      let z = keeps_first x earlier xs k w in
      rw z.0 (let ih = keeps_least (x ∷ earlier) xs k (omega arith) z.1 in omega arith)

module _ {A : Type 0} (alone : A → Bool) (d : A) where
  -- every element passes, element by element
  pub all_at : (xs : List A) (i : ℕ) → all alone xs ≡ true → i < length xs → alone (get_or xs i d) ≡ true
  all_at [] i e h = absurd (omega arith)
  all_at (x ∷ xs) zero e h = and_l (alone x) (all alone xs) e
  all_at (x ∷ xs) (suc i) e h = all_at xs i (and_r (alone x) (all alone xs) e) (omega arith)

  pub at_all : (xs : List A) → ((i : ℕ) → i < length xs → alone (get_or xs i d) ≡ true) → all alone xs ≡ true
  at_all [] h = refl
  at_all (x ∷ xs) h =
      and_of (alone x) (all alone xs) (h 0 (omega arith)) (at_all xs (λ i l. h (suc i) (omega arith)))
