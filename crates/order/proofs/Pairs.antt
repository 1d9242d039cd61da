-- A rule that every pair of a list obeys: by members, for filters, maps and insertions; two lists that a strict order
-- sorts and that have the same members are one.
-- Assumes nothing.
use mathlib.Core.Path.{◌≡◌, refl, sym, ap, ◌∙◌}
use mathlib.Core.Logic.{◌⊎◌, inl, inr, ⊎_elim}
use mathlib.Core.Bool.{Bool, true, false, cond, ◌&&◌}
use mathlib.Core.List.Memᴰ.{cases_cons}
use mathlib.Core.List.Memᴰ.{head as here}
use mathlib.Core.List.Memᴰ.{not-nil}
use mathlib.Core.List.Memᴰ.{tail as next}
use mathlib.Core.List.{
  List,
  [],
  ◌∷◌,
  map,
  Memᴰ as Mem,
}
use Prim.Native.Nat.{suc, ◌≤◌}
use native.Mathlib.Omega.{arith}
use lib.ListN.{length}
use Rattle.order.specs.Lists.{all, filter, insert, least_broken}
use Rattle.order.proofs.Tests.{and_l, and_r, and_of}
use Rattle.order.proofs.Members.{all_mem, all_of, filter_mem, insert_mem, mem_map, map_mem}

module _ {A : Type 0} where
  -- every element has the rule with every later one
  abbrev pub AllPairs : (A → A → Bool) → List A → Type 0
  AllPairs R [] = Unit {0}
  AllPairs R (x ∷ xs) = ((y : A) → Mem y xs → R x y ≡ true) × AllPairs R xs

  -- a weaker rule
  pub pairs_weaker : (R S : A → A → Bool) (xs : List A)
      → ((x y : A) → Mem x xs → Mem y xs → R x y ≡ true → S x y ≡ true) → AllPairs R xs → AllPairs S xs
  pairs_weaker R S [] h p = tt
  pairs_weaker R S (x ∷ xs) h p = (
    λ y m. h x y (here refl) (next m) (p.0 y m),
    pairs_weaker R S xs (λ a b m n. h a b (next m) (next n)) p.1,
  )

  -- two rules are one
  pub pairs_both : (R S Q : A → A → Bool) (xs : List A)
      → ((x y : A) → Mem x xs → Mem y xs → R x y ≡ true → S x y ≡ true → Q x y ≡ true) → AllPairs R xs → AllPairs S xs
      → AllPairs Q xs
  pairs_both R S Q [] h p q = tt
  pairs_both R S Q (x ∷ xs) h p q = (
    λ y m. h x y (here refl) (next m) (p.0 y m) (q.0 y m),
    pairs_both R S Q xs (λ a b m n. h a b (next m) (next n)) p.1 q.1,
  )

  -- of two members one stands before the other, where they are not the same
  pub pairs_two : (R : A → A → Bool) (xs : List A) → AllPairs R xs → (x y : A) → Mem x xs → Mem y xs
      → (x ≡ y) ⊎ ((R x y ≡ true) ⊎ (R y x ≡ true))
  pairs_two R [] p x y x5 _ = elim x5 [ ]
  pairs_two R (z ∷ zs) p x y (here e) (here f) = inl (e ∙ sym f)
  pairs_two R (z ∷ zs) p x y (here e) (next n) = inr (inl (ap (λ (w : A). R w y) e ∙ p.0 y n))
  pairs_two R (z ∷ zs) p x y (next m) (here f) = inr (inr (ap (λ (w : A). R w x) f ∙ p.0 x m))
  pairs_two R (z ∷ zs) p x y (next m) (next n) = pairs_two R zs p.1 x y m n

  pub pairs_filter : (R : A → A → Bool) (f : A → Bool) (xs : List A) → AllPairs R xs → AllPairs R (filter f xs)
  pairs_filter R f [] p = tt
  pairs_filter R f (x ∷ xs) p =
      let ih = pairs_filter R f xs p.1 in
      elim (f x) as (λ t. AllPairs R (cond t (x ∷ filter f xs) (filter f xs))) [
        | true ↦ (λ y m. p.0 y (filter_mem f xs y m).0, ih)
        | false ↦ ih
      ]

  -- insertion keeps a strict order, where the new element can be compared with each
  pub pairs_insert : (R : A → A → Bool) (e : A) (xs : List A)
      → ((x y z : A) → R x y ≡ true → R y z ≡ true → R x z ≡ true)
      → ((x : A) → Mem x xs → R x e ≡ false → R e x ≡ true)
      → AllPairs R xs → AllPairs R (insert R e xs)
  pairs_insert R e [] trans h p = (λ y m. absurd (not-nil m), tt)
  pairs_insert R e (x ∷ xs) trans h p = go (pairs_insert R e xs trans (λ y m. h y (next m)) p.1) (R x e) refl
    where
      go : AllPairs R (insert R e xs) → (t : Bool) → R x e ≡ t → AllPairs R (cond t (x ∷ insert R e xs) (e ∷ x ∷ xs))
      go ih true f = (λ y m. ⊎_elim (λ g. ap (R x) g ∙ f) (λ n. p.0 y n) (insert_mem R e xs y m), ih)
      go ih false f = (λ y m. later y (cases_cons m), p)
        where
          first : R e x ≡ true
          first = h x (here refl) f

          later : (y : A) → (y ≡ x) ⊎ Mem y xs → R e y ≡ true
          later y (inl g) = ap (R e) g ∙ first
          later y (inr n) = trans e x y first (p.0 y n)

  -- the order and the members say the list
  module _ (R : A → A → Bool) (asym : (x y : A) → R x y ≡ true → R y x ≡ true → ⊥) where
    -- two lists with one head: what is behind it in one is behind it in the other
    behind_head : (x y : A) (xs ys : List A) → x ≡ y → AllPairs R (x ∷ xs) → ((r : A) → Mem r (x ∷ xs) → Mem r (y ∷ ys))
        → (r : A) → Mem r xs → Mem r ys
    behind_head x y xs ys h p f r m =
        ⊎_elim (λ e. absurd (twice (ap (R x) (h ∙ sym e) ∙ p.0 r m))) (λ n. n) (cases_cons (f r (next m)))
      where
        twice : R x x ≡ true → ⊥
        twice t = asym x x t t

    pub pairs_ext : (xs ys : List A) → AllPairs R xs → AllPairs R ys → ((x : A) → Mem x xs → Mem x ys)
        → ((x : A) → Mem x ys → Mem x xs)
        → xs ≡ ys
    pairs_ext [] [] p q f g = refl
    pairs_ext [] (y ∷ ys) p q f g = absurd (not-nil (g y (here refl)))
    pairs_ext (x ∷ xs) [] p q f g = absurd (not-nil (f x (here refl)))
    pairs_ext (x ∷ xs) (y ∷ ys) p q f g =
        let tails = pairs_ext xs ys p.1 q.1 (behind_head x y xs ys heads p f) (behind_head y x ys xs (sym heads) q g) in
        λ i. heads i ∷ tails i
      where
        heads : x ≡ y
        heads =
            ⊎_elim (λ e. e) (λ m. ⊎_elim (λ e. sym e) (λ n. absurd (asym x y (p.0 y n) (q.0 x m)))
            (cases_cons (g y (here refl))))
            (cases_cons (f x (here refl)))

  -- what it says that no element breaks a rule, and that so it is
  pub record Unbroken (alone : A → Bool) (pair : A → A → Bool) (earlier xs : List A) : Type 0 where
    pub each : (x : A) → Mem x xs → alone x ≡ true
    pub past : (y x : A) → Mem y earlier → Mem x xs → pair y x ≡ true
    pub pairs : AllPairs pair xs

  module _ (alone : A → Bool) (pair : A → A → Bool) where
    pub broken_le : (earlier xs : List A) → least_broken alone pair earlier xs ≤ length xs
    broken_le earlier [] = omega arith
    broken_le earlier (x ∷ xs) = go (broken_le (x ∷ earlier) xs) (alone x && all (λ y. pair y x) earlier)
      where
        go : least_broken alone pair (x ∷ earlier) xs ≤ length xs → (t : Bool)
            → cond t (suc (least_broken alone pair (x ∷ earlier) xs)) 0 ≤ suc (length xs)
        go ih true = omega arith
        go ih false = omega arith

    -- one more element in front, sound alone and with the earlier ones
    unbroken_front : (earlier : List A) (x : A) (xs : List A) → alone x && all (λ y. pair y x) earlier ≡ true
        → Unbroken alone pair (x ∷ earlier) xs → Unbroken alone pair earlier (x ∷ xs)
    unbroken_front earlier x xs h U =
        let a = and_l (alone x) (all (λ y. pair y x) earlier) h in
        let b = all_mem (λ y. pair y x) earlier (and_r (alone x) (all (λ y. pair y x) earlier) h) in
        record {
          each = λ z m. ⊎_elim (λ g. ap alone g ∙ a) (λ n. U.each z n) (cases_cons m);
          past = λ y z n m. ⊎_elim (λ g. ap (pair y) g ∙ b y n) (λ k. U.past y z (next n) k) (cases_cons m);
          pairs = (λ y m. U.past x y (here refl) m, U.pairs);
        }

    pub unbroken : (earlier xs : List A) → least_broken alone pair earlier xs ≡ length xs → Unbroken alone pair earlier xs
    unbroken earlier [] e = record {
      each = λ x m. absurd (not-nil m);
      past = λ y x n m. absurd (not-nil m);
      pairs = tt;
    }
    unbroken earlier (x ∷ xs) e = go (λ h. unbroken (x ∷ earlier) xs h) (alone x && all (λ y. pair y x) earlier) refl e
      where
        go : (least_broken alone pair (x ∷ earlier) xs ≡ length xs → Unbroken alone pair (x ∷ earlier) xs)
            → (t : Bool) → alone x && all (λ y. pair y x) earlier ≡ t
            → cond t (suc (least_broken alone pair (x ∷ earlier) xs)) 0 ≡ suc (length xs) → Unbroken alone pair earlier (x ∷ xs)
        go ih false h f = absurd (omega arith)
        go ih true h f = unbroken_front earlier x xs h (ih (omega arith))

  -- then none does with the first among the earlier ones
  pub unbroken_next : {alone : A → Bool} {pair : A → A → Bool} {earlier : List A} (x : A) {xs : List A}
      → Unbroken alone pair earlier (x ∷ xs) → Unbroken alone pair (x ∷ earlier) xs
  unbroken_next {pair = pair} x U = record {
    each = λ z m. U.each z (next m);
    past = λ y z n m. ⊎_elim (λ g. ap (λ (w : A). pair w z) g ∙ U.pairs.0 z m) (λ k. U.past y z k (next m)) (cases_cons n);
    pairs = U.pairs.1;
  }

  pub of_unbroken : (alone : A → Bool) (pair : A → A → Bool) (earlier xs : List A) → Unbroken alone pair earlier xs
      → least_broken alone pair earlier xs ≡ length xs
  of_unbroken alone pair earlier [] U = refl
  of_unbroken alone pair earlier (x ∷ xs) U =
      rw (and_of (alone x) (all (λ y. pair y x) earlier) (U.each x (here refl))
      (all_of (λ y. pair y x) earlier (λ y n. U.past y x n (here refl))))
      (ap suc (of_unbroken alone pair (x ∷ earlier) xs (unbroken_next x U)))

  -- where nothing stands earlier, each alone and all in pairs say it
  pub none_broken : (alone : A → Bool) (pair : A → A → Bool) (xs : List A) → ((x : A) → Mem x xs → alone x ≡ true)
      → AllPairs pair xs → least_broken alone pair [] xs ≡ length xs
  none_broken alone pair xs e p =
      of_unbroken alone pair [] xs (record { each = e; past = λ y x k m. absurd (not-nil k); pairs = p })

module _ {A B : Type 0} where
  -- a map that carries the rule over
  pub pairs_map : (R : A → A → Bool) (S : B → B → Bool) (f : A → B) (xs : List A)
      → ((x y : A) → Mem x xs → Mem y xs → R x y ≡ true → S (f x) (f y) ≡ true) → AllPairs R xs → AllPairs S (map f xs)
  pairs_map R S f [] h p = tt
  pairs_map R S f (x ∷ xs) h p = (
    λ b m.
        let w = map_mem f xs b m in
        ap (S (f x)) w.2 ∙ h x w.0 (here refl) (next w.1) (p.0 w.0 w.1),
    pairs_map R S f xs (λ a b m n. h a b (next m) (next n)) p.1,
  )

  -- and back: a rule of what the elements become is a rule of the elements
  pub pairs_unmap : (S : B → B → Bool) (f : A → B) (xs : List A) → AllPairs S (map f xs) → AllPairs (λ x y. S (f x) (f y)) xs
  pairs_unmap S f [] p = tt
  pairs_unmap S f (x ∷ xs) p = (λ y m. p.0 (f y) (mem_map f xs y m), pairs_unmap S f xs p.1)
