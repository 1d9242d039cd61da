-- How many elements pass: of joined lists, of tests that add up, of mapped lists.
-- Assumes nothing.
use mathlib.Core.Path.{◌≡◌, refl, sym, ap, ◌∙◌}
use mathlib.Core.Bool.{Bool, true, false, not, cond}
use mathlib.Core.List.Memᴰ.{head as here}
use mathlib.Core.List.Memᴰ.{tail as next}
use mathlib.Core.List.{List, [], ◌∷◌, ◌++◌, map, Memᴰ as Mem}
use Prim.Native.Nat.{suc, ◌+◌, ◌≤◌}
use native.Mathlib.Omega.{arith}
use lib.ListN.{length}
use Rattle.order.specs.Lists.{one, count, filter, insert}
use Rattle.order.proofs.Tests.{one_le, not_passed}
use Rattle.order.proofs.Pairs.{AllPairs}

module _ {A : Type 0} where
  pub count_append : (f : A → Bool) (xs ys : List A) → count f (xs ++ ys) ≡ count f xs + count f ys
  count_append f [] ys = omega arith
  count_append f (x ∷ xs) ys = omega (arith, count_append f xs ys)

  pub count_sum : (f g h : A → Bool) (xs : List A) → ((x : A) → Mem x xs → one (f x) + one (g x) ≡ one (h x))
      → count f xs + count g xs ≡ count h xs
  count_sum f g h [] e = refl
  count_sum f g h (x ∷ xs) e = omega (arith, e x (here refl), count_sum f g h xs (λ y m. e y (next m)))

  pub count_same : (f g : A → Bool) (xs : List A) → ((x : A) → Mem x xs → one (f x) ≡ one (g x)) → count f xs ≡ count g xs
  count_same f g [] e = refl
  count_same f g (x ∷ xs) e = omega (arith, e x (here refl), count_same f g xs (λ y m. e y (next m)))

  pub count_zero : (f : A → Bool) (xs : List A) → ((x : A) → Mem x xs → one (f x) ≡ 0) → count f xs ≡ 0
  count_zero f [] e = refl
  count_zero f (x ∷ xs) e = omega (arith, e x (here refl), count_zero f xs (λ y m. e y (next m)))

  pub count_le : (f : A → Bool) (xs : List A) → count f xs ≤ length xs
  count_le f [] = omega arith
  count_le f (x ∷ xs) = omega (arith, one_le (f x), count_le f xs)

  -- those that do not pass, and those that do
  pub filter_count : (f : A → Bool) (xs : List A) → length (filter (λ x. not (f x)) xs) + count f xs ≡ length xs
  filter_count f [] = omega arith
  filter_count f (x ∷ xs) = go (filter_count f xs) (f x)
    where
      go : length (filter (λ x. not (f x)) xs) + count f xs ≡ length xs → (t : Bool)
          → length (cond (not t) (x ∷ filter (λ x. not (f x)) xs) (filter (λ x. not (f x)) xs)) + (one t + count f xs)
          ≡ suc (length xs)
      go ih true = omega arith
      go ih false = omega arith

  pub count_all : (xs : List A) → count (λ x. true) xs ≡ length xs
  count_all [] = refl
  count_all (x ∷ xs) = omega (arith, count_all xs)

  pub count_insert : (f : A → Bool) (R : A → A → Bool) (e : A) (xs : List A) → count f (insert R e xs) ≡ one (f e) + count f xs
  count_insert f R e [] = refl
  count_insert f R e (x ∷ xs) = go (count_insert f R e xs) (R x e)
    where
      go : count f (insert R e xs) ≡ one (f e) + count f xs → (t : Bool)
          → count f (cond t (x ∷ insert R e xs) (e ∷ x ∷ xs)) ≡ one (f e) + (one (f x) + count f xs)
      go ih true = omega arith
      go ih false = refl

  pub length_insert : (R : A → A → Bool) (e : A) (xs : List A) → length (insert R e xs) ≡ suc (length xs)
  length_insert R e [] = refl
  length_insert R e (x ∷ xs) = go (length_insert R e xs) (R x e)
    where
      go : length (insert R e xs) ≡ suc (length xs) → (t : Bool)
          → length (cond t (x ∷ insert R e xs) (e ∷ x ∷ xs)) ≡ suc (suc (length xs))
      go ih true = ap suc ih
      go ih false = refl

  -- a filter that drops only elements that do not count
  pub count_filter : (f g : A → Bool) (xs : List A) → ((x : A) → Mem x xs → g x ≡ false → f x ≡ false)
      → count f (filter g xs) ≡ count f xs
  count_filter f g [] h = refl
  count_filter f g (x ∷ xs) h = go (count_filter f g xs (λ y m. h y (next m))) (g x) refl
    where
      go : count f (filter g xs) ≡ count f xs → (t : Bool) → g x ≡ t
          → count f (cond t (x ∷ filter g xs) (filter g xs)) ≡ one (f x) + count f xs
      go ih true e = omega arith
      go ih false e = omega (arith, ap one (h x (here refl) e))

  -- where no two that pass can stand in one list, one that passes is the only one
  pub count_once : (f : A → Bool) (R : A → A → Bool) → ((x y : A) → f x ≡ true → f y ≡ true → R x y ≡ true → ⊥)
      → (xs : List A) → AllPairs R xs → (x : A) → Mem x xs → f x ≡ true → count f xs ≡ 1
  count_once f R two [] p x x5 t = elim x5 [ ]
  count_once f R two (y ∷ ys) p x (here e) t =
      let u : f y ≡ true = sym (ap f e) ∙ t in
      omega (arith, ap one u, count_zero f ys (λ z m. ap one (not_passed (f z) (λ v. two y z u v (p.0 z m)))))
  count_once f R two (y ∷ ys) p x (next m) t =
      omega (arith, ap one (not_passed (f y) (λ v. two y x v t (p.0 x m))), count_once f R two ys p.1 x m t)

module _ {A B : Type 0} where
  pub count_map : (f : A → B) (g : B → Bool) (xs : List A) → count g (map f xs) ≡ count (λ x. g (f x)) xs
  count_map f g [] = refl
  count_map f g (x ∷ xs) = omega (arith, count_map f g xs)
