-- What a pass over rows gives, `through`: from equal parts, mapped before and after, and who is a member of it.
-- Reading a table, reading a column and the origins of what is read are such passes.
-- Assumes nothing.
use mathlib.Core.Path.{◌≡◌, refl, ap, ◌∙◌}
use mathlib.Core.Logic.{◌⊎◌, inl, inr, ⊎_elim}
use mathlib.Core.Bool.{Bool, true, false}
use mathlib.Core.List.Memᴰ.{append_cases}
use mathlib.Core.List.Memᴰ.{append_left as in_left}
use mathlib.Core.List.Memᴰ.{append_right as in_right}
use mathlib.Core.List.Memᴰ.{head as here}
use mathlib.Core.List.Memᴰ.{not-nil}
use mathlib.Core.List.Memᴰ.{tail as next}
use mathlib.Core.List.{
  List,
  [],
  ◌∷◌,
  ◌++◌,
  map,
  map-append,
  Memᴰ as Mem,
}
use Prim.Native.Nat.{ℕ, suc, ◌+◌, ◌≤◌}
use native.Mathlib.Omega.{arith}
use lib.ListN.{length}
use lib.Dec.{eqb}
use borrow.Author.Tests.{eqb-true}
use Rattle.order.proofs.Tests.{tests}
use Rattle.order.proofs.Ascending.{At, top, deep}
use Rattle.model.specs.Read.{unless, through}

module _ {A : Type 0} where
  -- what a row shows, it shows where it is not struck
  pub unless_mem : (t : Bool) (o x : A) → Mem o (unless t x) → (t ≡ false) × (o ≡ x)
  unless_mem true o x m = absurd (not-nil m)
  unless_mem false o x (here e) = (refl, e)
  unless_mem false o x (next m) = absurd (not-nil m)

  pub mem_unless : (t : Bool) (x : A) → t ≡ false → Mem x (unless t x)
  mem_unless t x e = rw (e) (here refl)

module _ {A B : Type 0} where
  pub map_unless : (f : A → B) (t : Bool) (x : A) → map f (unless t x) ≡ unless t (f x)
  map_unless f true x = refl
  map_unless f false x = refl

  -- a pass gives what its two functions give: what is added at each position, and what each row shows at its own
  pub through_same : (a b : ℕ → List B) (k l : ℕ → A → List B) (s : ℕ) (xs : List A)
      → ((p : ℕ) → a p ≡ b p) → ((p : ℕ) (x : A) → At x p s xs → k p x ≡ l p x) → through a k s xs ≡ through b l s xs
  through_same a b k l s [] f g = f s
  through_same a b k l s (x ∷ xs) f g =
      let rest = through_same a b k l (suc s) xs f (λ p y n. g p y (deep n)) in
      rw (f s, g s x (top refl refl)) (ap (λ (t : List B). b s ++ (l s x ++ t)) rest)

module _ {A B C : Type 0} where
  -- what is made of the result of a pass is made on the way
  pub through_map : (f : B → C) (a : ℕ → List B) (k : ℕ → A → List B) (s : ℕ) (xs : List A)
      → map f (through a k s xs) ≡ through (λ p. map f (a p)) (λ p x. map f (k p x)) s xs
  through_map f a k s [] = refl
  through_map f a k s (x ∷ xs) =
      map-append f (a s) (k s x ++ through a k (suc s) xs)
      ∙ ap (λ (t : List C). map f (a s) ++ t)
      (map-append f (k s x) (through a k (suc s) xs)
      ∙ ap (λ (t : List C). map f (k s x) ++ t) (through_map f a k (suc s) xs))

  -- and so is what is made of its rows before
  pub through_over : (g : A → B) (a : ℕ → List C) (k : ℕ → B → List C) (s : ℕ) (xs : List A)
      → through a k s (map g xs) ≡ through a (λ p x. k p (g x)) s xs
  through_over g a k s [] = refl
  through_over g a k s (x ∷ xs) = ap (λ (t : List C). a s ++ (k s (g x) ++ t)) (through_over g a k (suc s) xs)

-- who is a member of a pass: what is added at some position, what some row shows
module _ {A B : Type 0} (f : ℕ → List B) (g : ℕ → A → List B) (o : B) where
  abbrev pub Comes : ℕ → List A → Type 0
  Comes s xs = ((p : ℕ) × (s ≤ p) × (p ≤ s + length xs) × Mem o (f p)) ⊎ ((p : ℕ) × (x : A) × At x p s xs × Mem o (g p x))

  pub through_mem : (s : ℕ) (xs : List A) → Mem o (through f g s xs) → Comes s xs
  through_mem s [] m = inl (s, omega arith, omega arith, m)
  through_mem s (x ∷ xs) m =
      ⊎_elim (λ n. inl (s, omega arith, omega arith, n))
      (λ n. ⊎_elim (λ l. inr (s, x, top refl refl, l)) (λ l. later (through_mem (suc s) xs l)) (append_cases (g s x) n))
      (append_cases (f s) m)
    where
      later : Comes (suc s) xs → Comes s (x ∷ xs)
      later (inl w) = inl (w.0, omega (arith, w.1), omega (arith, w.2), w.3)
      later (inr w) = inr (w.0, w.1, deep w.2, w.3)

  pub added_through : (s : ℕ) (xs : List A) (p : ℕ) → s ≤ p → p ≤ s + length xs → Mem o (f p) → Mem o (through f g s xs)
  added_through s [] p h l m = let e : p ≡ s = omega arith in rw (e) at m
  added_through s (x ∷ xs) p h l m = go (λ a b. added_through (suc s) xs p a b m) (eqb p s) refl
    where
      go : (suc s ≤ p → p ≤ suc s + length xs → Mem o (through f g (suc s) xs)) → (t : Bool) → eqb p s ≡ t
          → Mem o (through f g s (x ∷ xs))
      go ih true e = in_left (g s x ++ through f g (suc s) xs) (rw (eqb-true p s e) at m)
      go ih false e = in_right (f s) (in_right (g s x) (ih (omega tests) (omega arith)))

  pub shown_through : (s : ℕ) (xs : List A) (p : ℕ) (x : A) → At x p s xs → Mem o (g p x) → Mem o (through f g s xs)
  shown_through s [] p x x4 m = elim x4 [ ]
  shown_through s (y ∷ xs) p x (top e h) m = in_right (f s) (in_left (through f g (suc s) xs) (rw (h, e) at m))
  shown_through s (y ∷ xs) p x (deep n) m = in_right (f s) (in_right (g s y) (shown_through (suc s) xs p x n m))
