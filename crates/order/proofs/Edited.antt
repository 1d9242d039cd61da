-- A list with an element entered, taken out or replaced: its members, its order, its places, and what a walk over it does.
-- Assumes nothing.
use mathlib.Core.Path.{◌≡◌, refl, sym, ap, subst, ◌∙◌}
use mathlib.Core.Logic.{◌⊎◌, inl, inr, ⊎_elim}
use mathlib.Core.Bool.{Bool, true, false, not, cond, ◌||◌}
use mathlib.Core.List.Memᴰ.{head as here}
use mathlib.Core.List.Memᴰ.{not-nil}
use mathlib.Core.List.Memᴰ.{tail as next}
use mathlib.Core.List.{
  List,
  [],
  ◌∷◌,
  map,
  Memᴰ as Mem,
}
use Prim.Native.Nat.{ℕ, zero, suc, ◌<◌}
use native.Mathlib.Omega.{arith}
use lib.ListN.{length, set}
use lib.Dec.{eqb}
use borrow.Author.Tests.{eq-eqb, ne_eqb}
use Rattle.order.specs.Lists.{any, filter, insert, without, in_turn}
use Rattle.order.proofs.Pairs.{AllPairs}
use Rattle.order.proofs.Ascending.{At, top, deep, at_mem, at_from, AscFrom, asc_mem}

module _ {A : Type 0} where
  -- a place, one element on
  at_lift : {q : A} {p p' s : ℕ} {M : List A} → At q p (suc s) M → p ≡ suc p' → At q p' s M
  at_lift {s} (top e f) h = top {s = s} e (omega arith)
  at_lift (deep a) h = deep (at_lift a h)

  at_drop : {q : A} {p p' s : ℕ} {M : List A} → At q p' s M → p ≡ suc p' → At q p (suc s) M
  at_drop {s} (top e f) h = top {s = suc s} e (omega arith)
  at_drop (deep a) h = deep (at_drop a h)

  pub at_head : {q x : A} {M : List A} → At q 0 0 (x ∷ M) → q ≡ x
  at_head (top e f) = e
  at_head (deep a) = absurd (omega (arith, at_from a))

  pub at_tail : {q x : A} {i : ℕ} {M : List A} → At q (suc i) 0 (x ∷ M) → At q i 0 M
  at_tail (top e f) = absurd (omega arith)
  at_tail (deep a) = at_lift a refl

  pub at_next : {q : A} (x : A) {i : ℕ} {M : List A} → At q i 0 M → At q (suc i) 0 (x ∷ M)
  at_next x a = deep (at_drop a refl)

  pub at_none : {q : A} {i s : ℕ} → At q i s [] → ⊥
  at_none a = elim a [ ]

  -- an element taken out: who stays
  pub without_mem : (i : ℕ) (M : List A) (x : A) → Mem x (without i M) → Mem x M
  without_mem i [] x m = absurd (not-nil m)
  without_mem zero (y ∷ M) x m = next m
  without_mem (suc i) (y ∷ M) x (here e) = here e
  without_mem (suc i) (y ∷ M) x (next m) = next (without_mem i M x m)

  pub mem_without : (i : ℕ) (M : List A) (q x : A) → At q i 0 M → Mem x M → (x ≡ q) ⊎ Mem x (without i M)
  mem_without i [] q x a m = absurd (not-nil m)
  mem_without zero (y ∷ M) q x a (here e) = inl (e ∙ sym (at_head a))
  mem_without zero (y ∷ M) q x a (next m) = inr m
  mem_without (suc i) (y ∷ M) q x a (here e) = inr (here e)
  mem_without (suc i) (y ∷ M) q x a (next m) = ⊎_elim (λ e. inl e) (λ n. inr (next n)) (mem_without i M q x (at_tail a) m)

  pub length_without : (i : ℕ) (M : List A) → i < length M → suc (length (without i M)) ≡ length M
  length_without i [] h = absurd (omega arith)
  length_without zero (y ∷ M) h = refl
  length_without (suc i) (y ∷ M) h = ap suc (length_without i M (omega arith))

  -- what does not pass is not missed
  pub any_without : (f : A → Bool) (i : ℕ) (M : List A) (q : A) → At q i 0 M → f q ≡ false → any f (without i M) ≡ any f M
  any_without f i [] q a e = absurd (at_none a)
  any_without f zero (y ∷ M) q a e = rw (sym (ap f (at_head a)) ∙ e)
  any_without f (suc i) (y ∷ M) q a e = ap (λ (t : Bool). f y || t) (any_without f i M q (at_tail a) e)

  pub pairs_without : (R : A → A → Bool) (i : ℕ) (M : List A) → AllPairs R M → AllPairs R (without i M)
  pairs_without R i [] p = tt
  pairs_without R zero (y ∷ M) p = p.1
  pairs_without R (suc i) (y ∷ M) p = (λ x m. p.0 x (without_mem i M x m), pairs_without R i M p.1)

  -- whoever stays stands before or after the one taken out
  pub apart_without : (R : A → A → Bool) (i : ℕ) (M : List A) (q x : A) → AllPairs R M → At q i 0 M → Mem x (without i M)
      → (R q x ≡ true) ⊎ (R x q ≡ true)
  apart_without R i [] q x p a m = absurd (not-nil m)
  apart_without R zero (y ∷ M) q x p a m = inl (ap (λ (z : A). R z x) (at_head a) ∙ p.0 x m)
  apart_without R (suc i) (y ∷ M) q x p a (here e) = inr (ap (λ (z : A). R z q) e ∙ p.0 q (at_mem (at_tail a)))
  apart_without R (suc i) (y ∷ M) q x p a (next m) = apart_without R i M q x p.1 (at_tail a) m

  -- taken out and entered anew at the same place is replaced
  pub insert_without : (R : A → A → Bool) (i : ℕ) (M : List A) (q r : A) → AllPairs R M → At q i 0 M
      → ((x : A) → Mem x M → R x q ≡ true → R x r ≡ true) → ((x : A) → Mem x M → R q x ≡ true → R x r ≡ false)
      → insert R r (without i M) ≡ set M i r
  insert_without R i [] q r p a up down = absurd (at_none a)
  insert_without R zero (y ∷ []) q r p a up down = refl
  insert_without R zero (y ∷ z ∷ M) q r p a up down =
      rw (down z (next (here refl)) (ap (λ (w : A). R w z) (at_head a) ∙ p.0 z (here refl)))
  insert_without R (suc i) (y ∷ M) q r p a up down =
      rw (up y (here refl) (p.0 q (at_mem (at_tail a))))
      (ap (λ (t : List A). y ∷ t) (insert_without R i M q r p.1 (at_tail a) (λ x m. up x (next m)) (λ x m. down x (next m))))

module _ {A B : Type 0} where
  -- a mapped element stands where it stood
  pub map_at : (f : A → B) {q : A} {p s : ℕ} {M : List A} → At q p s M → At (f q) p s (map f M)
  map_at f (top e h) = top (ap f e) h
  map_at f (deep a) = deep (map_at f a)

  -- a place in a mapped list
  pub at_map : (f : A → B) (i : ℕ) (M : List A) (b : B) → At b i 0 (map f M) → (q : A) × At q i 0 M × (b ≡ f q)
  at_map f i [] b a = absurd (at_none a)
  at_map f zero (x ∷ M) b a = (x, top refl refl, at_head a)
  at_map f (suc i) (x ∷ M) b a = let w = at_map f i M b (at_tail a) in (w.0, at_next x w.1, w.2)

  -- what is taken out of a map's list is mapped no more
  pub without_map : (f : A → B) (i : ℕ) (M : List A) → without i (map f M) ≡ map f (without i M)
  without_map f i [] = refl
  without_map f zero (x ∷ M) = refl
  without_map f (suc i) (x ∷ M) = ap (λ (t : List B). f x ∷ t) (without_map f i M)

  -- what each step of a walk keeps, the walk keeps
  pub turn_keeps : (P : B → Type 0) (f : A → B → B) (xs : List A) (b : B)
      → ((x : A) → Mem x xs → (c : B) → P c → P (f x c)) → P b
      → P (in_turn f xs b)
  turn_keeps P f [] b h p = p
  turn_keeps P f (x ∷ xs) b h p = turn_keeps P f xs (f x b) (λ y m. h y (next m)) (h x (here refl) b p)

  -- a walk whose steps leave b leaves b
  pub turn_idle : (f : A → B → B) (xs : List A) (b : B) → ((x : A) → Mem x xs → f x b ≡ b) → in_turn f xs b ≡ b
  turn_idle f xs b h = turn_keeps (λ c. c ≡ b) f xs b (λ x m c p. ap (f x) p ∙ h x m) refl

  -- what trades places with every step of a walk may be done before it or after it
  pub turn_past : (f : A → B → B) (g : B → B) (xs : List A) (b : B) → ((x : A) → Mem x xs → (c : B) → f x (g c) ≡ g (f x c))
      → in_turn f xs (g b) ≡ g (in_turn f xs b)
  turn_past f g [] b h = refl
  turn_past f g (x ∷ xs) b h = ap (in_turn f xs) (h x (here refl) b) ∙ turn_past f g xs (f x b) (λ y m. h y (next m))

  -- so a step that does may stand where an order puts it
  module _ (f : A → B → B) (e : A) where
    pub turn_enter : (R : A → A → Bool) (xs : List A) (b : B) → ((x : A) → Mem x xs → (c : B) → f x (f e c) ≡ f e (f x c))
        → in_turn f (insert R e xs) b ≡ f e (in_turn f xs b)
    turn_enter R [] b h = refl
    turn_enter R (x ∷ xs) b h = go (turn_enter R xs (f x b) (λ y m. h y (next m))) (R x e)
      where
        go : in_turn f (insert R e xs) (f x b) ≡ f e (in_turn f xs (f x b)) → (t : Bool)
            → in_turn f (cond t (x ∷ insert R e xs) (e ∷ x ∷ xs)) b ≡ f e (in_turn f xs (f x b))
        go ih true = ih
        go ih false = turn_past f (f e) (x ∷ xs) b h

  -- a walk passes over elements that do nothing
  pub turn_filter : (f : A → B → B) (g : A → Bool) (xs : List A) (b : B) → ((x : A) → g x ≡ false → (c : B) → f x c ≡ c)
      → in_turn f (filter g xs) b ≡ in_turn f xs b
  turn_filter f g [] b h = refl
  turn_filter f g (x ∷ xs) b h = go (λ c. turn_filter f g xs c h) (g x) refl
    where
      go : ((c : B) → in_turn f (filter g xs) c ≡ in_turn f xs c) → (t : Bool) → g x ≡ t
          → in_turn f (cond t (x ∷ filter g xs) (filter g xs)) b ≡ in_turn f xs (f x b)
      go ih true e = ih (f x b)
      go ih false e = ih b ∙ ap (in_turn f xs) (sym (h x e b))

-- in an ascending list, by key is by place
module _ {A : Type 0} (key : A → ℕ) where
  -- no other element has the key
  unlike_head : (b : ℕ) (x : A) (M : List A) → AscFrom key b (x ∷ M) → (y : A) → Mem y M → eqb (key y) (key x) ≡ false
  unlike_head b x M a y m = ne_eqb (key y) (key x) (λ e. omega (arith, asc_mem key (suc (key x)) M a.1 y m))

  unlike_tail : (b : ℕ) (x : A) (M : List A) → AscFrom key b (x ∷ M) → (y : A) → Mem y M → eqb (key x) (key y) ≡ false
  unlike_tail b x M a y m = ne_eqb (key x) (key y) (λ e. omega (arith, asc_mem key (suc (key x)) M a.1 y m))

  keep_all : (f : A → Bool) (M : List A) → ((x : A) → Mem x M → f x ≡ true) → filter f M ≡ M
  keep_all f [] h = refl
  keep_all f (x ∷ M) h = rw (h x (here refl)) (ap (λ (t : List A). x ∷ t) (keep_all f M (λ y m. h y (next m))))

  -- the element of a key taken out
  pub filter_without : (b i : ℕ) (M : List A) (q : A) → AscFrom key b M → At q i 0 M
      → filter (λ r. not (eqb (key r) (key q))) M ≡ without i M
  filter_without b i [] q a n = refl
  filter_without b zero (x ∷ M) q a n =
      subst (λ (t : A). filter (λ r. not (eqb (key r) (key t))) (x ∷ M) ≡ M) (sym (at_head n))
      (rw (eq-eqb (key x) (key x) refl) (keep_all (λ r. not (eqb (key r) (key x))) M (λ y m. ap not (unlike_head b x M a y m))))
  filter_without b (suc i) (x ∷ M) q a n =
      rw (unlike_tail b x M a q (at_mem (at_tail n)))
      (ap (λ (t : List A). x ∷ t) (filter_without (suc (key x)) i M q a.1 (at_tail n)))

  alter_none : (f : A → A) (k : ℕ) (M : List A) → ((x : A) → Mem x M → eqb (key x) k ≡ false)
      → map (λ r. cond (eqb (key r) k) (f r) r) M ≡ M
  alter_none f k [] h = refl
  alter_none f k (x ∷ M) h = rw (h x (here refl)) (ap (λ (t : List A). x ∷ t) (alter_none f k M (λ y m. h y (next m))))

  -- the element of a key altered
  pub map_set : (f : A → A) (b i : ℕ) (M : List A) (q : A) → AscFrom key b M → At q i 0 M
      → map (λ r. cond (eqb (key r) (key q)) (f r) r) M ≡ set M i (f q)
  map_set f b i [] q a n = refl
  map_set f b zero (x ∷ M) q a n =
      subst (λ (t : A). map (λ r. cond (eqb (key r) (key t)) (f r) r) (x ∷ M) ≡ set (x ∷ M) zero (f t)) (sym (at_head n))
      (rw (eq-eqb (key x) (key x) refl)
      (ap (λ (t : List A). f x ∷ t) (alter_none f (key x) M (λ y m. unlike_head b x M a y m))))
  map_set f b (suc i) (x ∷ M) q a n =
      rw (unlike_tail b x M a q (at_mem (at_tail n)))
      (ap (λ (t : List A). x ∷ t) (map_set f (suc (key x)) i M q a.1 (at_tail n)))
