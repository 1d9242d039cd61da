-- Who is a member of a filtered, gathered, inserted-into or mapped list, and what all and any say of members.
-- Assumes nothing.
use mathlib.Core.Path.{◌≡◌, refl, sym, ap, ◌∙◌}
use mathlib.Core.Logic.{◌⊎◌, inl, inr}
use mathlib.Core.Bool.{Bool, true, false, cond, ◌||◌, true≢false}
use mathlib.Core.List.Memᴰ.{append_cases}
use mathlib.Core.List.Memᴰ.{append_left}
use mathlib.Core.List.Memᴰ.{append_right}
use mathlib.Core.List.Memᴰ.{head as here}
use mathlib.Core.List.Memᴰ.{not-nil}
use mathlib.Core.List.Memᴰ.{tail as next}
use mathlib.Core.List.{
  List,
  [],
  ◌∷◌,
  map,
  Memᴰ as Mem,
}
use Rattle.order.specs.Lists.{all, any, filter, insert, gather}
use Rattle.order.proofs.Tests.{and_l, and_r, and_of, or_cases, or_l, or_r, or_false}

module _ {A : Type 0} where
  -- all
  pub all_mem : (f : A → Bool) (xs : List A) → all f xs ≡ true → (x : A) → Mem x xs → f x ≡ true
  all_mem f [] e x x4 = elim x4 [ ]
  all_mem f (y ∷ ys) e x (here h) = ap f h ∙ and_l (f y) (all f ys) e
  all_mem f (y ∷ ys) e x (next m) = all_mem f ys (and_r (f y) (all f ys) e) x m

  pub all_of : (f : A → Bool) (xs : List A) → ((x : A) → Mem x xs → f x ≡ true) → all f xs ≡ true
  all_of f [] h = refl
  all_of f (x ∷ xs) h = and_of (f x) (all f xs) (h x (here refl)) (all_of f xs (λ y m. h y (next m)))

  -- any
  pub any_mem : (f : A → Bool) (xs : List A) → any f xs ≡ true → (x : A) × Mem x xs × (f x ≡ true)
  any_mem f [] e = absurd (true≢false (sym e))
  any_mem f (y ∷ ys) e = go (λ h. any_mem f ys h) (or_cases (f y) (any f ys) e)
    where
      go : (any f ys ≡ true → (x : A) × Mem x ys × (f x ≡ true)) → (f y ≡ true) ⊎ (any f ys ≡ true)
          → (x : A) × Mem x (y ∷ ys) × (f x ≡ true)
      go ih (inl h) = (y, here refl, h)
      go ih (inr h) = let w = ih h in (w.0, next w.1, w.2)

  pub any_of : (f : A → Bool) (xs : List A) (x : A) → Mem x xs → f x ≡ true → any f xs ≡ true
  any_of f [] x x4 h = elim x4 [ ]
  any_of f (y ∷ ys) x (here e) h = or_l (f y) (any f ys) (sym (ap f e) ∙ h)
  any_of f (y ∷ ys) x (next m) h = or_r (f y) (any f ys) (any_of f ys x m h)

  pub any_none : (f : A → Bool) (xs : List A) → ((x : A) → Mem x xs → f x ≡ false) → any f xs ≡ false
  any_none f [] h = refl
  any_none f (x ∷ xs) h = rw (h x (here refl)) (any_none f xs (λ y m. h y (next m)))

  pub none_any : (f : A → Bool) (xs : List A) → any f xs ≡ false → (x : A) → Mem x xs → f x ≡ false
  none_any f [] e x x4 = elim x4 [ ]
  none_any f (y ∷ ys) e x (here h) = ap f h ∙ (or_false (f y) (any f ys) e).0
  none_any f (y ∷ ys) e x (next m) = none_any f ys (or_false (f y) (any f ys) e).1 x m

  pub any_same : (f g : A → Bool) (xs : List A) → ((x : A) → Mem x xs → f x ≡ g x) → any f xs ≡ any g xs
  any_same f g [] h = refl
  any_same f g (x ∷ xs) h = rw (h x (here refl)) (ap (λ (t : Bool). g x || t) (any_same f g xs (λ y m. h y (next m))))

  -- filter
  pub filter_mem : (f : A → Bool) (xs : List A) (x : A) → Mem x (filter f xs) → Mem x xs × (f x ≡ true)
  filter_mem f [] x m = absurd (not-nil m)
  filter_mem f (y ∷ ys) x m = go (λ n. filter_mem f ys x n) (f y) refl m
    where
      deeper : Mem x ys × (f x ≡ true) → Mem x (y ∷ ys) × (f x ≡ true)
      deeper w = (next w.0, w.1)

      go : (Mem x (filter f ys) → Mem x ys × (f x ≡ true)) → (t : Bool) → f y ≡ t
          → Mem x (cond t (y ∷ filter f ys) (filter f ys))
          → Mem x (y ∷ ys) × (f x ≡ true)
      go ih true e (here h) = (here h, ap f h ∙ e)
      go ih true e (next n) = deeper (ih n)
      go ih false e n = deeper (ih n)

  pub mem_filter : (f : A → Bool) (xs : List A) (x : A) → Mem x xs → f x ≡ true → Mem x (filter f xs)
  mem_filter f [] x x4 e = elim x4 [ ]
  mem_filter f (y ∷ ys) x (here h) e = rw (sym (ap f h) ∙ e) (here h)
  mem_filter f (y ∷ ys) x (next m) e =
      let ih = mem_filter f ys x m e in
      elim (f y) as (λ t. Mem x (cond t (y ∷ filter f ys) (filter f ys))) [ true ↦ next ih | false ↦ ih ]

  -- insert
  pub insert_mem : (R : A → A → Bool) (e : A) (xs : List A) (x : A) → Mem x (insert R e xs) → (x ≡ e) ⊎ Mem x xs
  insert_mem R e [] x (here h) = inl h
  insert_mem R e [] x (next m) = inr m
  insert_mem R e (y ∷ ys) x m = go (λ n. insert_mem R e ys x n) (R y e) m
    where
      deeper : (x ≡ e) ⊎ Mem x ys → (x ≡ e) ⊎ Mem x (y ∷ ys)
      deeper (inl h) = inl h
      deeper (inr n) = inr (next n)

      go : (Mem x (insert R e ys) → (x ≡ e) ⊎ Mem x ys) → (t : Bool) → Mem x (cond t (y ∷ insert R e ys) (e ∷ y ∷ ys))
          → (x ≡ e) ⊎ Mem x (y ∷ ys)
      go ih true (here h) = inr (here h)
      go ih true (next n) = deeper (ih n)
      go ih false (here h) = inl h
      go ih false (next n) = inr n

  pub mem_insert : (R : A → A → Bool) (e : A) (xs : List A) (x : A) → (x ≡ e) ⊎ Mem x xs → Mem x (insert R e xs)
  mem_insert R e [] x (inl h) = here h
  mem_insert R e [] x (inr m) = absurd (not-nil m)
  mem_insert R e (y ∷ ys) x w = go (λ z. mem_insert R e ys x z) (R y e) w
    where
      go : ((x ≡ e) ⊎ Mem x ys → Mem x (insert R e ys)) → (t : Bool) → (x ≡ e) ⊎ Mem x (y ∷ ys)
          → Mem x (cond t (y ∷ insert R e ys) (e ∷ y ∷ ys))
      go ih true (inl h) = next (ih (inl h))
      go ih true (inr (here h)) = here h
      go ih true (inr (next n)) = next (ih (inr n))
      go ih false (inl h) = here h
      go ih false (inr n) = next n

module _ {A B : Type 0} where
  -- gather
  pub gather_mem : (f : A → List B) (xs : List A) (b : B) → Mem b (gather f xs) → (x : A) × Mem x xs × Mem b (f x)
  gather_mem f [] b m = absurd (not-nil m)
  gather_mem f (y ∷ ys) b m = go (λ n. gather_mem f ys b n) (append_cases (f y) m)
    where
      go : (Mem b (gather f ys) → (x : A) × Mem x ys × Mem b (f x)) → Mem b (f y) ⊎ Mem b (gather f ys)
          → (x : A) × Mem x (y ∷ ys) × Mem b (f x)
      go ih (inl n) = (y, here refl, n)
      go ih (inr n) = let w = ih n in (w.0, next w.1, w.2)

  pub mem_gather : (f : A → List B) (xs : List A) (x : A) (b : B) → Mem x xs → Mem b (f x) → Mem b (gather f xs)
  mem_gather f [] x b x4 n = elim x4 [ ]
  mem_gather f (y ∷ ys) x b (here e) n = append_left {s = f y} _ (rw (← e) n)
  mem_gather f (y ∷ ys) x b (next m) n = append_right (f y) (mem_gather f ys x b m n)

  -- map
  pub mem_map : (f : A → B) (xs : List A) (x : A) → Mem x xs → Mem (f x) (map f xs)
  mem_map f [] x x3 = elim x3 [ ]
  mem_map f (y ∷ ys) x (here e) = here (ap f e)
  mem_map f (y ∷ ys) x (next m) = next (mem_map f ys x m)

  pub map_mem : (f : A → B) (xs : List A) (b : B) → Mem b (map f xs) → (x : A) × Mem x xs × (b ≡ f x)
  map_mem f [] b x' = elim x' [ ]
  map_mem f (y ∷ ys) b (here e) = (y, here refl, e)
  map_mem f (y ∷ ys) b (next m) = let w = map_mem f ys b m in (w.0, next w.1, w.2)
