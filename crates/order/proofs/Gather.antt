-- What is gathered from a list with one element more, one less, or some left out; and doing what is gathered in turn.
-- Assumes nothing.
use mathlib.Core.Path.{◌≡◌, refl, sym, ap, ◌∙◌}
use mathlib.Core.Bool.{Bool, true, false, cond, true≢false}
use mathlib.Core.List.Memᴰ.{head as here}
use mathlib.Core.List.Memᴰ.{tail as next}
use mathlib.Core.List.{
  List,
  [],
  ◌∷◌,
  ◌++◌,
  map,
  map-append,
  Memᴰ as Mem,
}
use Prim.Native.Nat.{ℕ, zero, suc}
use lib.ListN.{set}
use Rattle.order.specs.Lists.{filter, insert, without, gather, in_turn}
use Rattle.order.proofs.Tests.{not_passed}
use Rattle.order.proofs.Members.{gather_mem}
use Rattle.order.proofs.Pairs.{AllPairs}
use Rattle.order.proofs.Ascending.{At}
use Rattle.order.proofs.Edited.{at_head, at_tail}

module _ {A B : Type 0} (f : A → List B) where
  -- an element that gives nothing
  pub gather_insert_none : (R : A → A → Bool) (e : A) (xs : List A) → f e ≡ [] → gather f (insert R e xs) ≡ gather f xs
  gather_insert_none R e [] h = rw (h)
  gather_insert_none R e (x ∷ xs) h = go (gather_insert_none R e xs h) (R x e)
    where
      go : gather f (insert R e xs) ≡ gather f xs → (t : Bool)
          → gather f (cond t (x ∷ insert R e xs) (e ∷ x ∷ xs)) ≡ f x ++ gather f xs
      go ih true = ap (λ (t : List B). f x ++ t) ih
      go ih false = ap (λ (t : List B). t ++ (f x ++ gather f xs)) h

  pub gather_filter : (g : A → Bool) (xs : List A) → ((x : A) → Mem x xs → g x ≡ false → f x ≡ [])
      → gather f (filter g xs) ≡ gather f xs
  gather_filter g [] h = refl
  gather_filter g (x ∷ xs) h = go (gather_filter g xs (λ y m. h y (next m))) (g x) refl
    where
      go : gather f (filter g xs) ≡ gather f xs → (t : Bool) → g x ≡ t
          → gather f (cond t (x ∷ filter g xs) (filter g xs)) ≡ f x ++ gather f xs
      go ih true e = ap (λ (t : List B). f x ++ t) ih
      go ih false e = ih ∙ ap (λ (t : List B). t ++ gather f xs) (sym (h x (here refl) e))

  -- all elements give nothing
  pub gather_none : (xs : List A) → ((x : A) → Mem x xs → f x ≡ []) → gather f xs ≡ []
  gather_none [] h = refl
  gather_none (x ∷ xs) h = rw (h x (here refl)) (gather_none xs (λ y m. h y (next m)))

  pub gather_without : (i : ℕ) (xs : List A) (e : A) → At e i 0 xs → f e ≡ [] → gather f (without i xs) ≡ gather f xs
  gather_without i [] e n h = refl
  gather_without zero (x ∷ xs) e n h = ap (λ (t : List B). t ++ gather f xs) (sym (sym (ap f (at_head n)) ∙ h))
  gather_without (suc i) (x ∷ xs) e n h = ap (λ (t : List B). f x ++ t) (gather_without i xs e (at_tail n) h)

  -- an element e that gives d alone is entered among what is gathered, where both orders agree
  module _ (R : A → A → Bool) (S : B → B → Bool) (e : A) (d : B) where
    -- before all that does not stand before it
    insert_front : (ys : List B) → ((b : B) → Mem b ys → S b d ≡ false) → d ∷ ys ≡ insert S d ys
    insert_front [] z = refl
    insert_front (y ∷ ys) z = rw (z y (here refl))

    -- behind the one element, if any, that x gives
    insert_behind : (x : A) (zs ys : List B) → f x ≡ ys → ((b : B) → Mem b (f x) → (f x ≡ b ∷ []) × (R x e ≡ S b d))
        → R x e ≡ true
        → f x ++ insert S d zs ≡ insert S d (f x ++ zs)
    insert_behind x zs [] k h g = rw (k)
    insert_behind x zs (b ∷ ys) k h g = let w = h b (rw (k) (here refl)) in rw (w.0, sym w.1 ∙ g)

    pub gather_insert : (xs : List A) → f e ≡ d ∷ [] → ((x y z : A) → R x y ≡ true → R y z ≡ true → R x z ≡ true)
        → ((x : A) → Mem x xs → (b : B) → Mem b (f x) → (f x ≡ b ∷ []) × (R x e ≡ S b d))
        → AllPairs R xs → gather f (insert R e xs) ≡ insert S d (gather f xs)
    gather_insert [] fe trans h p = rw (fe)
    gather_insert (x ∷ xs) fe trans h p = go (gather_insert xs fe trans (λ y m. h y (next m)) p.1) (R x e) refl
      where
        past : R x e ≡ false → (y : A) → Mem y (x ∷ xs) → R y e ≡ false
        past g y (here k) = ap (λ (z : A). R z e) k ∙ g
        past g y (next m) = not_passed (R y e) (λ t. true≢false (sym (trans x y e (p.0 y m) t) ∙ g))

        go : gather f (insert R e xs) ≡ insert S d (gather f xs) → (t : Bool) → R x e ≡ t
            → gather f (cond t (x ∷ insert R e xs) (e ∷ x ∷ xs)) ≡ insert S d (gather f (x ∷ xs))
        go ih true g = ap (λ (t : List B). f x ++ t) ih ∙ insert_behind x (gather f xs) (f x) refl (h x (here refl)) g
        go ih false g =
            ap (λ (t : List B). t ++ gather f (x ∷ xs)) fe
            ∙ insert_front (gather f (x ∷ xs)) (λ b m.
            let w = gather_mem f (x ∷ xs) b m in sym (h w.0 w.1 b w.2).1 ∙ past g w.0 w.1)

  -- what is gathered, filtered
  pub filter_gather : (g : B → Bool) (xs : List A) → filter g (gather f xs) ≡ gather (λ x. filter g (f x)) xs
  filter_gather g [] = refl
  filter_gather g (x ∷ xs) = split (f x) ∙ ap (λ (t : List B). filter g (f x) ++ t) (filter_gather g xs)
    where
      split : (ys : List B) → filter g (ys ++ gather f xs) ≡ filter g ys ++ filter g (gather f xs)
      split [] = refl
      split (y ∷ ys) = keep (g y) (split ys)
        where
          keep : (t : Bool) → filter g (ys ++ gather f xs) ≡ filter g ys ++ filter g (gather f xs)
              → cond t (y ∷ filter g (ys ++ gather f xs)) (filter g (ys ++ gather f xs))
              ≡ cond t (y ∷ filter g ys) (filter g ys) ++ filter g (gather f xs)
          keep true k = ap (λ (t : List B). y ∷ t) k
          keep false k = k

  pub gather_same : (g : A → List B) (xs : List A) → ((x : A) → Mem x xs → f x ≡ g x) → gather f xs ≡ gather g xs
  gather_same g [] h = refl
  gather_same g (x ∷ xs) h =
      ap (λ (t : List B). t ++ gather f xs) (h x (here refl))
      ∙ ap (λ (t : List B). g x ++ t) (gather_same g xs (λ y m. h y (next m)))

  -- a filtered list gives what its elements give, or nothing
  pub gather_kept : (g : A → Bool) (xs : List A) → gather f (filter g xs) ≡ gather (λ x. cond (g x) (f x) []) xs
  gather_kept g [] = refl
  gather_kept g (x ∷ xs) = go (gather_kept g xs) (g x)
    where
      go : gather f (filter g xs) ≡ gather (λ y. cond (g y) (f y) []) xs → (t : Bool)
          → gather f (cond t (x ∷ filter g xs) (filter g xs)) ≡ cond t (f x) [] ++ gather (λ y. cond (g y) (f y) []) xs
      go ih true = ap (λ (t : List B). f x ++ t) ih
      go ih false = ih

  -- one element replaced
  pub gather_set : (h : A → List B) (i : ℕ) (xs : List A) (e y : A) → At e i 0 xs → f y ≡ h e
      → ((x : A) → Mem x (without i xs) → f x ≡ h x) → gather f (set xs i y) ≡ gather h xs
  gather_set h i [] e y n k g = refl
  gather_set h zero (x ∷ xs) e y n k g =
      ap (λ (t : List B). t ++ gather f xs) (k ∙ ap h (at_head n)) ∙ ap (λ (t : List B). h x ++ t) (gather_same h xs g)
  gather_set h (suc i) (x ∷ xs) e y n k g =
      ap (λ (t : List B). t ++ gather f (set xs i y)) (g x (here refl))
      ∙ ap (λ (t : List B). h x ++ t) (gather_set h i xs e y (at_tail n) k (λ z m. g z (next m)))

  -- what is gathered, mapped
  pub map_gather : {C : Type 0} (g : B → C) (xs : List A) → map g (gather f xs) ≡ gather (λ x. map g (f x)) xs
  map_gather g [] = refl
  map_gather {C} g (x ∷ xs) =
      map-append g (f x) (gather f xs) ∙ ap (λ (t : List C). map g (f x) ++ t) (map_gather g xs)

-- what is gathered, done in turn
module _ {B C : Type 0} where
  pub turn_append : (g : B → C → C) (ys zs : List B) (c : C) → in_turn g (ys ++ zs) c ≡ in_turn g zs (in_turn g ys c)
  turn_append g [] zs c = refl
  turn_append g (y ∷ ys) zs c = turn_append g ys zs (g y c)

module _ {A B C : Type 0} where
  -- what is gathered from a mapped list
  pub gather_map : (f : B → List C) (h : A → B) (xs : List A) → gather f (map h xs) ≡ gather (λ x. f (h x)) xs
  gather_map f h [] = refl
  gather_map f h (x ∷ xs) = ap (λ (t : List C). f (h x) ++ t) (gather_map f h xs)

  pub turn_gather : (f : A → List B) (g : B → C → C) (xs : List A) (c : C)
      → in_turn g (gather f xs) c ≡ in_turn (λ x. in_turn g (f x)) xs c
  turn_gather f g [] c = refl
  turn_gather f g (x ∷ xs) c = turn_append g (f x) (gather f xs) c ∙ turn_gather f g xs (in_turn g (f x) c)

-- a walk seen through h, where each step is seen as doing in turn what f gives of its element
module _ {A B C D : Type 0} (h : B → D) (step : A → B → B) (f : A → List C) (g : C → D → D) where
  pub turn_seen : (xs : List A) (b : B) → ((x : A) → Mem x xs → (c : B) → h (step x c) ≡ in_turn g (f x) (h c))
      → h (in_turn step xs b) ≡ in_turn g (gather f xs) (h b)
  turn_seen [] b e = refl
  turn_seen (x ∷ xs) b e =
      turn_seen xs (step x b) (λ y m. e y (next m))
      ∙ (ap (in_turn g (gather f xs)) (e x (here refl) b) ∙ sym (turn_append g (f x) (gather f xs) (h b)))
