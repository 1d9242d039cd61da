-- Fronts and rests of a list; an element entered and others taken out at one place: the list's front, the element,
-- the list's rest.
-- Assumes nothing.
use mathlib.Core.Path.{◌≡◌, refl, sym, ap, ◌∙◌}
use mathlib.Core.Logic.{⊎_elim}
use mathlib.Core.Bool.{Bool, true, false, not, cond, true≢false}
use mathlib.Core.List.Memᴰ.{append_cases}
use mathlib.Core.List.Memᴰ.{head as here}
use mathlib.Core.List.Memᴰ.{not-nil}
use mathlib.Core.List.Memᴰ.{tail as next}
use mathlib.Core.List.{
  List,
  [],
  ◌∷◌,
  ◌++◌,
  append_assoc,
  Memᴰ as Mem,
}
use Prim.Native.Nat.{ℕ, zero, suc, ◌+◌, ◌-◌, ◌≤◌, ◌<◌}
use native.Mathlib.Nat.{suc-add, sub-zero, zero-sub, suc-sub-suc}
use native.Mathlib.Omega.{arith}
use lib.ListN.{take, drop, take-append-drop}
use lib.Seq.{drop-drop, drop-nil, take-nil, take-take}
use Rattle.order.specs.Lists.{filter, insert, without, first_at}
use Rattle.order.proofs.Tests.{not_passed}
use Rattle.order.proofs.Pairs.{AllPairs}
use Rattle.order.proofs.Ascending.{At, at_mem}
use Rattle.order.proofs.Edited.{at_head, at_tail, at_none}

module _ {A : Type 0} where
  pub drop_mem : (i : ℕ) (L : List A) (x : A) → Mem x (drop i L) → Mem x L
  drop_mem zero L x m = m
  drop_mem (suc i) [] x m = m
  drop_mem (suc i) (y ∷ L) x m = next (drop_mem i L x m)

  pub take_mem : (i : ℕ) (L : List A) (e : A) → Mem e (take i L) → Mem e L
  take_mem zero L e m = absurd (not-nil m)
  take_mem (suc i) [] e m = absurd (not-nil m)
  take_mem (suc i) (x ∷ L) e (here f) = here f
  take_mem (suc i) (x ∷ L) e (next m) = next (take_mem i L e m)

  -- a shorter front, a later rest
  take_within : (i j : ℕ) (L : List A) (x : A) → i ≤ j → Mem x (take i L) → Mem x (take j L)
  take_within i j L x h m = take_mem i (take j L) x (rw (take-take i j L h) m)

  drop_within : (i j : ℕ) (L : List A) (x : A) → i ≤ j → Mem x (drop j L) → Mem x (drop i L)
  drop_within i j L x h m =
      let n : i + (j - i) ≡ j = omega arith in
      drop_mem (j - i) (drop i L) x (rw (drop-drop (j - i) i L, n) m)

  -- an element stands in every front that reaches past it, and in every rest that begins up to it
  pub at_front : {x : A} (i j : ℕ) (L : List A) → At x i 0 L → i < j → Mem x (take j L)
  at_front i j [] a h = absurd (at_none a)
  at_front i zero (y ∷ L) a h = absurd (omega arith)
  at_front zero (suc j) (y ∷ L) a h = here (at_head a)
  at_front (suc i) (suc j) (y ∷ L) a h = next (at_front i j L (at_tail a) (omega arith))

  pub at_rest : {x : A} (i j : ℕ) (L : List A) → At x i 0 L → j ≤ i → Mem x (drop j L)
  at_rest i zero L a h = at_mem a
  at_rest i (suc j) [] a h = absurd (at_none a)
  at_rest zero (suc j) (y ∷ L) a h = absurd (omega arith)
  at_rest (suc i) (suc j) (y ∷ L) a h = at_rest i j L (at_tail a) (omega arith)

  -- a part of a list from `from` up to `end`, the two ways to say it
  pub part : (from end : ℕ) (xs : List A) → take (end - from) (drop from xs) ≡ drop from (take end xs)
  part zero end xs = rw sub-zero
  part (suc from) zero xs = rw zero-sub
  part (suc from) (suc end) [] = take-nil (suc end - suc from)
  part (suc from) (suc end) (x ∷ xs) = rw suc-sub-suc (part from end xs)

  pub pairs_drop : (R : A → A → Bool) (i : ℕ) (L : List A) → AllPairs R L → AllPairs R (drop i L)
  pairs_drop R zero L p = p
  pairs_drop R (suc i) [] p = p
  pairs_drop R (suc i) (x ∷ L) p = pairs_drop R i L p.1

  -- an element taken out
  pub without_at : (i : ℕ) (L : List A) → without i L ≡ take i L ++ drop (i + 1) L
  without_at zero [] = refl
  without_at zero (x ∷ L) = refl
  without_at (suc i) [] = sym (drop-nil (suc i + 1))
  without_at (suc i) (x ∷ L) = rw suc-add (ap (λ (t : List A). x ∷ t) (without_at i L))

module _ {A : Type 0} (R : A → A → Bool) (e : A) where
  insert_past : (X Y : List A) → ((d : A) → Mem d X → R d e ≡ true) → insert R e (X ++ Y) ≡ X ++ insert R e Y
  insert_past [] Y h = refl
  insert_past (x ∷ X) Y h = rw (h x (here refl)) (ap (λ (t : List A). x ∷ t) (insert_past X Y (λ d m. h d (next m))))

  insert_first : (Y : List A) → ((d : A) → Mem d Y → R d e ≡ false) → insert R e Y ≡ e ∷ Y
  insert_first [] h = refl
  insert_first (y ∷ Y) h = rw (h y (here refl))

  -- those before the first that does not stand before e
  pub front : (L : List A) (d : A) → Mem d (take (first_at (λ x. not (R x e)) L) L) → R d e ≡ true
  front [] d m = absurd (not-nil m)
  front (x ∷ L) d m = go (λ n. front L d n) (R x e) refl m
    where
      go : (Mem d (take (first_at (λ y. not (R y e)) L) L) → R d e ≡ true) → (t : Bool) → R x e ≡ t
          → Mem d (take (cond (not t) 0 (suc (first_at (λ y. not (R y e)) L))) (x ∷ L)) → R d e ≡ true
      go ih true h (here f) = ap (λ (z : A). R z e) f ∙ h
      go ih true h (next n) = ih n
      go ih false h n = absurd (not-nil n)

  -- in a list in order none of the others does
  pub rest : ((x y z : A) → R x y ≡ true → R y z ≡ true → R x z ≡ true) → (L : List A) → AllPairs R L
      → (d : A) → Mem d (drop (first_at (λ x. not (R x e)) L) L) → R d e ≡ false
  rest trans [] p d m = absurd (not-nil m)
  rest trans (x ∷ L) p d m = go (λ n. rest trans L p.1 d n) (R x e) refl m
    where
      go : (Mem d (drop (first_at (λ y. not (R y e)) L) L) → R d e ≡ false) → (t : Bool) → R x e ≡ t
          → Mem d (drop (cond (not t) 0 (suc (first_at (λ y. not (R y e)) L))) (x ∷ L)) → R d e ≡ false
      go ih true h n = ih n
      go ih false h (here f) = ap (λ (z : A). R z e) f ∙ h
      go ih false h (next n) = not_passed (R d e) (λ f. true≢false (sym (trans x d e (p.0 d n) f) ∙ h))

  -- an element entered
  pub insert_at : (i : ℕ) (L : List A) → ((d : A) → Mem d (take i L) → R d e ≡ true)
      → ((d : A) → Mem d (drop i L) → R d e ≡ false)
      → insert R e L ≡ take i L ++ (e ∷ drop i L)
  insert_at i L f r =
      ap (insert R e) (sym (take-append-drop i L))
      ∙ (insert_past (take i L) (drop i L) f ∙ ap (λ (t : List A). take i L ++ t) (insert_first (drop i L) r))

  -- An element entered where those from number i up to n have made way for N: it lands at j in the list as it was.
  module _ (i j n : ℕ) (N L : List A) (f : (d : A) → Mem d (take j L) → R d e ≡ true)
      (r : (d : A) → Mem d (drop j L) → R d e ≡ false) (m : i ≤ n) where
    -- in front of N
    pub insert_ahead : j ≤ i → ((d : A) → Mem d N → R d e ≡ false)
        → insert R e (take i L ++ (N ++ drop n L)) ≡ take j L ++ (e ∷ (take (i - j) (drop j L) ++ (N ++ drop n L)))
    insert_ahead h none =
        let X = take (i - j) (drop j L) in
        let Y = N ++ drop n L in
        let whole : take i L ≡ take j L ++ X =
        sym (rw (part j i L, ← take-take j i L h) (take-append-drop j (take i L))) in
        let later : (d : A) → Mem d (X ++ Y) → R d e ≡ false =
        λ d k. ⊎_elim (λ a. r d (take_mem (i - j) (drop j L) d a))
        (λ a. ⊎_elim (λ b. none d b) (λ b. r d (drop_within j n L d (omega arith) b)) (append_cases N a)) (append_cases X k) in
        ap (λ (t : List A). insert R e (t ++ Y)) whole
        ∙ (ap (insert R e) (append_assoc (take j L) X Y)
        ∙ (insert_past (take j L) (X ++ Y) f ∙ ap (λ (t : List A). take j L ++ t) (insert_first (X ++ Y) later)))

    -- behind N
    pub insert_behind : n ≤ j → ((d : A) → Mem d N → R d e ≡ true)
        → insert R e (take i L ++ (N ++ drop n L)) ≡ take i L ++ (N ++ (take (j - n) (drop n L) ++ (e ∷ drop j L)))
    insert_behind h all =
        let X = take (j - n) (drop n L) in
        let t : n + (j - n) ≡ j = omega arith in
        let whole : drop n L ≡ X ++ drop j L =
        sym (ap (λ (k : ℕ). X ++ drop k L) (sym t) ∙ rw (← drop-drop (j - n) n L) (take-append-drop (j - n) (drop n L))) in
        let inside : (d : A) → Mem d X → R d e ≡ true =
        λ d k. f d (drop_mem n (take j L) d (rw (part n j L) at k)) in
        insert_past (take i L) (N ++ drop n L) (λ d k. f d (take_within i j L d (omega arith) k))
        ∙ ap (λ (t : List A). take i L ++ t)
        (insert_past N (drop n L) all
        ∙ ap (λ (t : List A). N ++ t)
        (ap (insert R e) whole
        ∙ (insert_past X (drop j L) inside ∙ ap (λ (t : List A). X ++ t) (insert_first (drop j L) r))))

  -- and others taken out, the k from number i on
  module _ (g : A → Bool) where
    kept : (X Y : List A) → ((d : A) → Mem d X → g d ≡ false) → filter (λ d. not (g d)) (X ++ Y) ≡ X ++ filter
        (λ d. not (g d)) Y
    kept [] Y h = refl
    kept (x ∷ X) Y h = rw (h x (here refl)) (ap (λ (t : List A). x ∷ t) (kept X Y (λ d m. h d (next m))))

    kept_all : (Y : List A) → ((d : A) → Mem d Y → g d ≡ false) → filter (λ d. not (g d)) Y ≡ Y
    kept_all [] h = refl
    kept_all (y ∷ Y) h = rw (h y (here refl)) (ap (λ (t : List A). y ∷ t) (kept_all Y (λ d m. h d (next m))))

    gone : (X Y : List A) → ((d : A) → Mem d X → g d ≡ true) → filter (λ d. not (g d)) (X ++ Y) ≡ filter
        (λ d. not (g d)) Y
    gone [] Y h = refl
    gone (x ∷ X) Y h = rw (h x (here refl)) (gone X Y (λ d m. h d (next m)))

    pub splice : (i k : ℕ) (L : List A) → ((d : A) → Mem d (take i L) → (R d e ≡ true) × (g d ≡ false))
        → ((d : A) → Mem d (take k (drop i L)) → g d ≡ true)
        → ((d : A) → Mem d (drop (i + k) L) → (R d e ≡ false) × (g d ≡ false))
        → insert R e (filter (λ d. not (g d)) L) ≡ take i L ++ (e ∷ drop (i + k) L)
    splice i k L f b r =
        let whole : L ≡ take i L ++ (take k (drop i L) ++ drop (i + k) L) =
        sym (rw (← drop-drop k i L, take-append-drop k (drop i L)) (take-append-drop i L)) in
        let left : filter (λ d. not (g d)) L ≡ take i L ++ drop (i + k) L =
        ap (filter (λ d. not (g d))) whole
        ∙ (kept (take i L) (take k (drop i L) ++ drop (i + k) L) (λ d m. (f d m).1)
        ∙ ap (λ (t : List A). take i L ++ t)
        (gone (take k (drop i L)) (drop (i + k) L) b ∙ kept_all (drop (i + k) L) (λ d m. (r d m).1))) in
        ap (insert R e) left
        ∙ (insert_past (take i L) (drop (i + k) L) (λ d m. (f d m).0)
        ∙ ap (λ (t : List A). take i L ++ t) (insert_first (drop (i + k) L) (λ d m. (r d m).0)))
