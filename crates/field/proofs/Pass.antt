-- The pass over a field, step by step: the end, a space, a digit that fits, and what ends it early.
-- Assumes nothing.
use mathlib.Core.Path.{◌≡◌, refl, sym, ap, ◌∙◌}
use mathlib.Core.Bool.{Bool, true, false, cond, ◌&&◌}
use mathlib.Core.List.{List, [], ◌∷◌}
use Prim.Native.Nat.{ℕ, suc, ◌+◌, ◌≤◌, ◌<◌}
use native.Mathlib.Omega.{arith}
use native.Mathlib.Numerals.{add-one}
use lib.ListN.{length, drop, get_or, length-drop, drop_of_length-le}
use lib.Seq.{drop-cons}
use lib.Dec.{leb, ltb, eqb}
use borrow.Author.Tests.{lt-ltb, le-ltb, le-leb, lt-leb, eq-eqb, ne_eqb, ltb-true}
use Rattle.order.proofs.Tests.{and_r}
use Rattle.std.specs.Prelude.{Option, Some, None}
use Rattle.field.specs.declared.Field.{Field}
use Rattle.field.specs.declared.Field.TheVariants.{Last, More}
use Rattle.decimal.specs.Number.{digit, too_large}
use Rattle.field.specs.Scan.{more, grows, grown_by, scanned}

-- anything follows where two unlike values are equal
pub unlike : {B : Type 0} → ◌≡◌ {A = ℕ} 0 1 → B
unlike e = absurd (omega arith)

-- a digit that fits, and what does not
grown_to : (v b w : ℕ) → grown_by v b ≡ Some w → (grows v b ≡ true) × (w ≡ more v b)
unfolding grown_by
grown_to v b w e = go (grows v b) refl e
  where
    go : (t : Bool) → grows v b ≡ t → cond t (Some (more v b)) None ≡ Some w → (grows v b ≡ true) × (w ≡ more v b)
    go true g e = (g, cc)
    go false g e = unlike (cc)

grown_over : (v b : ℕ) → grown_by v b ≡ None → grows v b ≡ false
unfolding grown_by
grown_over v b e = go (grows v b) refl e
  where
    go : (t : Bool) → grows v b ≡ t → cond t (Some (more v b)) None ≡ None → grows v b ≡ false
    go true g e = unlike (cc)
    go false g e = g

pub grown_fits : (v b w : ℕ) → grown_by v b ≡ Some w → w < too_large
grown_fits v b w e =
    let g = grown_to v b w e in
    let h = ltb-true (more v b) too_large (and_r (digit b) (ltb (more v b) too_large) g.0) in
    omega arith

module _ (xs : List ℕ) (k v i : ℕ) where
  -- the line ends
  end : (t : Bool) → length xs ≤ i → leb 1 k ≡ t → scanned k v i (drop i xs) ≡ cond t (Some (Last v)) None
  unfolding scanned
  end t h e = rw (drop_of_length-le xs {i = i} h, e)

  pub end_some : length xs ≤ i → 1 ≤ k → scanned k v i (drop i xs) ≡ Some (Last v)
  end_some h j = end true h (le-leb 1 k j)

  pub end_none : length xs ≤ i → k < 1 → scanned k v i (drop i xs) ≡ None
  end_none h j = end false h (lt-leb 1 k j)

  module _ (within : i < length xs) where
    -- a space
    space : (t : Bool) → get_or xs i 0 ≡ 32 → leb 1 k ≡ t → scanned k v i (drop i xs) ≡ cond t (Some (More v (i + 1))) None
    unfolding scanned
    space t s e = rw (drop-cons xs i 0 within, add-one i, eq-eqb (get_or xs i 0) 32 s, e)

    pub space_some : get_or xs i 0 ≡ 32 → 1 ≤ k → scanned k v i (drop i xs) ≡ Some (More v (i + 1))
    space_some s j = space true s (le-leb 1 k j)

    pub space_none : get_or xs i 0 ≡ 32 → k < 1 → scanned k v i (drop i xs) ≡ None
    space_none s j = space false s (lt-leb 1 k j)

    -- another byte
    byte : (t : Bool) → (get_or xs i 0 ≡ 32 → ⊥) → ltb k 20 && grows v (get_or xs i 0) ≡ t →
        scanned k v i (drop i xs)
        ≡ cond t (scanned (k + 1) (more v (get_or xs i 0)) (i + 1) (drop (i + 1) xs)) None
    unfolding scanned
    byte t s e = rw (drop-cons xs i 0 within, add-one i, add-one k, ne_eqb (get_or xs i 0) 32 s, e)

    -- a twenty-first digit
    pub full : (get_or xs i 0 ≡ 32 → ⊥) → 20 ≤ k → scanned k v i (drop i xs) ≡ None
    full s j = byte false s (rw (le-ltb k 20 j))

    -- no digit, or past 64 bits
    pub over : (get_or xs i 0 ≡ 32 → ⊥) → k < 20 → grown_by v (get_or xs i 0) ≡ None → scanned k v i (drop i xs) ≡ None
    over s j e = byte false s (rw (lt-ltb k 20 j) (grown_over v (get_or xs i 0) e))

    -- a digit
    pub onward : (w : ℕ) → (get_or xs i 0 ≡ 32 → ⊥) → k < 20 → grown_by v (get_or xs i 0) ≡ Some w →
        scanned k v i (drop i xs) ≡ scanned (k + 1) w (i + 1) (drop (i + 1) xs)
    onward w s j e =
        let g = grown_to v (get_or xs i 0) w e in
        byte true s (rw (lt-ltb k 20 j) g.0) ∙ ap (λ (n : ℕ). scanned (k + 1) n (i + 1) (drop (i + 1) xs)) (sym g.1)

-- the next field starts within the line
field_within : (bs : List ℕ) (k v i w next : ℕ) → scanned k v i bs ≡ Some (More w next) → next ≤ i + length bs
unfolding scanned
field_within [] k v i w next e = go (leb 1 k) e
  where
    go : (t : Bool) → cond t (Some (Last v)) None ≡ Some (More w next) → next ≤ i + 0
    go true e = unlike (cc)
    go false e = unlike (cc)
field_within (b ∷ bs) k v i w next e =
    go (eqb b 32) (leb 1 k) (ltb k 20 && grows v b) (field_within bs (suc k) (more v b) (suc i) w next) e
  where
    go : (t u s : Bool) → (scanned (suc k) (more v b) (suc i) bs ≡ Some (More w next) → next ≤ suc i + length bs) →
        cond t (cond u (Some (More v (suc i))) None) (cond s (scanned (suc k) (more v b) (suc i) bs) None) ≡ Some (More w next)
        → next ≤ i + suc (length bs)
    go true true s ih e = let z : suc i ≡ next = cc in omega arith
    go true false s ih e = unlike (cc)
    go false u true ih e = omega (arith, ih e)
    go false u false ih e = unlike (cc)

pub next_within : (xs : List ℕ) (i : ℕ) (r : Option Field) (v next : ℕ) → i ≤ length xs → r ≡ scanned 0 0 i (drop i xs) →
    r ≡ Some (More v next) → next ≤ length xs
next_within xs i r v next h e t =
    omega (arith, field_within (drop i xs) 0 0 i v next (sym e ∙ t), length-drop i xs)
