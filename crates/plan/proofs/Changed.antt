-- Changing a cell of a base row: its old change, if there is one, stands right where the new one lands.
-- Assumes nothing.
use Prim.Native.Nat.{ℕ, zero, suc, ◌+◌, ◌≤◌, ◌<◌}
use native.Mathlib.Nat.{suc-add}
use native.Mathlib.Omega.{arith}
use mathlib.Core.Path.{◌≡◌, refl, sym, ap, ◌∙◌}
use mathlib.Core.Logic.{⊎_elim}
use mathlib.Core.Bool.{Bool, true, false, ◌&&◌, true≢false}
use mathlib.Core.List.Memᴰ.{cases_cons}
use mathlib.Core.List.Memᴰ.{eq_of_singleton}
use mathlib.Core.List.Memᴰ.{head as here}
use mathlib.Core.List.Memᴰ.{not-nil}
use mathlib.Core.List.Memᴰ.{tail as next}
use mathlib.Core.List.{
  [],
  ◌∷◌,
  ◌++◌,
  Memᴰ as Mem,
}
use lib.ListN.{length, take, drop, set, length-drop}
use lib.Seq.{drop-drop}
use lib.Dec.{eqb}
use borrow.Author.Tests.{eqb-true, ne_eqb, ltb-true}
use Rattle.order.proofs.Tests.{and_l, and_r, not_passed}
use Rattle.order.proofs.Pairs.{AllPairs}
use Rattle.order.specs.Lists.{one}
use Rattle.order.proofs.Ascending.{At, top}
use Rattle.order.proofs.Edited.{at_head, at_tail, at_none, at_next}
use Rattle.order.proofs.Splice.{pairs_drop, splice}
use Rattle.model.specs.Cell.{CellEdit, to}
use Rattle.model.specs.Layer.{add, strike, change, Edit, at, Layer, changes_cell}
use Rattle.words.specs.Entry.{ADD, STRIKE}
use Rattle.model.specs.Raw.{numbers_of}
use Rattle.model.specs.Edits.{before, composed, change_base, change_added, change_added_row}
use Rattle.theory.proofs.Edits.{before_cases}
use Rattle.landing.specs.Landing.{aim, landing, changes_first}
use Rattle.landing.proofs.Landed.{landing_le, lands_after, lands_first}

-- a change stands where its position and column put it, whatever its value
same_change : (d : Edit) (s j : ℕ) (f g : CellEdit) → before d (at s (change j f)) ≡ before d (at s (change j g))
same_change (at p (add q)) s j f g = refl
same_change (at p (strike x)) s j f g = refl
same_change (at p (change i h)) s j f g = refl

-- the number of a column is no other kind
pub aim_change : (s j : ℕ) → j < 8 → aim s j 0 ≡ at s (change j (to 0))
aim_change s j h = rw (ne_eqb j ADD (λ e. omega arith), ne_eqb j STRIKE (λ e. omega arith))

module _ (s j : ℕ) (f : CellEdit) where
  -- what stands before the change of a cell stands before any other of it
  alike : (d x : Edit) → changes_cell s j d ≡ true → before x d ≡ before x (at s (change j f))
  alike (at p (add q)) x h = absurd (true≢false (sym h))
  alike (at p (strike k)) x h = absurd (true≢false (sym h))
  alike (at p (change i g)) x h =
      let a : s ≡ p = eqb-true s p (and_l (eqb s p) (eqb j i) h) in
      let b : j ≡ i = eqb-true j i (and_r (eqb s p) (eqb j i) h) in
      (λ y. before x (at (sym a y) (change (sym b y) g))) ∙ same_change x s j g f

  keeps : (d : Edit) → before d (at s (change j f)) ≡ true → changes_cell s j d ≡ false
  keeps (at p (add q)) h = refl
  keeps (at p (strike k)) h = refl
  keeps (at p (change i g)) h = not_passed (eqb s p && eqb j i) never
    where
      never : eqb s p && eqb j i ≡ true → ⊥
      never e =
          ⊎_elim (λ l. omega (arith, eqb-true s p (and_l (eqb s p) (eqb j i) e)))
          (λ w. omega (arith, eqb-true j i (and_r (eqb s p) (eqb j i) e), ltb-true i j w.1))
          (before_cases p s (change i g) (change j f) h)

  -- the change of column j of row s lands at i
  module _ (L : Layer) (sorted : AllPairs before L) (i : ℕ) (lands : i ≡ landing (at s (change j (to 0))) L) where
    first : (d : Edit) → Mem d (take i L) → (before d (at s (change j f)) ≡ true) × (changes_cell s j d ≡ false)
    first d m =
        let h = same_change d s j f (to 0) ∙ lands_after (at s (change j (to 0))) L i lands d m in (h, keeps d h)

    later : (d : Edit) → Mem d (drop i L) → before d (at s (change j f)) ≡ false
    later d m = same_change d s j f (to 0) ∙ lands_first (at s (change j (to 0))) L i lands sorted d m

    -- behind the first that does not stand before it, no edit changes the cell
    behind : (x : Edit) (R : Layer) → drop i L ≡ x ∷ R → (d : Edit) → Mem d R → changes_cell s j d ≡ false
    behind x R e d m =
        not_passed (changes_cell s j d)
        (λ h. true≢false (sym (sym (alike d x h) ∙ (rw e at (pairs_drop before i L sorted)).0 d m)
        ∙ later x (rw e (here refl))))

    -- so what changes the cell is the first alone, if it does
    goes : (Y : Layer) (t : Bool) → changes_first s j Y ≡ t → (d : Edit) → Mem d (take (one t) Y)
        → changes_cell s j d ≡ true
    goes [] true h d m = absurd (not-nil m)
    goes (x ∷ R) true h d m = ap (changes_cell s j) (eq_of_singleton m) ∙ h
    goes Y false h d m = absurd (not-nil m)

    stays : (Y : Layer) (t : Bool) → drop i L ≡ Y → changes_first s j Y ≡ t → (d : Edit) → Mem d (drop (one t) Y)
        → Mem d Y × (changes_cell s j d ≡ false)
    stays [] true e h d m = absurd (not-nil m)
    stays [] false e h d m = absurd (not-nil m)
    stays (x ∷ R) true e h d m = (next m, behind x R e d m)
    stays (x ∷ R) false e h d m =
        (m, ⊎_elim (λ g. ap (changes_cell s j) g ∙ h) (λ n. behind x R e d n) (cases_cons m))

    -- f is the edit over what L does to the cell
    pub change_splice : (t : Bool) → changes_first s j (drop i L) ≡ t
        → (e : CellEdit) → f ≡ composed s j e L
        → change_base s j e L ≡ take i L ++ (at s (change j f) ∷ drop (i + one t) L)
    unfolding change_base
    change_splice t h e z =
        rw (← z)
        (splice before (at s (change j f)) (changes_cell s j) i (one t) L first (goes (drop i L) t h)
        (λ d m.
        let w = stays (drop i L) t refl h d (rw (drop-drop (one t) i L) m) in
        (later d w.0, w.1)))

    pub first_there : (t : Bool) → changes_first s j (drop i L) ≡ t → i + one t ≤ length L
    first_there true h = go (drop i L) refl h
      where
        go : (Y : Layer) → drop i L ≡ Y → changes_first s j Y ≡ true → i + 1 ≤ length L
        go [] e g = absurd (true≢false (sym g))
        go (x ∷ R) e g = omega (arith, length-drop i L, ap length e)
    first_there false h = omega (arith, lands, landing_le (at s (change j (to 0))) L)

-- the change that stands there
pub first_change : (s j i : ℕ) (L : Layer) → changes_first s j (drop i L) ≡ true
    → (f : CellEdit) × At (at s (change j f)) i 0 L
first_change s j zero [] h = absurd (true≢false (sym h))
first_change s j zero (at p (add q) ∷ L) h = absurd (true≢false (sym h))
first_change s j zero (at p (strike k) ∷ L) h = absurd (true≢false (sym h))
first_change s j zero (at p (change i f) ∷ L) h =
    let a : s ≡ p = eqb-true s p (and_l (eqb s p) (eqb j i) h) in
    let b : j ≡ i = eqb-true j i (and_r (eqb s p) (eqb j i) h) in
    (f, top (λ y. at (a y) (change (b y) f)) refl)
first_change s j (suc i) [] h = absurd (true≢false (sym h))
first_change s j (suc i) (x ∷ L) h = let w = first_change s j i L h in (w.0, at_next x w.1)

-- its numbers with another value
pub value_set : (c s j v : ℕ) (f : CellEdit)
    → numbers_of c (at s (change j (to v))) ≡ set (numbers_of c (at s (change j f))) (2 + 0) v
value_set c s j v (to u) = refl

-- the edit number i replaced
pub change_at : (i j : ℕ) (e : CellEdit) (d : Edit) (L : Layer) → At d i 0 L
    → change_added i j e L ≡ take i L ++ (change_added_row j e d ∷ drop (i + 1) L)
change_at i j e d [] a = absurd (at_none a)
change_at zero j e d (x ∷ L) a = ap (λ (y : Edit). change_added_row j e y ∷ L) (sym (at_head a))
change_at (suc i) j e d (x ∷ L) a = rw suc-add (ap (λ (t : Layer). x ∷ t) (change_at i j e d L (at_tail a)))
