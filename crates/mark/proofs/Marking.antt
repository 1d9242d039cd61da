-- A mark finds what stands at its row and at all later ones: it may pass an entry that lies before its row, and where
-- the way stops it tells what stands there.
-- Assumes nothing.
use Prim.Native.Nat.{ℕ, suc, ◌+◌, ◌-◌, ◌≤◌, ◌<◌}
use native.Mathlib.Numerals.{add-one}
use native.Mathlib.Omega.{arith}
use mathlib.Core.Path.{◌≡◌, refl, sym, ap, subst, ◌∙◌}
use mathlib.Core.Bool.{Bool, true, false, cond}
use mathlib.Core.List.{[], ◌∷◌}
use lib.ListN.{length, get_or, drop, length-drop}
use lib.Seq.{get_or-drop, drop-drop}
use lib.Dec.{ltb, eqb}
use borrow.Author.Tests.{ltb-true, ltb-false, lt-ltb, le-ltb, eq-eqb, ne_eqb}
use Rattle.words.specs.declared.Origin.TheVariants.{Base as base, Added as added}
use Rattle.order.proofs.Tests.{tests}
use Rattle.model.specs.Cell.{to}
use Rattle.model.specs.Row.{key}
use Rattle.model.specs.Layer.{at, add, strike, change, Edit, Layer}
use Rattle.theory.proofs.Origin.{added_row}
use Rattle.theory.proofs.Raw.{layer_length}
use Rattle.entry.specs.declared.slice.Stored.{Stored}
use Rattle.entry.specs.Look.{look_of, edits}
use Rattle.mark.specs.declared.Mark.{Mark}
use Rattle.mark.specs.declared.Way.{Way}
use Rattle.mark.specs.declared.Way.TheVariants.{Before, Own, On}
use Rattle.mark.specs.Walk.{origin_from, way_by, way_at, fresh, later, toward, past, Stays, Marks}

-- the way goes on past the first edit, from t to u
pub record Passed (i : ℕ) (M : Layer) (t u : ℕ) : Type 0 where
  pub some : 0 < length M
  pub most : u ≤ t + 1
  pub same : (d : ℕ) → origin_from i (t + d) M ≡ origin_from (suc i) (u + d) (drop 1 M)

-- what the way at the first edit, entry number i, tells: the row is base row t, or the edit's own, or the edit is passed
abbrev Told : ℕ → Layer → ℕ → Way → Type 0
Told i M t Before = origin_from i t M ≡ base t
Told i M t (Own k) = (origin_from i t M ≡ added i) × (key (added_row (get_or M 0 (at 0 (add [])))) ≡ k)
Told i M t (On u) = Passed i M t u

told : (i : ℕ) (M : Layer) (t : ℕ) → Told i M t (way_by (look_of M) t)
unfolding origin_from
told i [] t = refl
told i (at p (add r) ∷ M) t = go (ltb p t) refl (eqb p t) refl
  where
    go : (b : Bool) → ltb p t ≡ b → (a : Bool) → eqb p t ≡ a
        → Told i (at p (add r) ∷ M) t (cond b (On (t - 1)) (cond a (Own (key r)) Before))
    go true f a g =
        let far : p < t = ltb-true p t f in
        record {
          some = omega arith;
          most = omega arith;
          same = λ d.
              let z : t + d ≡ p → ⊥ = λ x. omega arith in
              let n : t + d - 1 ≡ t - 1 + d = omega arith in
              rw (le-ltb (t + d) p (omega arith), ne_eqb (t + d) p z) (ap (λ (x : ℕ). origin_from (suc i) x M) n);
        }
    go false f true g = (rw (le-ltb t p (omega tests), eq-eqb t p (omega tests)), refl)
    go false f false g = rw (lt-ltb t p (omega tests))
told i (at p (strike k) ∷ M) t = go (ltb t p) refl
  where
    go : (b : Bool) → ltb t p ≡ b → Told i (at p (strike k) ∷ M) t (cond b Before (On (t + 1)))
    go true f = rw (f)
    go false f =
        let far : p ≤ t = ltb-false t p f in
        record {
          some = omega arith;
          most = omega arith;
          same = λ d.
              let n : suc (t + d) ≡ t + 1 + d = omega arith in
              rw (le-ltb (t + d) p (omega arith)) (ap (λ (x : ℕ). origin_from (suc i) x M) n);
        }
told i (at p (change j (to v)) ∷ M) t = go (ltb t p) refl
  where
    go : (b : Bool) → ltb t p ≡ b → Told i (at p (change j (to v)) ∷ M) t (cond b Before (On t))
    go true f = rw (f)
    go false f =
        let far : p ≤ t = ltb-false t p f in
        record { some = omega arith; most = omega arith; same = λ d. rw (le-ltb (t + d) p (omega arith)) }

-- a way that is none past an entry stays
pub stays : (w : Way) → ((u : ℕ) → w ≡ On u → ⊥) → Stays w
stays Before h = tt
stays (Own k) h = tt
stays (On u) h = h u refl

-- nothing is passed: any row is found from the first entry on
pub from_first : (row : ℕ) (L : Layer) → Marks L (fresh row)
from_first row L = record { within = omega arith; near = omega arith; finds = λ d. refl }

-- a mark on the way to another row
pub set_off : {L : Layer} {k : Mark} (row : ℕ) → Marks L k → Marks L (toward k row) × ((toward k row).row ≡ row)
set_off {L} {k} row g = go (ltb row k.row) refl
  where
    go : (b : Bool) → ltb row k.row ≡ b →
        let o = cond b (fresh row) (later k row) in
        Marks L o × (o.row ≡ row)
    go true f = (from_first row L, refl)
    go false f = let h : k.row ≤ row = ltb-false row k.row f in (
      record {
        within = g.within;
        near = omega (arith, g.near);
        finds = λ d.
            let n : row + d ≡ k.row + (row - k.row + d) = omega arith in
            let t : k.t + (row - k.row + d) ≡ k.t + (row - k.row) + d = omega arith in
            ap (λ (x : ℕ). origin_from 0 x L) n
            ∙ (g.finds (row - k.row + d) ∙ ap (λ (x : ℕ). origin_from k.i x (drop k.i L)) t);
      },
      refl,
    )

module _ {L : Layer} {k : Mark} (g : Marks L k) where
  abbrev left : Layer
  left = drop k.i L

  -- the entry is passed
  module _ (u : ℕ) (h : way_at L k ≡ On u) where
    over : Passed k.i left k.t u
    over = subst (Told k.i left k.t) h (told k.i left k.t)

    pub some_left : k.i < length L
    some_left = omega (arith, over.some, length-drop k.i L)

    pub goes : Marks L (past k u)
    goes = record {
      within = omega (arith, some_left);
      near = omega (arith, g.near, over.most);
      finds = λ d. g.finds d ∙ (over.same d
          ∙ (ap (origin_from (suc k.i) (u + d)) (drop-drop 1 k.i L)
          ∙ ap (λ (x : ℕ). origin_from x (u + d) (drop (k.i + 1) L)) (sym (add-one k.i))));
    }

  -- what stands at the mark's row
  here : origin_from 0 k.row L ≡ origin_from k.i k.t left
  here =
      let n : k.row ≡ k.row + 0 = omega arith in
      let m : k.t + 0 ≡ k.t = omega arith in
      ap (λ (x : ℕ). origin_from 0 x L) n ∙ (g.finds 0 ∙ ap (λ (x : ℕ). origin_from k.i x left) m)

  pub here_base : way_at L k ≡ Before → origin_from 0 k.row L ≡ base k.t
  here_base h = here ∙ subst (Told k.i left k.t) h (told k.i left k.t)

  pub here_own : (own : ℕ) → way_at L k ≡ Own own
      → (origin_from 0 k.row L ≡ added k.i) × (key (added_row (get_or L k.i (at 0 (add [])))) ≡ own)
  here_own own h =
      let w = subst (Told k.i left k.t) h (told k.i left k.t) in
      let e : k.i + 0 ≡ k.i = omega arith in (
        here ∙ w.0,
        ap (λ (x : Edit). key (added_row x)) (ap (λ (n : ℕ). get_or L n (at 0 (add []))) (sym e)
            ∙ sym (get_or-drop k.i L 0 (at 0 (add [])))) ∙ w.1,
      )

-- the marks of a stored layer: the base row is near the row, and an entry that is passed is one of the layer's
module _ (l : Stored) {k : Mark} (g : Marks (edits l) k) where
  pub few_off : k.t ≤ k.row + 512
  few_off = omega (arith, g.near, g.within, layer_length l.c l.m l.numbers.now, l.held.entries)

  pub one_left : (u : ℕ) → way_at (edits l) k ≡ On u → k.i < l.m
  one_left u h = omega (arith, some_left g u h, layer_length l.c l.m l.numbers.now)
