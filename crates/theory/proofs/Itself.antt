-- A set past itself: its adds and its strikes meet themselves, its changes do not; and changes alone move nothing.
-- Assumes nothing.
use mathlib.Core.Path.{◌≡◌, refl, sym, ap, ◌∙◌}
use mathlib.Core.Logic.{◌⊎◌, inl, inr, ⊎_elim}
use mathlib.Core.Bool.{Bool, true, false, not, ◌&&◌, true≢false}
use mathlib.Core.List.Memᴰ.{cast as mem_cast}
use mathlib.Core.List.{[], ◌∷◌, Memᴰ as Mem}
use Prim.Native.Nat.{ℕ}
use native.Mathlib.Omega.{arith}
use lib.Dec.{leb, ltb, eqb}
use borrow.Author.Tests.{eqb-true, eq-eqb, not-true}
use Rattle.order.specs.Lists.{one, any, count, first_at}
use Rattle.order.proofs.Tests.{tests, impossible, and_l, and_r, or_false, not_passed, lex_cases}
use Rattle.order.proofs.Members.{any_of, any_none, none_any, any_same}
use Rattle.order.proofs.First.{first_same}
use Rattle.order.proofs.Counts.{count_zero}
use Rattle.order.proofs.Pairs.{AllPairs, pairs_two}
use Rattle.model.specs.Row.{Row, key}
use Rattle.model.specs.Cell.{CellEdit, agree}
use Rattle.model.specs.Layer.{
  Deed,
  add,
  strike,
  change,
  Edit,
  at,
  Layer,
  on_add,
  on_strike,
  is_add,
  is_strike,
  is_add_or_strike,
  rows_after,
}
use Rattle.model.specs.Form.{after, follows}
use Rattle.model.specs.Position.{row_of}
use Rattle.words.specs.declared.Rule.TheVariants.{StruckRow as struck_row, SameCell as same_cell}
use Rattle.model.specs.Conflict.{clash, met, clashes_with, conflict, conflict_place}
use Rattle.model.specs.Move.{add_position, moved, move}
use Rattle.theory.proofs.Conflict.{agree_same, met_test}

-- at one position an edit follows by its deed
level : (s : ℕ) (d e : Deed) → follows (at s d) (at s e) ≡ true → after d e ≡ true
level s d e h = ⊎_elim (λ l. absurd (omega arith)) (λ w. w.1) (lex_cases s s (after d e) h)

module _ (X : Layer) (p : AllPairs follows X) where
  -- of a row, no change stands with a strike, and a cell has one change
  module _ (s j : ℕ) (e : CellEdit) (m : Mem (at s (change j e)) X) where
    abbrev Two : Deed → Type 0
    Two d =
        (at s (change j e) ≡ at s d)
        ⊎ ((follows (at s (change j e)) (at s d) ≡ true) ⊎ (follows (at s d) (at s (change j e)) ≡ true))

    two : (d : Deed) → Mem (at s d) X → Two d
    two d n = pairs_two follows X p (at s (change j e)) (at s d) m n

    unstruck : (k : ℕ) → Two (strike k) → ⊥
    unstruck k (inl h) = impossible (cc)
    unstruck k (inr (inl h)) = true≢false (sym (level s (change j e) (strike k) h))
    unstruck k (inr (inr h)) = true≢false (sym (level s (strike k) (change j e) h))

    one_change : (f : CellEdit) → Two (change j f) → e ≡ f
    one_change f (inl h) = cc
    one_change f (inr (inl h)) = absurd (let g = level s (change j e) (change j f) h in omega tests)
    one_change f (inr (inr h)) = absurd (let g = level s (change j f) (change j e) h in omega tests)

    -- so the change meets no edit of its own set
    quiet : (y : Edit) → Mem y X → met (clash (at s (change j e)) y) ≡ false
    quiet (at q (add r)) n = refl
    quiet (at q (strike k)) n = not_passed _ (λ t.
        let sq = eqb-true s q (met_test (eqb s q) struck_row t) in
        unstruck k (two (strike k) (mem_cast {b = at q (strike k)} (ap (λ (z : ℕ). at z (strike k)) sq) n)))
    quiet (at q (change i f)) n = not_passed _ (λ t.
        let u = met_test (eqb s q && (eqb j i && not (agree e f))) same_cell t in
        let sq = eqb-true s q (and_l (eqb s q) (eqb j i && not (agree e f)) u) in
        let v = and_r (eqb s q) (eqb j i && not (agree e f)) u in
        let ji = eqb-true j i (and_l (eqb j i) (not (agree e f)) v) in
        let ef = one_change f (two (change j f) (mem_cast {b = at q (change i f)} (cc) n)) in
        true≢false (sym (agree_same e) ∙ (ap (agree e) ef ∙ not-true (agree e f) (and_r (eqb j i) (not (agree e f)) v))))

  own_clash : (e : Edit) → Mem e X → clashes_with X e ≡ is_add_or_strike e
  own_clash (at s (add r)) m =
      any_of (λ y. met (clash (at s (add r)) y)) X (at s (add r)) m (rw (eq-eqb (key r) (key r) refl))
  own_clash (at s (strike k)) m =
      any_of (λ y. met (clash (at s (strike k)) y)) X (at s (strike k)) m (rw (eq-eqb s s refl))
  own_clash (at s (change j e)) m = any_none (λ y. met (clash (at s (change j e)) y)) X (quiet s j e m)

  -- a set meets itself exactly where it has an add or a strike, at the first of them
  pub own_conflict : conflict X X ≡ any is_add_or_strike X
  unfolding conflict
  own_conflict = any_same (clashes_with X) is_add_or_strike X own_clash

  pub own_place : conflict_place X X ≡ first_at is_add_or_strike X
  unfolding conflict_place
  own_place = first_same (clashes_with X) is_add_or_strike X own_clash

-- past changes alone no edit moves
module _ (Y : Layer) (quiet : any is_add_or_strike Y ≡ false) where
  none : (e : Edit) → Mem e Y → (is_add e ≡ false) × (is_strike e ≡ false)
  none e m = or_false (is_add e) (is_strike e) (none_any is_add_or_strike Y quiet e m)

  no_adds : (f : ℕ → Row → Bool) → count (on_add f) Y ≡ 0
  no_adds f = count_zero (on_add f) Y (λ e m. by e (none e m).0)
    where
      by : (e : Edit) → is_add e ≡ false → one (on_add f e) ≡ 0
      by (at s (add r)) h = absurd (true≢false h)
      by (at s (strike k)) h = refl
      by (at s (change j e)) h = refl

  no_strikes : (f : ℕ → ℕ → Bool) → count (on_strike f) Y ≡ 0
  no_strikes f = count_zero (on_strike f) Y (λ e m. by e (none e m).1)
    where
      by : (e : Edit) → is_strike e ≡ false → one (on_strike f e) ≡ 0
      by (at s (add r)) h = refl
      by (at s (strike k)) h = absurd (true≢false h)
      by (at s (change j e)) h = refl

  still : (e : Edit) → moved Y e ≡ e
  unfolding row_of add_position
  still (at s (add r)) =
      ap (λ (p : ℕ). at p (add r))
      (omega (
        arith,
        no_adds (λ p q. ltb p s),
        no_adds (λ p q. eqb s p && ltb (key q) (key r)),
        no_strikes (λ p k. ltb p s),
      ))
  still (at s (strike k)) = ap (λ (p : ℕ). at p (strike k)) (omega (arith, no_adds (λ p r. leb p s), no_strikes (λ p l. ltb p s)))
  still (at s (change j e)) = ap (λ (p : ℕ). at p (change j e)) (omega (arith, no_adds (λ p r. leb p s), no_strikes (λ p l. ltb p s)))

  pub none_moved : (X : Layer) → move X Y ≡ X
  none_moved [] = refl
  none_moved (e ∷ X) = rw (still e, none_moved X)

  -- and their rows stay as many
  pub rows_kept : (n : ℕ) → rows_after n Y ≡ n
  rows_kept n = omega (arith, no_adds (λ s r. true), no_strikes (λ s k. true))
