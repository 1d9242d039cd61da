-- The one pass over the entries finds what stands at a row: what is passed lies before it, what is left lies after it.
-- Assumes nothing.
use Prim.Native.Nat.{ℕ, suc, ◌+◌, ◌-◌, ◌≤◌, ◌<◌}
use native.Mathlib.Omega.{arith}
use mathlib.Core.Path.{◌≡◌, refl, sym, ap, subst, ◌∙◌}
use mathlib.Core.Logic.{⊎_elim}
use mathlib.Core.Bool.{Bool, true, false, ◌&&◌}
use mathlib.Core.List.Memᴰ.{append_cases}
use mathlib.Core.List.Memᴰ.{append_right as in_right}
use mathlib.Core.List.Memᴰ.{eq_of_singleton as only}
use mathlib.Core.List.Memᴰ.{head as here}
use mathlib.Core.List.Memᴰ.{not-nil}
use mathlib.Core.List.Memᴰ.{tail as next}
use mathlib.Core.List.{
  List,
  [],
  ◌∷◌,
  ◌++◌,
  append-nil,
  Memᴰ as Mem,
}
use lib.ListN.{length, length-append}
use lib.Seq.{append_snoc, get_or-append_seam, take-append_seam}
use lib.Dec.{leb, ltb, eqb}
use borrow.Author.Tests.{ltb-true, ltb-false, leb-true, eqb-true, lt-ltb, le-ltb, le-leb, lt-leb}
use Rattle.words.specs.declared.Origin.TheVariants.{Base as base, Added as added}
use Rattle.order.specs.Lists.{one, count}
use Rattle.order.proofs.Tests.{tests, and_l}
use Rattle.order.proofs.Counts.{count_append}
use Rattle.order.proofs.Pairs.{AllPairs}
use Rattle.model.specs.Layer.{Deed, Edit, at, add, strike, change, Layer, position, is_add, is_strike, rows_after, struck}
use Rattle.model.specs.Form.{sound, follows, in_order}
use Rattle.model.specs.Position.{add_up_to, strike_before, row_of, back}
use Rattle.theory.proofs.Layer.{struck_none, adds_same, adds_zero, strikes_same, strikes_zero}
use Rattle.theory.proofs.Position.{
  formed,
  pairs_at,
  follows_pos,
  follows_strike,
  entry_no,
  row_of_entry,
  base_row_back,
  added_back,
}
use Rattle.mark.specs.Walk.{origin_from}

-- a sound edit stands at n or before
pub stands_upto : (c n : ℕ) (e : Edit) → sound c n e ≡ true → position e ≤ n
stands_upto c n (at p (add r)) h = leb-true p n (and_l (leb p n) (eqb (length r) c) h)
stands_upto c n (at p (strike k)) h = omega (arith, ltb-true p n h)
stands_upto c n (at p (change j e)) h = omega (arith, ltb-true p n (and_l (ltb p n) (leb 1 j && ltb j c) h))

-- an edit lies before what base row t shows
abbrev lying : ℕ → Edit → Bool
lying t (at p (add r)) = leb p t
lying t (at p (strike k)) = ltb p t
lying t (at p (change j e)) = leb p t

-- what lies before base row t lies before a later one
lying_more : (t u : ℕ) → t ≤ u → (e : Edit) → lying t e ≡ true → lying u e ≡ true
lying_more t u h (at p (add r)) e = omega tests
lying_more t u h (at p (strike k)) e = omega tests
lying_more t u h (at p (change j f)) e = omega tests

-- what an add at p follows lies before each base row from p on
lying_by : (p t : ℕ) (row : List ℕ) → p ≤ t → (e : Edit) → follows e (at p (add row)) ≡ true → lying t e ≡ true
lying_by p t row h (at q (add r)) e = le-leb q t (omega (arith, follows_pos q p (add r) (add row) e))
lying_by p t row h (at q (strike k)) e = lt-ltb q t (omega (arith, follows_strike q p k (add row) e))
lying_by p t row h (at q (change j f)) e = le-leb q t (omega (arith, follows_pos q p (change j f) (add row) e))

-- E is passed, M is left, and row r would be base row t, were there no more
record Halfway (L : Layer) (r : ℕ) (E M : Layer) (t : ℕ) : Type 0 where
  split : L ≡ E ++ M
  lies : (e : Edit) → Mem e E → lying t e ≡ true
  comes : t + count is_add E ≡ r + count is_strike E

-- the next edit is passed, and row r would be base row u
go_past : {L : Layer} {r : ℕ} {E : Layer} {x : Edit} {M : Layer} {t : ℕ} (u : ℕ) → Halfway L r E (x ∷ M) t
    → ((e : Edit) → Mem e E → lying u e ≡ true) → lying u x ≡ true → u + one (is_add x) ≡ t + one (is_strike x)
    → Halfway L r (E ++ (x ∷ [])) M u
go_past {E = E} {x = x} {M = M} u H l p e = record {
  split = H.split ∙ sym (append_snoc E x M);
  lies = λ y m. ⊎_elim (λ w. l y w) (λ w. ap (lying u) (only w) ∙ p) (append_cases E m);
  comes = omega (arith, H.comes, count_append is_add E (x ∷ []), count_append is_strike E (x ∷ []));
}

-- where base row t lies before the next edit, it is what stands there
ahead : (i t p : ℕ) (d : Deed) (M : Layer) → t < p → origin_from i t (at p d ∷ M) ≡ base t
unfolding origin_from
ahead i t p (add r) M h = rw (lt-ltb t p h)
ahead i t p (strike k) M h = rw (lt-ltb t p h)
ahead i t p (change j e) M h = rw (lt-ltb t p h)

module _ (c n : ℕ) (L : Layer) (r : ℕ) (ok : in_order c n L ≡ true) (below : r < rows_after n L) where
  module _ (E M : Layer) (t : ℕ) (H : Halfway L r E M t) where
    pairs : AllPairs follows (E ++ M)
    pairs = rw H.split at (formed c n L ok).pairs

    -- where all that is left stands after t, row r is base row t
    module _ (left : (e : Edit) → Mem e M → t < position e) where
      row_past : row_of L t ≡ r
      unfolding row_of
      row_past =
          omega (
            arith,
            H.comes,
            ap (count (add_up_to t)) H.split ∙ count_append (add_up_to t) E M,
            adds_same E (λ p w. leb p t) (λ p w. true) (λ p w m. ap one (H.lies (at p (add w)) m)),
            adds_zero M (λ p w. leb p t) (λ p w m. ap one (lt-leb p t (left (at p (add w)) m))),
            ap (count (strike_before t)) H.split ∙ count_append (strike_before t) E M,
            strikes_same E (λ p k. ltb p t) (λ p k. true) (λ p k m. ap one (H.lies (at p (strike k)) m)),
            strikes_zero M (λ p k. ltb p t) (λ p k m.
                ap one (le-ltb p t (omega (arith, left (at p (strike k)) m)))),
          )

      kept_past : struck t L ≡ false
      kept_past = struck_none t L (λ p k m. apart p k (rw H.split at m))
        where
          apart : (p k : ℕ) → Mem (at p (strike k)) (E ++ M) → t ≡ p → ⊥
          apart p k m e =
              ⊎_elim (λ w. omega (tests, H.lies (at p (strike k)) w)) (λ w. omega (arith, left (at p (strike k)) w))
              (append_cases E m)

      base_here : t < n → base t ≡ back n L r
      base_here h = sym (base_row_back c n L ok t h kept_past).1 ∙ ap (back n L) row_past

  -- where the next edit adds at t, row r is that entry
  added_here : (E : Layer) (t : ℕ) (row : List ℕ) (M : Layer) → Halfway L r E (at t (add row) ∷ M) t
      → added (length E) ≡ back n L r
  added_here E t row M H =
      sym (added_back c n L ok (length E) (ap is_add here_is)).1
      ∙ ap (back n L) (ap (λ (K : Layer). row_of_entry K (length E)) H.split ∙ number)
    where
      here_is : entry_no L (length E) ≡ at t (add row)
      here_is = ap (λ (K : Layer). entry_no K (length E)) H.split
          ∙ get_or-append_seam E (at t (add row)) M (at 0 (strike 0))

      number : row_of_entry (E ++ (at t (add row) ∷ M)) (length E) ≡ r
      number =
          rw (get_or-append_seam E (at t (add row)) M (at 0 (strike 0)), take-append_seam E (at t (add row) ∷ M))
          (omega (arith, H.comes))

  -- the pass from any entry on finds what stands at row r
  walks : (E M : Layer) (t : ℕ) → Halfway L r E M t → origin_from (length E) t M ≡ back n L r
  unfolding origin_from
  walks E [] t H =
      let e = H.split ∙ append-nil E in
      base_here E [] t H (λ e m. absurd (not-nil m))
      (omega (arith, below, H.comes, ap (count is_add) e, ap (count is_strike) e))
  walks E (at p d ∷ M) t H =
      go (ltb t p) refl (λ u K. ap (λ (k : ℕ). origin_from k u M) (sym more) ∙ walks (E ++ (at p d ∷ [])) M u K)
    where
      Rest : Deed → Type 0
      Rest d = (u : ℕ) → Halfway L r (E ++ (at p d ∷ [])) M u → origin_from (suc (length E)) u M ≡ back n L r

      more : length (E ++ (at p d ∷ [])) ≡ suc (length E)
      more = omega (arith, length-append E (at p d ∷ []))

      after : (e : Edit) → Mem e (at p d ∷ M) → p ≤ position e
      after e (here f) = omega (arith, ap position f)
      after (at q f) (next m) = follows_pos p q d f ((pairs_at E (at p d) M (pairs E (at p d ∷ M) t H)).1 (at q f) m)

      sound_next : sound c n (at p d) ≡ true
      sound_next = (formed c n L ok).each (at p d) (rw H.split (in_right E (here refl)))

      step : (d : Deed) → Halfway L r E (at p d ∷ M) t → p ≤ t → Rest d
          → origin_from (length E) t (at p d ∷ M) ≡ back n L r
      step (add row) H h rest = own (eqb t p) refl
        where
          own : (b : Bool) → eqb t p ≡ b → origin_from (length E) t (at p (add row) ∷ M) ≡ back n L r
          own true f =
              rw (le-ltb t p h, f) (added_here E t row M
              (subst (λ (q : ℕ). Halfway L r E (at q (add row) ∷ M) t) (sym (eqb-true t p f)) H))
          own false f =
              let far : p ≤ t - 1 = omega tests in
              let w = (pairs_at E (at p (add row)) M (pairs E (at p (add row) ∷ M) t H)).0 in
              rw (le-ltb t p h, f) (rest (t - 1) (go_past (t - 1) H
              (λ y m. lying_by p (t - 1) row far y (w y m))
              (le-leb p (t - 1) far) (omega tests)))
      step (strike k) H h rest =
          rw (le-ltb t p h) (rest (suc t) (go_past (suc t) H (λ y m. lying_more t (suc t) (omega arith) y (H.lies y m))
          (lt-ltb p (suc t) (omega arith)) (omega arith)))
      step (change j f) H h rest =
          rw (le-ltb t p h) (rest t (go_past t H H.lies (le-leb p t h) (omega arith)))

      go : (b : Bool) → ltb t p ≡ b → Rest d → origin_from (length E) t (at p d ∷ M) ≡ back n L r
      go true f rest =
          let h : t < p = ltb-true t p f in
          ahead (length E) t p d M h
          ∙ base_here E (at p d ∷ M) t H (λ e m. omega (arith, after e m))
          (omega (arith, stands_upto c n (at p d) sound_next))
      go false f rest = step d H (ltb-false t p f) rest

  -- one pass over all entries finds what stands at row r
  pub walk_back : origin_from 0 r L ≡ back n L r
  walk_back = walks [] L r (record { split = refl; lies = λ e m. absurd (not-nil m); comes = omega arith })
