-- What edited deeds make of a row is the edit of what the deeds made of it.
-- Assumes nothing.
use mathlib.Core.Path.{◌≡◌, refl, sym, ap, ◌∙◌}
use mathlib.Core.Logic.{inl, ⊎_elim}
use mathlib.Core.Bool.{Bool, true, false, not, cond, true≢false}
use mathlib.Core.List.{List, [], ◌∷◌, map, Memᴰ as Mem}
use Prim.Native.Nat.{ℕ}
use lib.Dec.{eqb}
use borrow.Author.Tests.{eqb-true, eqb-false, not-true, not-false}
use Rattle.order.specs.Lists.{any, filter, insert, in_turn}
use Rattle.order.proofs.Tests.{impossible}
use Rattle.order.proofs.Members.{any_mem, any_of, filter_mem, insert_mem, mem_insert, mem_map, map_mem}
use Rattle.order.proofs.Edited.{turn_filter, turn_past, turn_enter}
use Rattle.model.specs.Row.{Row}
use Rattle.model.specs.Cell.{CellEdit, over, put}
use Rattle.model.specs.Layer.{Deed, add, strike, change}
use Rattle.model.specs.Edits.{deed_before}
use Rattle.model.specs.Meaning.{Found, row, missing, strike_found, change_found, given}
use Rattle.theory.proofs.Cell.{put_over, put_comm}
use Rattle.theory.proofs.Lookup.{strikes_one, given_added, given_gone, given_changed}
use Rattle.theory.proofs.Joined.{adds_row, changes_column, put_deed, strike_deeds, composed_deeds, change_deeds, add_deeds}

-- a deed that adds a row
adding : (d : Deed) → adds_row d ≡ true → (r : Row) × (d ≡ add r)
adding (add r) h = (r, refl)
adding (strike k) h = absurd (true≢false (sym h))
adding (change j e) h = absurd (true≢false (sym h))

module _ (ds : List Deed) (f : Found) where
  -- an added row's deed disappears, where the strikes leave no row of its key
  pub given_strike : (l : ℕ) → ((r : Row) → Mem (add r) ds → in_turn strike_found ds f ≡ missing)
      → given (strike_deeds l ds) f ≡ missing
  unfolding given
  given_strike l h = go (any adds_row ds) refl
    where
      kept : Deed → Bool
      kept = λ d. not (adds_row d)

      pass : (d : Deed) → kept d ≡ false → (c : Found) → strike_found d c ≡ c
      pass d k c = let w = adding d (not-false (adds_row d) k) in rw w.1

      none : (r : Row) → Mem (add r) (filter kept ds) → ⊥
      none r m = true≢false (sym (filter_mem kept ds (add r) m).1)

      go : (t : Bool) → any adds_row ds ≡ t → given (cond t (filter kept ds) (strike l ∷ [])) f ≡ missing
      go false e = refl
      go true e =
          let w = any_mem adds_row ds e in
          let z = adding w.0 w.2 in
          given_gone (filter kept ds) f none (turn_filter strike_found kept ds f pass ∙ h z.0 (rw z.1 at w.1))

  -- an added row takes the place of whatever was, where no other is added
  pub given_add : (r : Row) → ((q : Row) → Mem (add q) ds → ⊥) → given (add_deeds r ds) f ≡ row r
  given_add r h =
      given_added (add_deeds r ds) f r (mem_insert deed_before (add r) ds (add r) (inl refl))
      (λ q m. ⊎_elim (λ e. cc) (λ n. absurd (h q n)) (insert_mem deed_before (add r) ds (add q) m))

-- a change of column j trades places with the changes of other columns, and takes one of its own in
module _ (j : ℕ) where
  abbrev kept : Deed → Bool
  kept d = not (changes_column j d)

  trades : (e : CellEdit) (d : Deed) → kept d ≡ true → (c : Found)
      → change_found d (change_found (change j e) c) ≡ change_found (change j e) (change_found d c)
  trades e (add r) h c = refl
  trades e (strike k) h c = refl
  trades e (change i g) h missing = refl
  trades e (change i g) h (row q) = ap row (put_comm q j i e g (λ ji. absurd (eqb-false j i (not-true (eqb j i) h) ji)))

  in_one : (e g : CellEdit) (c : Found) → change_found (change j (over e g)) c ≡ change_found (change j e) (change_found (change j g) c)
  in_one e g missing = refl
  in_one e g (row q) = ap row (sym (put_over q j e g))

  -- so the change over those of its column, after the other deeds, does what it did after all of them
  taken_over : (e : CellEdit) (ds : List Deed) (c : Found)
      → change_found (change j (composed_deeds j e ds)) (in_turn change_found (filter kept ds) c)
      ≡ change_found (change j e) (in_turn change_found ds c)
  taken_over e [] c = refl
  taken_over e (add r ∷ ds) c = taken_over e ds c
  taken_over e (strike k ∷ ds) c = taken_over e ds c
  taken_over e (change i g ∷ ds) c = go (eqb j i) refl (taken_over e ds (change_found (change i g) c))
    where
      E : CellEdit
      E = composed_deeds j e ds

      go : (t : Bool) → eqb j i ≡ t
          → change_found (change j E) (in_turn change_found (filter kept ds) (change_found (change i g) c))
          ≡ change_found (change j e) (in_turn change_found ds (change_found (change i g) c))
          → change_found (change j (cond t (over E g) E))
          (in_turn change_found (cond (not t) (change i g ∷ filter kept ds) (filter kept ds)) c)
          ≡ change_found (change j e) (in_turn change_found ds (change_found (change i g) c))
      go false h ih = ih
      go true h ih =
          in_one E g (in_turn change_found (filter kept ds) c)
          ∙ (ap (change_found (change j E))
          (sym (turn_past change_found (change_found (change j g)) (filter kept ds) c (λ d m. trades g d (filter_mem kept ds d m).1))
          ∙ ap (λ (k : ℕ). in_turn change_found (filter kept ds) (change_found (change k g) c)) (eqb-true j i h))
          ∙ ih)

-- a change of a cell of the row x that the deeds leave
module _ (ds : List Deed) (f : Found) (j : ℕ) (e : CellEdit) (x : Row) (stands : given ds f ≡ row x) where
  -- an added row takes it in
  taken_in : (q : Row) → Mem (add q) ds → ((r : Row) → Mem (add r) ds → r ≡ q)
      → given (map (put_deed j e) ds) f ≡ row (put x j e)
  taken_in q m once =
      given_added (map (put_deed j e) ds) f (put x j e) (rw (xq) (mem_map (put_deed j e) ds (add q) m)) (λ r n.
      let w = map_mem (put_deed j e) ds (add r) n in from r w.0 w.1 w.2)
    where
      xq : x ≡ q
      xq = cc (given_added ds f q m once)

      from : (r : Row) (d : Deed) → Mem d ds → add r ≡ put_deed j e d → r ≡ put x j e
      from r (add s) n h = let g : r ≡ put s j e = cc in g ∙ ap (λ (y : Row). put y j e) (once s n ∙ sym xq)
      from r (strike k) n h = impossible (cc)
      from r (change i c) n h = impossible (cc)

  -- else it is done last
  abbrev new : Deed
  new = change j (composed_deeds j e ds)

  abbrev others : List Deed
  others = filter (kept j) ds

  done_last : ((r : Row) → Mem (add r) ds → ⊥) → given (insert deed_before new others) f ≡ row (put x j e)
  done_last none =
      given_changed (insert deed_before new others) f
      (λ r m. ⊎_elim (λ g. impossible (cc)) (λ n. none r (filter_mem (kept j) ds (add r) n).0)
      (insert_mem deed_before new others (add r) m))
      (λ k m. ⊎_elim (λ g. impossible (cc)) (λ n. unstruck k (filter_mem (kept j) ds (strike k) n).0)
      (insert_mem deed_before new others (strike k) m))
      ∙ (turn_enter change_found new deed_before others f
      (λ d m. trades j (composed_deeds j e ds) d (filter_mem (kept j) ds d m).1)
      ∙ (taken_over j e ds f
      ∙ ap (change_found (change j e)) (sym (given_changed ds f none unstruck) ∙ stands)))
    where
      unstruck : (k : ℕ) → Mem (strike k) ds → ⊥
      unstruck k m = impossible (cc (given_gone ds f none (strikes_one ds f k m)))

  pub given_change : ((q r : Row) → Mem (add q) ds → Mem (add r) ds → q ≡ r) → given (change_deeds j e ds) f ≡ row (put x j e)
  given_change once = go (any adds_row ds) refl
    where
      go : (t : Bool) → any adds_row ds ≡ t
          → given (cond t (map (put_deed j e) ds) (insert deed_before new others)) f ≡ row (put x j e)
      go true h =
          let w = any_mem adds_row ds h in
          let z = adding w.0 w.2 in
          let m : Mem (add z.0) ds = rw z.1 at w.1 in
          taken_in z.0 m (λ r n. once r z.0 n m)
      go false h = done_last (λ r m. true≢false (sym (any_of adds_row ds (add r) m refl) ∙ h))
