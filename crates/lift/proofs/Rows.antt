-- A row gathered value by value from a slice, and changes done to a row that has zeros behind it.
-- Assumes nothing.
use Prim.Native.Nat.{ℕ, suc, ◌+◌, ◌*◌, ◌-◌, ◌≤◌, ◌<◌}
use native.Mathlib.Nat.{suc-mul}
use native.Mathlib.Numerals.{add-one}
use native.Mathlib.Omega.{arith}
use mathlib.Core.Path.{◌≡◌, refl, sym, ap, ◌∙◌}
use mathlib.Core.Bool.{Bool, true, false, true≢false}
use mathlib.Core.List.{List, [], ◌∷◌, ◌++◌}
use lib.ListN.{length, get_or, take, drop, set, replicate, length-set, drop_of_length-le}
use lib.Seq.{paste, set-append_left, length-take-le}
use lib.Dec.{eqb, ltb}
use borrow.Author.Tests.{ltb-true}
use Rattle.order.specs.Lists.{all}
use Rattle.order.proofs.Tests.{and_l, and_r}
use Rattle.order.proofs.Splice.{part}
use Rattle.words.specs.declared.Entry.{Entry}
use Rattle.words.specs.Entry.{ADD, STRIKE}
use Rattle.model.specs.Row.{Row, row_at}
use Rattle.model.specs.Cell.{to, put}
use Rattle.model.specs.Layer.{at, add, strike, change, Layer, change_row, changed}
use Rattle.model.specs.Raw.{edit_of}
use Rattle.theory.proofs.Raw.{layer_length}
use Rattle.theory.proofs.Edits.{deed_by}
use Rattle.theory.proofs.Layer.{changed_length}
use Rattle.theory.proofs.Columnwise.{row_length, row_cell}
use Rattle.run.proofs.Laws.{copy_more}
use Rattle.head.specs.declared.Head.{Head}
use Rattle.head.specs.Head.{head_of}
use Rattle.entry.specs.declared.slice.Stored.{Stored}
use Rattle.entry.specs.Look.{edits, entry_of}
use Rattle.entry.proofs.Looks.{left_step}
use Rattle.plan.specs.Moves.{padded}
use Rattle.lift.specs.Own.{own_change}

-- Value j of a row whose values lie w numbers apart.
module _ (c w s j : ℕ) (xs : List ℕ) (h : j < c) where
  -- the next one stands w numbers on
  pub next_at : (o : ℕ) → o ≡ j * w + s → o + w ≡ (j + 1) * w + s
  next_at o e = omega (arith, e, suc-mul j w, ap (λ (n : ℕ). n * w) (add-one j))

  -- it is set behind those before it
  pub one_more : (vals : List ℕ) (o : ℕ) → c ≤ 8 → o ≡ j * w + s
      → vals ≡ paste (replicate 8 0) 0 (row_at c w xs s) j
      → set vals j (get_or xs o 0) ≡ paste (replicate 8 0) 0 (row_at c w xs s) (j + 1)
  one_more vals o l e p =
      copy_more vals (replicate 8 0) (row_at c w xs s) 0 j j (get_or xs o 0) (omega arith) p (omega arith)
      (omega (arith, row_length c w s xs))
      (ap (λ (n : ℕ). get_or xs n 0) e ∙ sym (row_cell c w s j xs h))

-- an entry that changes base row s sets one value of it, in a column below c
own_sets : (c s : ℕ) (e : Entry) → own_change c s (edit_of e) ≡ true
    → (e.kind < c) × ((row : Row) → change_row s (edit_of e) row ≡ set row e.kind (get_or e.vals 0 0))
unfolding put
own_sets c s e = go (eqb e.kind ADD) (eqb e.kind STRIKE)
  where
    v : ℕ
    v = get_or e.vals 0 0

    go : (a b : Bool) → own_change c s (at e.pos (deed_by a b e.vals v e.kind)) ≡ true
        → (e.kind < c)
        × ((row : Row) → change_row s (at e.pos (deed_by a b e.vals v e.kind)) row ≡ set row e.kind v)
    go true b h = absurd (true≢false (sym h))
    go false true h = absurd (true≢false (sym h))
    go false false h =
        let t = eqb s e.pos in
        let l = ltb e.kind c in
        (ltb-true e.kind c (and_r t l h), λ row. rw (and_l t l h))

-- The edits of a layer up to number `end`: what is left of them from number k on is this edit and what is left after
-- it.
module _ (l : Stored) (end k : ℕ) (below : end ≤ l.m) where
  abbrev F : Layer
  F = take end (edits l)

  front_step : k < end → drop k F ≡ edit_of (entry_of l k) ∷ drop (k + 1) F
  front_step h =
      let n : end - k ≡ suc (end - (k + 1)) = omega arith in
      sym (part k end (edits l))
      ∙ ((λ x. take (n x) (left_step l.c l.m k l.numbers.now (omega arith) x))
      ∙ ap (λ (G : Layer). edit_of (entry_of l k) ∷ G) (part (k + 1) end (edits l)))

  pub front_end : end ≤ k → drop k F ≡ []
  front_end h =
      let size = layer_length l.c l.m l.numbers.now in
      drop_of_length-le F {i = k} (omega (arith, length-take-le end (edits l) (omega (arith, size))))

-- The changes of base row s from entry number k on, done one after the other: h is the head of the first.
module _ (l : Stored) (s end k : ℕ) (below : end ≤ l.m) (h : Head) (e : h ≡ head_of (entry_of l k)) (g : k < end)
    (own : all (own_change l.c s) (drop k (take end (edits l))) ≡ true) where
  abbrev d : Entry
  d = entry_of l k

  abbrev rest : Layer
  rest = drop (k + 1) (take end (edits l))

  both : (own_change l.c s (edit_of d) ≡ true) × (all (own_change l.c s) rest ≡ true)
  both =
      let t = rw (front_step l end k below g) at own in
      (and_l (own_change l.c s (edit_of d)) _ t, and_r (own_change l.c s (edit_of d)) _ t)

  -- it sets a value below c
  pub change_column : h.kind < l.c
  change_column = rw e (own_sets l.c s d both.0).0

  -- and the others are left
  pub change_step : (row done : Row) → changed s (drop k (take end (edits l))) row ≡ done
      → (all (own_change l.c s) rest ≡ true) × (changed s rest (set row h.kind h.first) ≡ done)
  change_step row done f =
      let w = (own_sets l.c s d both.0).1 row in
      (both.1, rw e (ap (changed s rest) (sym w) ∙ (rw (front_step l end k below g) at f)))

-- changes of columns below c leave what stands behind the row's c values
behind_kept : (c s : ℕ) (G : Layer) (row Z : Row) → length row ≡ c → all (own_change c s) G ≡ true
    → changed s G (row ++ Z) ≡ changed s G row ++ Z
unfolding put
behind_kept c s [] row Z l h = refl
behind_kept c s (at p (add q) ∷ G) row Z l h = absurd (true≢false (sym h))
behind_kept c s (at p (strike k) ∷ G) row Z l h = absurd (true≢false (sym h))
behind_kept c s (at p (change j (to v)) ∷ G) row Z l h =
    let own = and_l (own_change c s (at p (change j (to v)))) _ h in
    let g : j < c = ltb-true j c (and_r (eqb s p) (ltb j c) own) in
    rw (and_l (eqb s p) (ltb j c) own) (ap (changed s G) (set-append_left row Z j v (omega arith))
    ∙ behind_kept c s G (set row j v) Z (length-set row j v ∙ l) (and_r (own_change c s (at p (change j (to v)))) _ h))

-- a row and the zeros behind it, once its changes are done
pub all_done : (c s : ℕ) (G : Layer) (row old new : Row) → length row ≡ c → all (own_change c s) G ≡ true
    → old ≡ padded row
    → new ≡ changed s G old
    → new ≡ padded (changed s G row)
all_done c s G row old new l own e f =
    f ∙ (ap (changed s G) e ∙ (behind_kept c s G row (replicate (8 - length row) 0) l own
    ∙ ap (λ (n : ℕ). changed s G row ++ replicate (8 - n) 0) (sym (changed_length s G row))))
