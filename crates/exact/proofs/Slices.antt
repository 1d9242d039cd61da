-- What a call that writes leaves in a slice: the new numbers in front, zeros where entries were freed, the rest as it
-- was, and its length; and all of it where it is refused.
-- Assumes nothing.
use Prim.Native.Nat.{ℕ, ◌+◌, ◌-◌, ◌*◌, ◌≤◌, ◌<◌, max}
use native.Mathlib.Nat.{add-mul, suc-mul, mul-le-mul_right}
use native.Mathlib.Omega.{arith}
use mathlib.Core.Path.{◌≡◌, refl, sym, ap, ◌∙◌, subst}
use mathlib.Core.Bool.{Bool, true, false}
use mathlib.Core.List.Memᴰ.{head as here}
use mathlib.Core.List.Memᴰ.{tail as next}
use mathlib.Core.List.{List, [], ◌∷◌, ◌++◌, Memᴰ as Mem}
use lib.ListN.{
  length,
  get_or,
  take,
  drop,
  replicate,
  length-append,
  length-drop,
  length-map,
  length-replicate,
  get_or-replicate,
  get_or-append,
}
use lib.Seq.{take-append_seam, get_or-append-add, get_or-drop}
use lib.Dec.{leb}
use borrow.Author.Tests.{leb-true, leb-false}
use Rattle.std.specs.Prelude.{Ok, Err}
use Rattle.order.specs.Lists.{gather}
use Rattle.order.proofs.Members.{mem_map, map_mem}
use Rattle.words.specs.declared.Refusal.{Refusal}
use Rattle.model.specs.Row.{Row, Table, key, keys, columnwise}
use Rattle.model.specs.Cell.{to}
use Rattle.model.specs.Layer.{add, strike, change, Edit, at, Layer, rows_after}
use Rattle.model.specs.Raw.{numbers_of, layer_of, flat}
use Rattle.model.specs.Form.{sound, in_order}
use Rattle.model.specs.Read.{read, keys_after}
use Rattle.model.specs.Move.{moved, move}
use Rattle.model.specs.Edits.{renumber_row}
use Rattle.model.specs.Steps.{Step, adding, striking, changing, renumbering, step_on, Allowed}
use Rattle.model.specs.Calls.{
  edited,
  shown_column,
  read_answer,
  read_slice,
  added_layer,
  add_answer,
  add_slice,
  struck_layer,
  strike_answer,
  strike_slice,
  changed_layer,
  change_answer,
  change_slice,
  renumber_over,
  renumbered_layer,
  renumber_answer,
  renumber_slice,
  combined_layer,
  combine_answer,
  combine_slice,
  moved_layer,
  move_answer,
  move_slice,
}
use Rattle.theory.proofs.Raw.{layer_length}
use Rattle.theory.proofs.Readback.{sound_wide, read_back}
use Rattle.theory.proofs.Fit.{fits_all, key_kept, keys_length}
use Rattle.theory.proofs.Count.{read_length}
use Rattle.theory.proofs.Column.{Wide, keys_read, singles, keys_singles}
use Rattle.theory.proofs.Columnwise.{columnwise_wide}
use Rattle.theory.proofs.Edited.{add_length}
use Rattle.theory.proofs.Steps.{step_reads}
use Rattle.theory.proofs.Combine.{combine_good, upper_good}
use Rattle.exact.proofs.FormExactly.{kept_each, kept_in_order}
use Rattle.exact.proofs.FitExactly.{fit_exactly}
use Rattle.exact.proofs.Exactly.{Roomy, counts}
use Rattle.exact.proofs.Tables.{
  read_table,
  add_table,
  strike_table,
  change_table,
  renumber_over_table,
  combine_table,
  move_table,
}
use Rattle.exact.proofs.Rightful.{
  Sound,
  add_sound,
  strike_sound,
  change_sound,
  combine_sound,
  sound_ascends,
  sound_good,
}
use Rattle.exact.proofs.Renumbers.{renumber_over_sound, renumber_allowed}

-- past two lists joined
past_append : (xs ys : List ℕ) (k i : ℕ) → length xs ≡ k → k ≤ i → get_or (xs ++ ys) i 0 ≡ get_or ys (i - k) 0
past_append xs ys k i e h =
    let f : i ≡ length xs + (i - k) = omega arith in
    ap (λ (q : ℕ). get_or (xs ++ ys) q 0) f ∙ get_or-append-add xs ys (i - k) 0

past_drop : (k i : ℕ) (old : List ℕ) → k ≤ i → get_or (drop k old) (i - k) 0 ≡ get_or old i 0
past_drop k i old h =
    let f : k + (i - k) ≡ i = omega arith in
    get_or-drop k old (i - k) 0 ∙ ap (λ (q : ℕ). get_or old q 0) f

-- The front is written over, the rest is as it was.
pub record Written (new old after : List ℕ) : Type 0 where
  pub front : take (length new) after ≡ new
  pub past : (i : ℕ) → length new ≤ i → get_or after i 0 ≡ get_or old i 0
  pub size : length after ≡ length old

wrote : (new old : List ℕ) → length new ≤ length old → Written new old (new ++ drop (length new) old)
wrote new old h = record {
  front = take-append_seam new (drop (length new) old);
  past = λ i l. past_append new (drop (length new) old) (length new) i refl l ∙ past_drop (length new) i old l;
  size = omega (arith, length-append new (drop (length new) old), length-drop (length new) old);
}

-- A layer of c columns takes c + 2 numbers an entry.
flat_length : (c : ℕ) (M : Layer) → ((e : Edit) → Mem e M → length (numbers_of c e) ≡ c + 2)
    → length (flat c M) ≡ length M * (c + 2)
unfolding flat
flat_length c [] h = omega arith
flat_length c (e ∷ M) h =
    omega (
      arith,
      length-append (numbers_of c e) (gather (numbers_of c) M),
      h e (here refl),
      flat_length c M (λ d m. h d (next m)),
      suc-mul (length M) (c + 2),
    )

-- After an edit: the new layer, zeros where entries were freed, then what stood there before.
pub record Edited (c m : ℕ) (M : Layer) (old after : List ℕ) : Type 0 where
  pub layer : layer_of c (length M) after ≡ M
  pub freed : (i : ℕ) → length M * (c + 2) ≤ i → i < m * (c + 2) → get_or after i 0 ≡ 0
  pub past : (i : ℕ) → length M * (c + 2) ≤ i → m * (c + 2) ≤ i → get_or after i 0 ≡ get_or old i 0
  pub size : length after ≡ length old

module _ (c n m : ℕ) (M : Layer) (old : List ℕ) (some : 1 ≤ c) (few : c ≤ 8)
    (each : (e : Edit) → Mem e M → sound c n e ≡ true) (held : m * (c + 2) ≤ length old)
    (room : length M * (c + 2) ≤ length old) where
  abbrev freed_size : ℕ
  freed_size = (m - length M) * (c + 2)

  abbrev zeros : List ℕ
  zeros = replicate ((m - length M) * (c + 2)) 0

  abbrev rest : List ℕ
  rest = drop (max m (length M) * (c + 2)) old

  flat_wide : length (flat c M) ≡ length M * (c + 2)
  flat_wide = flat_length c M (λ e k. sound_wide c n some e (each e k))

  -- the zeros end where the longer of the two layers does
  ends : (t : Bool) → leb (length M) m ≡ t
      → (length M * (c + 2) + (m - length M) * (c + 2) ≡ max m (length M) * (c + 2))
      × (max m (length M) * (c + 2) ≤ length old)
      × ((i : ℕ) → length M * (c + 2) ≤ i → m * (c + 2) ≤ i → max m (length M) * (c + 2) ≤ i)
      × ((i : ℕ) → length M * (c + 2) ≤ i → i < m * (c + 2) → i < max m (length M) * (c + 2))
  ends true e =
      let l : length M ≤ m = leb-true (length M) m e in
      let x : max m (length M) ≡ m = omega arith in
      let s : length M + (m - length M) ≡ m = omega arith in
      let d : length M * (c + 2) + (m - length M) * (c + 2) ≡ m * (c + 2) =
      sym (add-mul (length M) (m - length M) (c + 2)) ∙ ap (λ (q : ℕ). q * (c + 2)) s in
      rw x (d, held, λ i a b. b, λ i a b. b)
  ends false e =
      let l : m < length M = leb-false (length M) m e in
      let x : max m (length M) ≡ length M = omega arith in
      let s : length M + (m - length M) ≡ length M = omega arith in
      let d : length M * (c + 2) + (m - length M) * (c + 2) ≡ length M * (c + 2) =
      sym (add-mul (length M) (m - length M) (c + 2)) ∙ ap (λ (q : ℕ). q * (c + 2)) s in
      let le : m * (c + 2) ≤ length M * (c + 2) = mul-le-mul_right {m = m} (c + 2) (omega arith) in
      rw x (d, room, λ i a b. a, λ i a b. absurd (omega arith))

  edited_of : (k : ℕ) → Edited c m M old (edited c m (Ok k) M old)
  edited_of k =
      let d = ends (leb (length M) m) refl in
      record {
        layer = read_back c n some few (length M) M (zeros ++ rest) refl each;
        freed = λ i a b.
            let q : i - length M * (c + 2) < (m - length M) * (c + 2) = omega (arith, d.0, d.3 i a b) in
            past_append (flat c M) (zeros ++ rest) (length M * (c + 2)) i flat_wide a
            ∙ (get_or-append zeros rest 0 (i - length M * (c + 2)) (omega (arith, length-replicate {A = ℕ} freed_size 0))
            ∙ get_or-replicate freed_size (i - length M * (c + 2)) 0 0 q);
        past = λ i a b.
            let z : (m - length M) * (c + 2) ≤ i - length M * (c + 2) = omega (arith, d.0, d.2 i a b) in
            let f : (i - length M * (c + 2)) - freed_size ≡ i - max m (length M) * (c + 2) = omega (arith, d.0) in
            past_append (flat c M) (zeros ++ rest) (length M * (c + 2)) i flat_wide a
            ∙ (past_append zeros rest freed_size (i - length M * (c + 2)) (length-replicate {A = ℕ} freed_size 0) z
            ∙ (ap (λ (q : ℕ). get_or rest q 0) f ∙ past_drop (max m (length M) * (c + 2)) i old (d.2 i a b)));
        size = omega (
          arith,
          flat_wide,
          length-append (flat c M) (zeros ++ rest),
          length-append zeros rest,
          length-replicate {A = ℕ} ((m - length M) * (c + 2)) 0,
          length-drop (max m (length M) * (c + 2)) old,
          d.0,
          d.1,
        );
      }

-- The calls over a table's keys.
module _ (c m : ℕ) (raw : List ℕ) (T : Table) where
  abbrev L : Layer
  L = layer_of c m raw

  module _ (S : Sound c m raw (keys T)) where
    step_slice_lem : (x : Step) → Allowed c x (read T L) → Roomy c (length raw) (length (step_on T x L)) → (k : ℕ)
        → Edited c m (step_on T x L) raw (edited c m (Ok k) (step_on T x L) raw)
    step_slice_lem x w r k =
        edited_of c (length T) m (step_on T x L) raw S.args.some S.args.columns
        (step_reads c T (sound_ascends c m raw T S) x L (read T L)
        (record { good = sound_good c m raw T S; reads = refl }) w).good.each
        S.args.fits r.1 k

    row_there : (i : ℕ) → i < rows_after (length (keys T)) L → i < length (read T L)
    row_there i h =
        omega (arith, read_length T L (sound_good c m raw T S).fit, ap (λ (n : ℕ). rows_after n L) (keys_length T))

    key_free : (row : Row) → (Mem (key row) (keys_after (keys T) L) → ⊥)
        → (q : Row) → Mem q (read T L) → key q ≡ key row → ⊥
    key_free row f q h e =
        f (rw (keys_read T L (key_kept T L (sound_good c m raw T S).fit), ← e) (mem_map key (read T L) q h))

  added_slice : (row : Row) (k : ℕ) → add_answer c m raw (keys T) row ≡ Ok k
      → Edited c m (added_layer c m raw (keys T) row) raw (add_slice c m raw (keys T) row)
  added_slice row k e =
      let w = (counts (add_table c m raw (keys T) row) k e).1 in
      let S = add_sound c m raw (keys T) k row e in
      let own = w.1.1.1.1 in
      rw e (step_slice_lem S (adding row) (w.0.1, key_free S row own.0)
      (rw (add_length (keys T) row L, layer_length c m raw) own.1.0) k)

  struck_slice : (r k : ℕ) → strike_answer c m raw (keys T) r ≡ Ok k
      → Edited c m (struck_layer c m raw (keys T) r) raw (strike_slice c m raw (keys T) r)
  struck_slice r k e =
      let own = (counts (strike_table c m raw (keys T) r) k e).1.1.1.1.1 in
      let S = strike_sound c m raw (keys T) k r e in
      rw e (step_slice_lem S (striking r) (row_there S r own.0) own.1.0 k)

  changed_slice : (r j v k : ℕ) → change_answer c m raw (keys T) r j v ≡ Ok k
      → Edited c m (changed_layer c m raw (keys T) r j v) raw (change_slice c m raw (keys T) r j v)
  changed_slice r j v k e =
      let w = (counts (change_table c m raw (keys T) r j v) k e).1 in
      let S = change_sound c m raw (keys T) k r j v e in
      let own = w.1.1.1.1 in
      rw e (step_slice_lem S (changing r j (to v)) (row_there S r own.0, own.1.0, w.0.1) own.1.1.0 k)

  -- a row that is renumbered has the table's width
  pub renumber_over_slice : (ok : Bool) → Wide c T → (r g k : ℕ) → renumber_over ok c m raw T r g ≡ Ok k
      → Edited c m (renumber_row T r g L) raw (edited c m (renumber_over ok c m raw T r g) (renumber_row T r g L) raw)
  renumber_over_slice ok wide r g k e =
      let w = (counts (renumber_over_table ok (ok ≡ true) (λ x. x, λ x. x) c m raw T r g) k e).1 in
      let S = (renumber_over_sound ok c m raw T r g k e).0 in
      let own = w.1.1.1.1 in
      rw e (step_slice_lem S (renumbering r g) ((renumber_allowed c m raw T r g S wide).0 (own.0, own.1.0)) own.1.1.0 k)

  -- combining: R is the layer of raw
  combined_slice : (mW : ℕ) (rawW out : List ℕ) (k : ℕ) → combine_answer c (keys T) m raw mW rawW (length out) ≡ Ok k
      → Written (flat c (combined_layer c (keys T) m raw mW rawW)) out (combine_slice c (keys T) m raw mW rawW out)
      × (layer_of c k (combine_slice c (keys T) m raw mW rawW out) ≡ combined_layer c (keys T) m raw mW rawW)
  combined_slice mW rawW out k e =
      let W = layer_of c mW rawW in
      let M = combined_layer c (keys T) m raw mW rawW in
      let z = counts (combine_table c (keys T) m raw mW rawW (length out)) k e in
      let s = combine_sound c m raw (keys T) k mW rawW (length out) e in
      let S = s.0 in
      let a = sound_ascends c m raw T S in
      let G = sound_good c m raw T S in
      let over : in_order c (rows_after (length T) L) W ≡ true =
      ap (λ (n : ℕ). in_order c (rows_after n L) W) (sym (keys_length T))
      ∙ kept_in_order c (rows_after (length (keys T)) L) mW rawW s.1.columns s.1.fits s.2 in
      let fit = fits_all (keys_after (keys T) L) W ((fit_exactly (keys_after (keys T) L) W).1 s.3) in
      let good = combine_good c T L W a G (upper_good c T L W a G over fit) in
      let wide = flat_length c M (λ d h. sound_wide c (length T) S.args.some d (good.each d h)) in
      rw e (
        wrote (flat c M) out (omega (arith, wide, z.1.1.1.1.1.1.1.0.1)),
        read_back c (length T) S.args.some S.args.columns k M (drop (length (flat c M)) out)
            (sym z.0) good.each,
      )

moved_wide : (c : ℕ) (Y : Layer) (e : Edit) → length (numbers_of c (moved Y e)) ≡ length (numbers_of c e)
moved_wide c Y (at s (add r)) = refl
moved_wide c Y (at s (strike k)) = refl
moved_wide c Y (at s (change j (to v))) = refl

-- The calls over any key column: what an accepted one leaves.
module _ (c m : ℕ) (raw K : List ℕ) (k : ℕ) where
  pub add_slice_lem : (row : Row) → add_answer c m raw K row ≡ Ok k
      → Edited c m (added_layer c m raw K row) raw (add_slice c m raw K row)
  add_slice_lem row =
      subst (λ (N : List ℕ). add_answer c m raw N row ≡ Ok k
      → Edited c m (added_layer c m raw N row) raw (add_slice c m raw N row))
      (keys_singles K) (added_slice c m raw (singles K) row k)

  pub strike_slice_lem : (r : ℕ) → strike_answer c m raw K r ≡ Ok k
      → Edited c m (struck_layer c m raw K r) raw (strike_slice c m raw K r)
  strike_slice_lem r =
      subst (λ (N : List ℕ). strike_answer c m raw N r ≡ Ok k
      → Edited c m (struck_layer c m raw N r) raw (strike_slice c m raw N r))
      (keys_singles K) (struck_slice c m raw (singles K) r k)

  pub change_slice_lem : (r j v : ℕ) → change_answer c m raw K r j v ≡ Ok k
      → Edited c m (changed_layer c m raw K r j v) raw (change_slice c m raw K r j v)
  change_slice_lem r j v =
      subst (λ (N : List ℕ). change_answer c m raw N r j v ≡ Ok k
      → Edited c m (changed_layer c m raw N r j v) raw (change_slice c m raw N r j v))
      (keys_singles K) (changed_slice c m raw (singles K) r j v k)

  pub renumber_slice_lem : (n : ℕ) (table : List ℕ) (r g : ℕ) → renumber_answer c n m raw table r g ≡ Ok k
      → Edited c m (renumbered_layer c n m raw table r g) raw (renumber_slice c n m raw table r g)
  renumber_slice_lem n table r g =
      renumber_over_slice c m raw (columnwise c n n table) (leb (c * n) (length table)) (columnwise_wide c n n table) r g k

  pub combine_slice_lem : (mW : ℕ) (rawW out : List ℕ) → combine_answer c K m raw mW rawW (length out) ≡ Ok k
      → Written (flat c (combined_layer c K m raw mW rawW)) out (combine_slice c K m raw mW rawW out)
      × (layer_of c k (combine_slice c K m raw mW rawW out) ≡ combined_layer c K m raw mW rawW)
  combine_slice_lem mW rawW out =
      subst (λ (N : List ℕ). combine_answer c N m raw mW rawW (length out) ≡ Ok k
      → Written (flat c (combined_layer c N m raw mW rawW)) out (combine_slice c N m raw mW rawW out)
      × (layer_of c k (combine_slice c N m raw mW rawW out) ≡ combined_layer c N m raw mW rawW))
      (keys_singles K) (combined_slice c m raw (singles K) mW rawW out k)

  pub move_slice_lem : (mY : ℕ) (rawY : List ℕ) → move_answer c K m raw mY rawY ≡ Ok k
      → Written (flat c (moved_layer c m raw mY rawY)) raw (move_slice c K m raw mY rawY)
  move_slice_lem mY rawY e =
      let X = layer_of c m raw in
      let Y = layer_of c mY rawY in
      let w = (counts (move_table c K m raw mY rawY) k e).1 in
      let each = kept_each c (length K) m raw w.0.0.columns w.0.0.fits w.1.0 in
      let wide = flat_length c (move X Y) (λ d h.
      let z = map_mem (moved Y) X d h in
      ap (λ (q : Edit). length (numbers_of c q)) z.2
      ∙ (moved_wide c Y z.0 ∙ sound_wide c (length K) w.0.0.some z.0 (each z.0 z.1))) in
      let size : length (move X Y) ≡ m = length-map X (moved Y) ∙ layer_length c m raw in
      rw e (wrote (flat c (move X Y)) raw (omega (arith, wide, ap (λ (q : ℕ). q * (c + 2)) size, w.0.0.fits)))

  pub read_slice_lem : (j : ℕ) (out : List ℕ) → read_answer c m raw K j (length out) ≡ Ok k
      → Written (shown_column c m raw K j) out (read_slice c m raw K j out)
  read_slice_lem j out e =
      let w = (counts (read_table c m raw K j (length out)) k e).1 in
      rw e (wrote (shown_column c m raw K j) out w.1.1.0)

-- a refused one leaves all of it
module _ (c m : ℕ) (raw K : List ℕ) (x : Refusal) where
  pub add_refused : (row : Row) → add_answer c m raw K row ≡ Err x → add_slice c m raw K row ≡ raw
  add_refused row e = rw e

  pub strike_refused : (r : ℕ) → strike_answer c m raw K r ≡ Err x → strike_slice c m raw K r ≡ raw
  strike_refused r e = rw e

  pub change_refused : (r j v : ℕ) → change_answer c m raw K r j v ≡ Err x → change_slice c m raw K r j v ≡ raw
  change_refused r j v e = rw e

  pub renumber_refused : (n : ℕ) (table : List ℕ) (r g : ℕ) → renumber_answer c n m raw table r g ≡ Err x
      → renumber_slice c n m raw table r g ≡ raw
  renumber_refused n table r g e = rw e

  pub combine_refused : (mW : ℕ) (rawW out : List ℕ) → combine_answer c K m raw mW rawW (length out) ≡ Err x
      → combine_slice c K m raw mW rawW out ≡ out
  combine_refused mW rawW out e = rw e

  pub move_refused : (mY : ℕ) (rawY : List ℕ) → move_answer c K m raw mY rawY ≡ Err x
      → move_slice c K m raw mY rawY ≡ raw
  move_refused mY rawY e = rw e

  pub read_refused : (j : ℕ) (out : List ℕ) → read_answer c m raw K j (length out) ≡ Err x
      → read_slice c m raw K j out ≡ out
  read_refused j out e = rw e
