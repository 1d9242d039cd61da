-- A rightful wish is accepted: a row below the shown rows, a column above 0 and below c, a key that is not shown, with
-- room and rows left, on a layer that keeps form and fits; only on such a layer is a call done. Which keys are shown.
-- Assumes nothing.
use Prim.Native.Nat.{ℕ, zero, suc, ◌+◌, ◌-◌, ◌≤◌, ◌<◌}
use native.Mathlib.Nat.{mul-le-mul_right}
use native.Mathlib.Omega.{arith}
use mathlib.Core.Path.{◌≡◌, refl, sym, ap, ◌∙◌, subst}
use mathlib.Core.Logic.{◌⊎◌, inl, inr, ⊎_elim, ◌↔◌}
use mathlib.Core.Bool.{Bool, true, false, not, cond, true≢false}
use mathlib.Core.List.{List, [], ◌∷◌, ◌++◌, Memᴰ as Mem}
use lib.ListN.{length, get_or}
use Rattle.words.specs.declared.Origin.{Origin}
use Rattle.words.specs.declared.Origin.TheVariants.{Base as base, Added as added}
use Rattle.words.specs.declared.Cause.{Cause}
use Rattle.words.specs.declared.Cause.TheVariants.{NoRoom}
use Rattle.std.specs.Prelude.{Ok, Err}
use Rattle.order.specs.Lists.{filter, insert, without}
use Rattle.order.proofs.Members.{mem_map, map_mem}
use Rattle.order.proofs.Counts.{count_le, length_insert}
use Rattle.order.proofs.Ascending.{AscFrom, At, below, asc_of, at_length, get_or_at}
use Rattle.model.specs.Row.{Row, Table, key, keys}
use Rattle.model.specs.Cell.{CellEdit, to}
use Rattle.model.specs.Layer.{
  add,
  strike,
  change,
  Edit,
  at,
  Layer,
  rows_after,
  changes_row,
  changes_cell,
  struck,
  changed,
}
use Rattle.model.specs.Raw.{layer_of}
use Rattle.model.specs.Form.{in_order}
use Rattle.model.specs.Fit.{fits}
use Rattle.model.specs.Read.{read, keys_after}
use Rattle.model.specs.Position.{back}
use Rattle.model.specs.Edits.{
  before,
  strike_base,
  composed,
  change_base,
  change_added,
  strike_origin,
  strike_row,
  change_origin,
  change_row_no,
}
use Rattle.words.specs.Answer.{cause_number, refusal}
use Rattle.model.specs.Calls.{add_answer, strike_answer, change_answer, combined_layer, combine_answer, move_answer}
use Rattle.theory.proofs.Raw.{layer_length}
use Rattle.theory.proofs.Layer.{KeyKept, changed_key}
use Rattle.theory.proofs.Read.{shown, shows_row, shows_add}
use Rattle.theory.proofs.Fit.{Good, good_of, fits_all, key_kept, key_of_lem, keys_length}
use Rattle.theory.proofs.Column.{keys_read, singles, keys_singles}
use Rattle.theory.proofs.Edited.{add_length}
use Rattle.exact.proofs.FormExactly.{FormKept, kept_in_order}
use Rattle.exact.proofs.FitExactly.{Ascends, keys_exactly, Fitting, fit_exactly}
use Rattle.exact.proofs.Exactly.{RefusedBy, refused_past, counts, ArgsPass, Roomy}
use Rattle.exact.proofs.Tables.{
  both_form_lines,
  both_fit_lines,
  add_table,
  strike_table,
  change_table,
  BothArgs,
  combine_own,
  combine_lines,
  combine_table,
  move_table,
}

-- fewer entries are within the room too
pub roomy_less : (c len k l : ℕ) → k ≤ l → Roomy c len l → Roomy c len k
roomy_less c len k l h w = (omega (arith, w.0), omega (arith, w.1, mul-le-mul_right {m = k} (c + 2) h))

-- A layer over the key column K that passes 1 to 4.
pub record Sound (c m : ℕ) (raw K : List ℕ) : Type 0 where
  pub args : ArgsPass c (length K) m (length raw)
  pub form : FormKept c (length K) m raw
  pub ascends : Ascends K
  pub fit : Fitting K (layer_of c m raw) (length (layer_of c m raw))

-- An edit that is done had such a layer; combining and moving had two.
module _ (c m : ℕ) (raw K : List ℕ) (k : ℕ) where
  pub sound_of : ArgsPass c (length K) m (length raw) → FormKept c (length K) m raw → Ascends K
      → Fitting K (layer_of c m raw) (length (layer_of c m raw)) → Sound c m raw K
  sound_of a f s t = record { args = a; form = f; ascends = s; fit = t }

  pub add_sound : (row : Row) → add_answer c m raw K row ≡ Ok k → Sound c m raw K
  add_sound row e =
      let w = (counts (add_table c m raw K row) k e).1 in
      sound_of w.0.0 w.1.0 w.1.1.0 w.1.1.1.0

  pub strike_sound : (r : ℕ) → strike_answer c m raw K r ≡ Ok k → Sound c m raw K
  strike_sound r e =
      let w = (counts (strike_table c m raw K r) k e).1 in
      sound_of w.0 w.1.0 w.1.1.0 w.1.1.1.0

  pub change_sound : (r j v : ℕ) → change_answer c m raw K r j v ≡ Ok k → Sound c m raw K
  change_sound r j v e =
      let w = (counts (change_table c m raw K r j v) k e).1 in
      sound_of w.0.0 w.1.0 w.1.1.0 w.1.1.1.0

  pub combine_sound : (mW : ℕ) (rawW : List ℕ) (len : ℕ) → combine_answer c K m raw mW rawW len ≡ Ok k
      → Sound c m raw K × ArgsPass c (length K) mW (length rawW)
      × FormKept c (rows_after (length K) (layer_of c m raw)) mW rawW
      × Fitting (keys_after K (layer_of c m raw)) (layer_of c mW rawW) (length (layer_of c mW rawW))
  combine_sound mW rawW len e =
      let w = (counts (combine_table c K m raw mW rawW len) k e).1 in
      (sound_of w.0.0 w.1.0 w.1.1.1.0 w.1.1.1.1.0, w.0.1, w.1.1.0, w.1.1.1.1.1.0)

pub move_sound : (c m : ℕ) (raw K : List ℕ) (k mY : ℕ) (rawY : List ℕ) → move_answer c K m raw mY rawY ≡ Ok k
    → Sound c m raw K × Sound c mY rawY K
move_sound c m raw K k mY rawY e =
    let w = (counts (move_table c K m raw mY rawY) k e).1 in (
      sound_of c m raw K k w.0.0 w.1.0 w.1.1.1.0 w.1.1.1.1.0,
      sound_of c mY rawY K k w.0.1 w.1.1.0 w.1.1.1.0 w.1.1.1.1.1.0,
    )

-- a key is shown: the layer adds it, or a base row has it and is not struck
abbrev pub ShownKey : List ℕ → Layer → ℕ → Type 0
ShownKey K L k =
    ((p : ℕ) × (r : Row) × Mem (at p (add r)) L × (key r ≡ k))
    ⊎ ((p : ℕ) × (p < length K) × (get_or K p 0 ≡ k) × (struck p L ≡ false))

-- of a table's keys
module _ (c m : ℕ) (raw : List ℕ) (T : Table) (S : Sound c m raw (keys T)) where
  abbrev L : Layer
  L = layer_of c m raw

  pub sound_ascends : AscFrom key 0 T
  sound_ascends = asc_of key T ((keys_exactly (keys T)).1 S.ascends)

  pub sound_good : Good c T (layer_of c m raw)
  sound_good =
      good_of c T L sound_ascends
      (ap (λ (n : ℕ). in_order c n L) (sym (keys_length T))
      ∙ kept_in_order c (length (keys T)) m raw S.args.columns S.args.fits S.form)
      (fits_all (keys T) L ((fit_exactly (keys T) L).1 S.fit))

  shown_of : (k : ℕ) → Mem k (keys_after (keys T) L) → ShownKey (keys T) L k
  shown_of k h =
      let w = map_mem key (read T L) k (rw (keys_read T L (key_kept T L sound_good.fit)) at h) in
      ⊎_elim (λ a. inl (a.0, w.0, a.1, sym w.2))
      (λ b. inr (
        b.0,
        omega (arith, at_length b.2, keys_length T),
        key_of_lem b.2
            ∙ (sym (changed_key b.0 L b.1 (key_kept T L sound_good.fit)) ∙ (ap key (sym b.4) ∙ sym w.2)),
        b.3,
      ))
      (shown 0 T L w.0 w.1)

  of_shown : (k : ℕ) → ShownKey (keys T) L k → Mem k (keys_after (keys T) L)
  of_shown k w = rw (keys_read T L kk) (⊎_elim adds rows w)
    where
      kk : KeyKept L
      kk = key_kept T L sound_good.fit

      adds : ((p : ℕ) × (r : Row) × Mem (at p (add r)) L × (key r ≡ k)) → Mem k (keys (read T L))
      adds a =
          rw (← a.3) (mem_map key (read T L) a.1 (shows_add 0 T L a.0 a.1 a.2 (omega arith)
          (omega (arith, sound_good.fit.sits a.0 a.1 a.2, count_le (below key (key a.1)) T))))

      rows : ((p : ℕ) × (p < length (keys T)) × (get_or (keys T) p 0 ≡ k) × (struck p L ≡ false)) → Mem k (keys (read T L))
      rows b =
          let n : At (get_or T b.0 []) b.0 0 T = get_or_at T b.0 [] (omega (arith, b.1, keys_length T)) in
          let e : key (changed b.0 L (get_or T b.0 [])) ≡ k =
          changed_key b.0 L (get_or T b.0 []) kk ∙ (sym (key_of_lem n) ∙ b.2) in
          rw (← e) (mem_map key (read T L) _ (shows_row 0 T L b.0 (get_or T b.0 []) n b.3))

-- how many entries an edit leaves
filter_le : (f : Edit → Bool) (M : Layer) → length (filter f M) ≤ length M
filter_le f [] = omega arith
filter_le f (e ∷ M) = go (f e) (filter_le f M)
  where
    go : (t : Bool) → length (filter f M) ≤ length M → length (cond t (e ∷ filter f M) (filter f M)) ≤ suc (length M)
    go true ih = omega arith
    go false ih = omega arith

entered_le : (e : Edit) (f : Edit → Bool) (M : Layer) → length (insert before e (filter f M)) ≤ suc (length M)
entered_le e f M = omega (arith, length_insert before e (filter f M), filter_le f M)

without_le : (i : ℕ) (M : Layer) → length (without i M) ≤ length M
without_le i [] = omega arith
without_le zero (e ∷ M) = omega arith
without_le (suc i) (e ∷ M) = omega (arith, without_le i M)

pub without_one : (i : ℕ) (M : Layer) → i < length M → length (without i M) ≡ length M - 1
without_one i [] h = absurd (omega arith)
without_one zero (e ∷ M) h = omega arith
without_one (suc i) (e ∷ M) h = omega (arith, without_one i M (omega arith))

change_added_length : (i j : ℕ) (e : CellEdit) (M : Layer) → length (change_added i j e M) ≡ length M
change_added_length i j e [] = refl
change_added_length zero j e (d ∷ M) = refl
change_added_length (suc i) j e (d ∷ M) = ap suc (change_added_length i j e M)

pub struck_le : (K : List ℕ) (M : Layer) (o : Origin) → length (strike_origin K M o) ≤ suc (length M)
unfolding strike_base
struck_le K M (base s) = entered_le (at s (strike (get_or K s 0))) (λ e. not (changes_row s e)) M
struck_le K M (added i) = omega (arith, without_le i M)

changed_le : (j : ℕ) (e : CellEdit) (M : Layer) (o : Origin) → length (change_origin j e M o) ≤ suc (length M)
unfolding change_base
changed_le j e M (base s) = entered_le (at s (change j (composed s j e M))) (λ d. not (changes_cell s j d)) M
changed_le j e M (added i) = omega (arith, change_added_length i j e M)

module _ (c m : ℕ) (raw K : List ℕ) where
  abbrev N : Layer
  N = layer_of c m raw

  pub shown_exactly : Sound c m raw K → (k : ℕ)
      → Mem k (keys_after K (layer_of c m raw)) ↔ ShownKey K (layer_of c m raw) k
  shown_exactly =
      subst (λ (K : List ℕ). Sound c m raw K → (k : ℕ) → Mem k (keys_after K N) ↔ ShownKey K N k) (keys_singles K)
      (λ S k. (shown_of c m raw (singles K) S k, of_shown c m raw (singles K) S k))

  module _ (S : Sound c m raw K) where
    -- a key that is not added is free where no base row has it, or that row is struck
    pub free : (k : ℕ) → ((p : ℕ) (r : Row) → Mem (at p (add r)) (layer_of c m raw) → key r ≡ k → ⊥)
        → ((p : ℕ) → p < length K → get_or K p 0 ≡ k → struck p (layer_of c m raw) ≡ true)
        → Mem k (keys_after K (layer_of c m raw)) → ⊥
    free k adds rows h =
        ⊎_elim (λ a. adds a.0 a.1 a.2 a.3) (λ b. true≢false (sym (rows b.0 b.1 b.2) ∙ b.3))
        ((shown_exactly S k).0 h)

    -- within the room where at most the entries that are there, or one more, are needed
    own_room : (k : ℕ) → k ≤ m → Roomy c (length raw) k
    own_room k h = roomy_less c (length raw) k m h (S.args.entries, S.args.fits)

    one_more : (k : ℕ) → k ≤ suc (length N) → Roomy c (length raw) (suc m) → Roomy c (length raw) k
    one_more k h w = roomy_less c (length raw) k (suc m) (omega (arith, layer_length c m raw)) w

    pub add_rightful : (row : Row) → length row ≡ c → (Mem (key row) (keys_after K (layer_of c m raw)) → ⊥)
        → Roomy c (length raw) (suc m) → rows_after (length K) (layer_of c m raw) < 4096
        → add_answer c m raw K row ≡ Ok (suc m)
    add_rightful row w f r l =
        (add_table c m raw K row).done.1 ((S.args, w), (S.form, (S.ascends, (S.fit, (f, (r, (l, tt)))))))
        ∙ ap Ok (add_length K row N ∙ ap suc (layer_length c m raw))

    module _ (r : ℕ) (h : r < rows_after (length K) (layer_of c m raw)) where
      strikes : Roomy c (length raw) (length (strike_row K r N))
          → strike_answer c m raw K r ≡ Ok (length (strike_row K r N))
      strikes w = (strike_table c m raw K r).done.1 (S.args, (S.form, (S.ascends, (S.fit, (h, (w, tt))))))

      pub strike_rightful : Roomy c (length raw) (suc m)
          → strike_answer c m raw K r ≡ Ok (length (strike_row K r (layer_of c m raw)))
      unfolding strike_row
      strike_rightful w = strikes (one_more _ (struck_le K N (back (length K) N r)) w)

      -- an added row needs no room: its entry goes
      pub strike_added : (i : ℕ) → back (length K) (layer_of c m raw) r ≡ added i → i < m
          → strike_answer c m raw K r ≡ Ok (m - 1)
      unfolding strike_row
      strike_added i e l =
          let n : length (strike_origin K N (back (length K) N r)) ≡ length N - 1 =
          ap (λ (o : Origin). length (strike_origin K N o)) e ∙ without_one i N (omega (arith, layer_length c m raw)) in
          let k : length (strike_origin K N (back (length K) N r)) ≡ m - 1 = omega (arith, layer_length c m raw) in
          strikes (own_room _ (omega arith)) ∙ ap Ok k

      module _ (j v : ℕ) (past : 1 ≤ j) (within : j < c) where
        changes : Roomy c (length raw) (length (change_row_no K r j (to v) N))
            → change_answer c m raw K r j v ≡ Ok (length (change_row_no K r j (to v) N))
        changes w =
            (change_table c m raw K r j v).done.1
            ((S.args, within), (S.form, (S.ascends, (S.fit, (h, (past, (w, tt)))))))

        pub change_rightful : Roomy c (length raw) (suc m)
            → change_answer c m raw K r j v ≡ Ok (length (change_row_no K r j (to v) (layer_of c m raw)))
        unfolding change_row_no
        change_rightful w = changes (one_more _ (changed_le j (to v) N (back (length K) N r)) w)

        -- an added row needs no room: its value is replaced
        pub change_added_lem : (i : ℕ) → back (length K) (layer_of c m raw) r ≡ added i → change_answer c m raw K r j v ≡ Ok m
        unfolding change_row_no
        change_added_lem i e =
            let n : length (change_origin j (to v) N (back (length K) N r)) ≡ m =
            ap (λ (o : Origin). length (change_origin j (to v) N o)) e
            ∙ (change_added_length i j (to v) N ∙ layer_length c m raw) in
            changes (own_room _ (omega arith)) ∙ ap Ok n

-- Combine, where 1 to 4 pass: 9 exactly where the combined layer passes the room.
module _ (c : ℕ) (K : List ℕ) (mR : ℕ) (rawR : List ℕ) (mW : ℕ) (rawW : List ℕ) (S : Sound c mR rawR K)
    (args : ArgsPass c (length K) mW (length rawW)) (form : FormKept c (rows_after (length K) (layer_of c mR rawR)) mW rawW)
    (fit : Fitting (keys_after K (layer_of c mR rawR)) (layer_of c mW rawW) (length (layer_of c mW rawW))) (len : ℕ) where
  own : (k : Cause) (p : ℕ)
      → RefusedBy k p (combine_lines c K mR rawR mW rawW len) ↔ RefusedBy k p (combine_own c K mR rawR mW rawW len)
  own k p =
      let R = layer_of c mR rawR in
      let n = rows_after (length K) R in
      let a = refused_past (both_form_lines (BothArgs c K mR rawR mW rawW) c (length K) mR rawR n mW rawW)
      (both_fit_lines K R (keys_after K R) (layer_of c mW rawW) ++ combine_own c K mR rawR mW rawW len) k p
      ((S.args, args), (S.form, (form, tt))) in
      let b = refused_past (both_fit_lines K R (keys_after K R) (layer_of c mW rawW)) (combine_own c K mR rawR mW rawW len) k p
      (S.ascends, (S.fit, (fit, tt))) in
      (λ x. b.0 (a.0 x), λ x. a.1 (b.1 x))

  pub combine_nine : (combine_answer c K mR rawR mW rawW len ≡ Err (refusal NoRoom 0))
      ↔ (Roomy c len (length (combined_layer c K mR rawR mW rawW)) → ⊥)
  combine_nine =
      let t = (combine_table c K mR rawR mW rawW len).refuses NoRoom 0 in
      (λ e. not_roomy ((own NoRoom 0).0 (t.0 e)), λ f. t.1 ((own NoRoom 0).1 (inl (f, refl, refl))))
    where
      not_roomy : RefusedBy NoRoom 0 (combine_own c K mR rawR mW rawW len)
          → Roomy c len (length (combined_layer c K mR rawR mW rawW)) → ⊥
      not_roomy (inl x) = x.0
      not_roomy (inr x) = λ r. ⊎_elim (λ y. omega (arith, ap cause_number y.1)) (λ y. y.1) x.1
