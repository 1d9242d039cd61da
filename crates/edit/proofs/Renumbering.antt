-- What a renumbering is beside the other calls: a strike and an add in one; what it needs of the room; and there and back again.
-- Assumes nothing.
use Prim.Native.Nat.{ℕ, suc, ◌+◌, ◌*◌, ◌≤◌, ◌<◌}
use native.Mathlib.Omega.{arith}
use mathlib.Core.Path.{◌≡◌, refl, sym, ap, ◌∙◌}
use mathlib.Core.Logic.{inl, inr, ⊎_elim, ◌↔◌}
use mathlib.Core.Bool.{true, false}
use mathlib.Core.List.{List, [], ◌∷◌, ◌++◌, Memᴰ as Mem}
use lib.ListN.{length, get_or}
use lib.Dec.{eqb}
use borrow.Author.Tests.{eqb-false}
use Rattle.words.specs.declared.Origin.{Origin}
use Rattle.words.specs.declared.Origin.TheVariants.{Base as base, Added as added}
use Rattle.words.specs.declared.Cause.{Cause}
use Rattle.words.specs.declared.Cause.TheVariants.{NoSuchRow, KeyShown, NoRoom}
use Rattle.std.specs.Prelude.{Ok, Err}
use Rattle.order.specs.Lists.{any, count, without}
use Rattle.order.proofs.Tests.{or_false}
use Rattle.order.proofs.Members.{insert_mem, mem_insert}
use Rattle.order.proofs.Ascending.{AscFrom, At, mem_at, at_length, at_get_or, at_cast, get_or_at}
use Rattle.order.proofs.Edited.{filter_without}
use Rattle.words.specs.Answer.{cause_number, refusal}
use Rattle.model.specs.Row.{Row, Table, key, keys, with_key}
use Rattle.model.specs.Layer.{Layer, rows_after, changes_row}
use Rattle.model.specs.Raw.{layer_of, room}
use Rattle.model.specs.Read.{read, keys_after}
use Rattle.model.specs.Position.{back}
use Rattle.model.specs.Edits.{add_row, strike_base, strike_origin, strike_row, renumber_row, row_of_key}
use Rattle.model.specs.Redo.{row_before, add_key, strike_key}
use Rattle.model.specs.Steps.{adding, striking, renumbering, Allowed}
use Rattle.model.specs.Calls.{ready_answer, edited}
use Rattle.theory.proofs.Raw.{layer_length}
use Rattle.theory.proofs.Fit.{key_kept, keys_at, keys_length}
use Rattle.theory.proofs.Count.{read_ascends}
use Rattle.theory.proofs.Column.{Wide, keys_read}
use Rattle.theory.proofs.Redo.{strike_mem}
use Rattle.theory.proofs.Edited.{Reads, strike_row_lem, add_length, row_of_key_lem}
use Rattle.theory.proofs.Renumbered.{
  with_key_lem,
  with_key_length,
  own_number as same_layer,
  moved_by,
  renumber_reads,
  renumber_back_added,
  renumber_back_base,
}
use Rattle.theory.proofs.Stages.{never_done}
use Rattle.exact.proofs.Exactly.{Line, line, Pass, RefusedBy, numbers, counts, ArgsPass, Roomy, room_exactly}
use Rattle.exact.proofs.Tables.{form_lines, fit_lines, Elsewhere, renumber_own, ready_table, renumber_over_table}
use Rattle.exact.proofs.Rightful.{Sound, sound_of, strike_sound, sound_good}
use Rattle.exact.proofs.Renumbers.{renumber_over_sound, renumber_allowed, renumber_over_lem}
use Rattle.edit.specs.Runs.{step_answer, step_slice}
use Rattle.edit.proofs.Accepting.{Accepts, accepts}
use Rattle.edit.proofs.Laws.{edit_layer}
use Rattle.edit.proofs.Laid.{left_numbers, edit_length, left_sound, own_numbers, own_slice, over_left}

-- an allowed renumbering whose entries are within the room is done
renumber_done : (c m : ℕ) (raw : List ℕ) (T : Table) (r g : ℕ) → Wide c T → Sound c m raw (keys T)
    → Allowed c (renumbering r g) (read T (layer_of c m raw)) → (k : ℕ)
    → length (renumber_row T r g (layer_of c m raw)) ≡ k → k ≤ room c (length raw)
    → step_answer c m raw T (renumbering r g) ≡ Ok k
renumber_done c m raw T r g wide S a k e f =
    let w = (renumber_allowed c m raw T r g S wide).1 a in
    let M = renumber_row T r g (layer_of c m raw) in
    let own : Pass (renumber_own c (length (keys T)) m raw (keys T) r g M) =
    (w.0, (w.1, ((room_exactly c (length raw) (length M)).0 (omega arith), tt))) in
    (renumber_over_table true (true ≡ true) (λ x. x, λ x. x) c m raw T r g).done.1
    ((S.args, refl), (S.form, (S.ascends, (S.fit, own))))
    ∙ ap Ok e

-- lines that do not have a refusal's number pass, and the others decide
passed_lines : (ls us : List Line) (k : Cause) (p : ℕ) → any (eqb (cause_number k)) (numbers ls) ≡ false → RefusedBy k p (ls ++ us)
    → Pass ls × RefusedBy k p us
passed_lines [] us k p n w = (tt, w)
passed_lines (line l z W ∷ ls) us k p n (inl w) =
    let a = cause_number k in
    let b = cause_number l in
    absurd (eqb-false a b (or_false (eqb a b) (any (eqb a) (numbers ls)) n).0 (ap cause_number w.1))
passed_lines (line l z W ∷ ls) us k p n (inr w) =
    let a = cause_number k in
    let v = passed_lines ls us k p (or_false (eqb a (cause_number l)) (any (eqb a) (numbers ls)) n).1 w.1 in
    ((w.0, v.0), v.1)

-- where a renumbering is refused with 9, all lines before it pass
refused_nine : (c m : ℕ) (raw : List ℕ) (T : Table) (r g : ℕ)
    → step_answer c m raw T (renumbering r g) ≡ Err (refusal NoRoom 0)
    → Sound c m raw (keys T) × (r < rows_after (length (keys T)) (layer_of c m raw))
    × (Elsewhere g r (keys_after (keys T) (layer_of c m raw)) → ⊥)
refused_nine c m raw T r g e =
    let L = layer_of c m raw in
    let K = keys T in
    let own = line NoSuchRow 0 (r < rows_after (length K) L) ∷ line KeyShown 0 (Elsewhere g r (keys_after K L) → ⊥) ∷ [] in
    let w = (passed_lines (form_lines (ArgsPass c (length K) m (length raw) × (true ≡ true)) c (length K) m raw
    ++ (fit_lines K L ++ own)) (line NoRoom 0 (Roomy c (length raw) (length (renumber_row T r g L))) ∷ []) NoRoom 0 refl
    (((renumber_over_table true (true ≡ true) (λ x. x, λ x. x) c m raw T r g).refuses NoRoom 0).0 e)).0 in (
      sound_of c m raw K m w.0.0 w.1.0 w.1.1.0 w.1.1.1.0,
      w.1.1.1.1.0,
      w.1.1.1.1.1.0,
    )

-- A layer over the table T, and what it shows at row number r.
module _ (c m : ℕ) (raw : List ℕ) (T : Table) (r : ℕ) where
  abbrev K : List ℕ
  K = keys T

  abbrev L : Layer
  L = layer_of c m raw

  abbrev q : Row
  q = get_or (read T L) r []

  -- a layer that the check accepts passes 1 to 4, and shows as many rows as it says
  ready_sound : (rows : ℕ) → ready_answer c m raw K ≡ Ok rows → Sound c m raw K × (rows ≡ rows_after (length K) L)
  ready_sound rows h =
      let w = counts (ready_table c m raw K) rows h in
      (sound_of c m raw K rows w.1.0 w.1.1.0 w.1.1.1.0 w.1.1.1.1.0, w.0)

  -- the key shown there is the row's
  shown_key_lem : Sound c m raw K → get_or (keys_after K L) r 0 ≡ key q
  shown_key_lem S =
      ap (λ (N : List ℕ). get_or N r 0) (keys_read T L (key_kept T L (sound_good c m raw T S).fit)) ∙ keys_at (read T L) r

  -- what stands there, by the table's rows or by its keys
  stands : {o : Origin} → back (length T) L r ≡ o → back (length K) L r ≡ o
  stands e = ap (λ (n : ℕ). back n L r) (keys_length T) ∙ e

  -- what striking the row leaves, by what stands there
  struck_by : (o : Origin) → back (length T) L r ≡ o → strike_row K r L ≡ strike_origin K L o
  unfolding strike_row
  struck_by o e = ap (strike_origin K L) (stands e)

  -- its own number is accepted in every layer that the check accepts, full or not
  pub own_accepted : (rows : ℕ) → ready_answer c m raw K ≡ Ok rows → r < rows
      → step_answer c m raw T (renumbering r (key q)) ≡ Ok m
  own_accepted rows h b =
      let w = ready_sound rows h in
      ((renumber_over_lem true c m raw T r (key q) w.0 refl (omega (arith, w.1))).own (shown_key_lem w.0)).0

  -- and leaves the entries and the slice as they are
  pub own_number : (k : ℕ) → Wide c T → step_answer c m raw T (renumbering r (key q)) ≡ Ok k
      → (k ≡ m) × (step_slice c m raw T (renumbering r (key q)) k ≡ raw)
  own_number k wide h =
      let A = accepts c m raw T (renumbering r (key q)) k wide h in
      let e : renumber_row T r (key q) L ≡ L = same_layer T L r (key q) refl in (
        sym A.size ∙ (ap length e ∙ layer_length c m raw),
        ap (λ (N : Layer). edited c m (Ok k) N raw) e ∙ own_slice c m raw T (renumbering r (key q)) k wide h k,
      )

  module _ (g : ℕ) where
    -- The two calls: the row struck, then added with the new number, both accepted.
    module _ (other : key q ≡ g → ⊥) (k₁ k₂ : ℕ) (strikes : step_answer c m raw T (striking r) ≡ Ok k₁)
        (adds : step_answer c k₁ (step_slice c m raw T (striking r) k₁) T (adding (with_key g q)) ≡ Ok k₂) where
      abbrev halfway : List ℕ
      halfway = step_slice c m raw T (striking r) k₁

      first : Accepts c m raw T (striking r) k₁
      first = accepts c m raw T (striking r) k₁ tt strikes

      second : Accepts c k₁ halfway T (adding (with_key g q)) k₂
      second = accepts c k₁ halfway T (adding (with_key g q)) k₂ tt adds

      -- the row is shown
      seen : At q r 0 (read T L)
      seen = get_or_at (read T L) r [] first.allowed

      -- the layer between the two, and the one behind both
      struck : layer_of c k₁ halfway ≡ strike_row K r L
      struck = edit_layer c m raw T (striking r) k₁ tt strikes

      same_left : renumber_row T r g L ≡ add_row K (with_key g q) (layer_of c k₁ halfway)
      same_left = moved_by T L r g q seen other ∙ ap (add_row K (with_key g q)) (sym struck)

      -- the row has c cells, and no other row has the new number
      long : length q ≡ c
      long = sym (with_key_length g q) ∙ second.allowed.0

      some : 1 ≤ c
      some = first.form.held.some

      free : (y : Row) → Mem y (without r (read T L)) → key y ≡ g → ⊥
      free y n e =
          second.allowed.1 y (rw (struck, strike_row_lem c T L first.rising first.good r q seen) n)
          (e ∙ sym (with_key_lem g q (omega (arith, long, some))))

      -- the renumbering is accepted too, and leaves the slice as they do
      pub as_two_calls : Wide c T → (step_answer c m raw T (renumbering r g) ≡ Ok k₂)
          × (step_slice c m raw T (renumbering r g) k₂
          ≡ step_slice c k₁ (step_slice c m raw T (striking r) k₁) T (adding (with_key g q)) k₂)
      as_two_calls wide =
          let N = add_row K (with_key g q) (layer_of c k₁ halfway) in
          let size : length N ≡ k₂ = second.size in
          let numbers = left_numbers c k₁ halfway T (adding (with_key g q)) k₂ tt adds in (
            renumber_done c m raw T r g wide (strike_sound c m raw K k₁ r strikes) (first.allowed, some, long, free) k₂
                (ap length same_left ∙ size)
                (omega (arith, second.room, ap (room c) (edit_length c m raw T (striking r) k₁ tt strikes))),
            ap (λ (X : Layer). edited c m (Ok k₂) X raw) same_left
                ∙ sym (over_left c m raw T (striking r) k₁ tt strikes N k₂ k₂
                (numbers ∙ ap (λ (n : ℕ). n * (c + 2)) (sym size))
                (omega (arith, add_length K (with_key g q) (layer_of c k₁ halfway), layer_length c k₁ halfway))),
          )

    -- An accepted renumbering: its layer passes 1 to 4, shows the row, and shows the number in no other row.
    module _ (k : ℕ) (wide : Wide c T) (h : step_answer c m raw T (renumbering r g) ≡ Ok k) where
      accepted : Accepts c m raw T (renumbering r g) k
      accepted = accepts c m raw T (renumbering r g) k wide h

      old_sound : Sound c m raw K
      old_sound = (renumber_over_sound true c m raw T r g k h).0

      within : (r < rows_after (length K) L) × (Elsewhere g r (keys_after K L) → ⊥)
      within = (renumber_allowed c m raw T r g old_sound wide).1 accepted.allowed

      -- of an added row it leaves as many entries; of a base row that gets another number two more, less that row's changes
      pub renumber_room : ((i : ℕ) → back (length T) L r ≡ added i → k ≡ m)
          × ((s : ℕ) → back (length T) L r ≡ base s → (key q ≡ g → ⊥) → k + count (changes_row s) L ≡ m + 2)
      renumber_room =
          let W = renumber_over_lem true c m raw T r g old_sound refl within.0 in (
            λ i e. let d : Ok k ≡ Ok m = sym h ∙ W.added_row_lem within.1 i (stands e) in cc,
            λ s e other.
                omega (
                  arith,
                  W.base_row s (stands e) (λ f. other (sym (shown_key_lem old_sound) ∙ f)),
                  accepted.size,
                ),
          )

      -- Back to the old number: the slice that is left, the new number's row number there, and the row that it shows.
      abbrev new : List ℕ
      new = step_slice c m raw T (renumbering r g) k

      abbrev r' : ℕ
      r' = row_of_key K (layer_of c k new) g

      abbrev moved : Row
      moved = with_key g q

      -- what is left, and what it reads as
      left : layer_of c k new ≡ renumber_row T r g L
      left = edit_layer c m raw T (renumbering r g) k wide h

      new_key : key moved ≡ g
      new_key = with_key_lem g q (omega (arith, accepted.allowed))

      left_reads : Reads c T (layer_of c k new) (add_key moved (strike_key (key q) (read T L)))
      left_reads =
          let w = accepted.allowed in
          rw left (renumber_reads c T L accepted.rising accepted.good r g w.0 w.1 w.2 w.3)

      left_rises : AscFrom key 0 (read T (layer_of c k new))
      left_rises = read_ascends T (layer_of c k new) accepted.rising left_reads.good.fit

      -- the row stands at its new number's place
      stands_again : At moved r' 0 (read T (layer_of c k new))
      stands_again =
          let w = mem_at 0 (read T (layer_of c k new)) moved
          (rw left_reads.reads (mem_insert row_before moved (strike_key (key q) (read T L)) moved (inl refl))) in
          at_cast (sym (row_of_key_lem T (layer_of c k new) accepted.rising left_reads.good.fit w.0 moved w.1)
          ∙ ap (row_of_key K (layer_of c k new)) new_key) w.1

      -- and no other row has the old number
      old_free : (y : Row) → Mem y (without r' (read T (layer_of c k new))) → key y ≡ key q → ⊥
      old_free y n e =
          let w = strike_mem (key moved) (read T (layer_of c k new)) y
          (rw (filter_without key 0 r' (read T (layer_of c k new)) moved left_rises stands_again) n) in
          ⊎_elim (λ f. w.1 (ap key f)) (λ o. (strike_mem (key q) (read T L) y o).1 e)
          (insert_mem row_before moved (strike_key (key q) (read T L)) y (rw left_reads.reads at w.0))

      back_allowed : Allowed c (renumbering r' (key q)) (read T (layer_of c k new))
      back_allowed =
          let w = accepted.allowed in (
            omega (arith, at_length stands_again),
            w.1,
            ap length (at_get_or [] stands_again) ∙ (with_key_length g q ∙ w.2),
            old_free,
          )

      -- so it is accepted, if it needs no more entries
      back_done : (j : ℕ) → length (renumber_row T r' (key q) (layer_of c k new)) ≡ j → j ≤ k
          → step_answer c k new T (renumbering r' (key q)) ≡ Ok j
      back_done j e f =
          renumber_done c k new T r' (key q) wide (left_sound c m raw T (renumbering r g) k wide h) back_allowed j e
          (omega (arith, accepted.room, ap (room c) (edit_length c m raw T (renumbering r g) k wide h)))

      module _ (other : key q ≡ g → ⊥) where
        -- the layer that going back leaves, by what the renumbered layer is
        back_layer : (N : Layer) → renumber_row T (row_of_key K (renumber_row T r g L) g) (key q) (renumber_row T r g L) ≡ N
            → renumber_row T r' (key q) (layer_of c k new) ≡ N
        back_layer N e = ap (λ (X : Layer). renumber_row T (row_of_key K X g) (key q) X) left ∙ e

        -- an added row: as many entries, and the slice, as there were at first
        pub back_again_added : (i : ℕ) → back (length T) L r ≡ added i
            → (step_answer c k new T (renumbering r' (key q)) ≡ Ok m) × (k ≡ m)
            × (step_slice c k new T (renumbering r' (key q)) m ≡ raw)
        back_again_added i o =
            let w = accepted.allowed in
            let e : k ≡ m = renumber_room.0 i o in
            let b : renumber_row T r' (key q) (layer_of c k new) ≡ L =
            back_layer L (renumber_back_added c T L accepted.rising accepted.good r g w.0 w.1 w.2 w.3
            (λ f. other (sym f)) i o) in
            let y = renumbering r g in (
              back_done m (ap length b ∙ layer_length c m raw) (omega arith),
              e,
              ap (λ (N : Layer). edited c k (Ok m) N new) b
                  ∙ (over_left c m raw T y k wide h L m m (own_numbers c m raw T y k wide h)
                  (omega (arith, layer_length c m raw))
                  ∙ own_slice c m raw T y k wide h m),
            )

        -- a base row: struck, and added with its own number; as many entries as the first renumbering left
        pub back_again_base : (s : ℕ) → back (length T) L r ≡ base s
            → (step_answer c k new T (renumbering r' (key q)) ≡ Ok k)
            × (layer_of c k (step_slice c k new T (renumbering r' (key q)) k) ≡ add_row K q (strike_base K s L))
        back_again_base s o =
            let w = accepted.allowed in
            let b : renumber_row T r' (key q) (layer_of c k new) ≡ add_row K q (strike_base K s L) =
            back_layer (add_row K q (strike_base K s L))
            (renumber_back_base c T L accepted.rising accepted.good r g w.0 w.1 w.2 w.3
            (λ f. other (sym f)) s o) in
            let n : length (renumber_row T r' (key q) (layer_of c k new)) ≡ k =
            omega (
              arith,
              ap length b,
              add_length K q (strike_base K s L),
              ap length (moved_by T L r g q (get_or_at (read T L) r [] w.0) other),
              add_length K moved (strike_row K r L),
              ap length (struck_by (base s) o),
              accepted.size,
            ) in
            let a : step_answer c k new T (renumbering r' (key q)) ≡ Ok k = back_done k n (omega arith) in
            (a, edit_layer c k new T (renumbering r' (key q)) k wide a ∙ b)

    -- Refusal 9: an added row's renumbering never meets it.
    pub added_never_nine : (i : ℕ) → back (length T) L r ≡ added i
        → step_answer c m raw T (renumbering r g) ≡ Err (refusal NoRoom 0) → ⊥
    added_never_nine i o e =
        let w = refused_nine c m raw T r g e in
        never_done (sym e ∙ (renumber_over_lem true c m raw T r g w.0 refl w.1).added_row_lem w.2 i (stands o))

    -- A base row that may get another number meets it exactly where two more entries, less its changes, pass the room.
    module _ (rows : ℕ) (ready : ready_answer c m raw K ≡ Ok rows) (wide : Wide c T)
        (may : Allowed c (renumbering r g) (read T L)) (other : key q ≡ g → ⊥) (s : ℕ) (o : back (length T) L r ≡ base s) where
      pub base_nine : (step_answer c m raw T (renumbering r g) ≡ Err (refusal NoRoom 0))
          ↔ (room c (length raw) + count (changes_row s) L < m + 2)
      base_nine =
          let S = (ready_sound rows ready).0 in
          let w = (renumber_allowed c m raw T r g S wide).1 may in
          let W = renumber_over_lem true c m raw T r g S refl w.0 in
          let N = renumber_row T r g L in
          let n : length N + count (changes_row s) L ≡ suc (suc m) =
          W.base_row s (stands o) (λ f. other (sym (shown_key_lem S) ∙ f)) in
          let x = room_exactly c (length raw) (length N) in (
            λ e.
                let past : length N ≤ room c (length raw) → ⊥ = λ b. (W.nine w.1).0 e (x.0 b) in
                omega arith,
            λ b. (W.nine w.1).1 (λ f. let d : length N ≤ room c (length raw) = x.1 f in omega arith),
          )

      -- in a full layer exactly where it has fewer than two changes
      pub full_base_nine : room c (length raw) ≡ m
          → (step_answer c m raw T (renumbering r g) ≡ Err (refusal NoRoom 0)) ↔ (count (changes_row s) L < 2)
      full_base_nine f = (λ e. omega (arith, base_nine.0 e), λ b. base_nine.1 (omega arith))
