-- The refusal table of the scope, call by call, in literal numbers: its lines in order, and that the call answers
-- exactly by them.
-- Assumes nothing.
use Prim.Native.Nat.{ℕ, zero, suc, ◌+◌, ◌-◌, ◌*◌, ◌≤◌, ◌<◌}
use native.Mathlib.Nat.{zero-add, mul-le-mul_right}
use native.Mathlib.Omega.{arith}
use mathlib.Core.Path.{◌≡◌, refl, sym, ap, ◌∙◌}
use mathlib.Core.Logic.{◌⊎◌, inl, inr, ⊎_elim, ◌↔◌}
use mathlib.Core.Bool.{Bool, true, false, not, ◌&&◌, true≢false}
use mathlib.Core.List.Memᴰ.{head as here}
use mathlib.Core.List.Memᴰ.{not-nil}
use mathlib.Core.List.Memᴰ.{tail as next}
use mathlib.Core.List.{
  List,
  [],
  ◌∷◌,
  ◌++◌,
  Memᴰ as Mem,
}
use lib.ListN.{length, get_or, take}
use lib.Dec.{leb, ltb, eqb}
use borrow.Author.Tests.{
  ltb-true,
  ltb-false,
  leb-true,
  leb-false,
  eqb-true,
  eqb-false,
  lt-ltb,
  le-ltb,
  le-leb,
  lt-leb,
  eq-eqb,
  ne_eqb,
  not-false,
}
use Rattle.words.specs.declared.Origin.{Origin}
use Rattle.words.specs.declared.Origin.TheVariants.{Base as base, Added as added}
use Rattle.words.specs.declared.Cause.TheVariants.{BadArguments, BadForm, KeysUnordered, BadFit, NoSuchRow, KeyColumn, KeyShown, InConflict, NoRoom, TooManyRows, ShortBuffer}
use Rattle.std.specs.Prelude.{Ok, Err}
use Rattle.order.specs.Lists.{ascending, any, without}
use Rattle.order.proofs.Tests.{impossible, and_l, and_r, and_of, not_passed}
use Rattle.order.proofs.Members.{any_mem, any_of}
use Rattle.order.proofs.Counts.{count_insert}
use Rattle.order.proofs.Pairs.{broken_le}
use Rattle.order.proofs.Ascending.{mem_at, at_mem, at_length, at_get_or, get_or_at}
use Rattle.words.specs.declared.Cause.{Cause}
use Rattle.words.specs.declared.Refusal.{Refusal}
use Rattle.model.specs.Row.{Row, Table, key, keys, columnwise}
use Rattle.model.specs.Layer.{add, at, Layer, is_add, is_strike, rows_after}
use Rattle.model.specs.Raw.{entries_of, layer_of, room}
use Rattle.model.specs.Form.{args_ok, form_place}
use Rattle.model.specs.Fit.{suits, rises, fit_place, keys_below}
use Rattle.model.specs.Read.{keys_after}
use Rattle.model.specs.Position.{shift, row_of, back}
use Rattle.model.specs.Edits.{before, add_row, renumber_row}
use Rattle.model.specs.Conflict.{conflict_place}
use Rattle.model.specs.Demand.{Conflicting}
use Rattle.model.specs.Refusals.{Test, refuse, bad_row, no_room, breaks_form, shown_key}
use Rattle.words.specs.Answer.{cause_number, refusal}
use Rattle.model.specs.Calls.{
  form_rows,
  fit_rows,
  both_form_rows,
  both_fit_rows,
  form_answer,
  ready_answer,
  fit_answer,
  shown_column,
  read_answer,
  shift_answer,
  row_answer,
  back_answer,
  added_layer,
  add_answer,
  struck_layer,
  strike_answer,
  changed_layer,
  change_answer,
  renumber_over,
  renumbered_layer,
  renumber_answer,
  combined_layer,
  combine_answer,
  move_answer,
}
use Rattle.theory.proofs.Raw.{layer_length, form_place_lem}
use Rattle.theory.proofs.Fit.{keys_length}
use Rattle.theory.proofs.Columnwise.{columnwise_length, columnwise_keys}
use Rattle.theory.proofs.Position.{rows_counted}
use Rattle.theory.proofs.Edited.{add_length}
use Rattle.exact.proofs.FormExactly.{FormKept, form_exactly, kept_in_order}
use Rattle.exact.proofs.FitExactly.{Ascends, keys_exactly, Fitting, fit_exactly, conflict_exactly}
use Rattle.exact.proofs.Exactly.{
  Line,
  line,
  RefusedBy,
  Says,
  none,
  step,
  says_then,
  numbers,
  placed_only248,
  never_fall,
  Exactly,
  exactly,
  exactly_counts,
  ArgsPass,
  args_exactly,
  Roomy,
  room_exactly,
}

-- what passes a test on numbers
not_below : (a b : ℕ) → (ltb a b ≡ false) ↔ (b ≤ a)
not_below a b = (ltb-false a b, le-ltb a b)

not_upto : (a b : ℕ) → (leb a b ≡ false) ↔ (b < a)
not_upto a b = (leb-false a b, lt-leb a b)

not_not : (t : Bool) (W : Type 0) → ((t ≡ true) ↔ W) → (not t ≡ false) ↔ W
not_not t W f = (λ h. f.0 (not-false t h), λ w. ap not (f.1 w))

both : (a b : Bool) (U W : Type 0) → ((a ≡ true) ↔ U) → ((b ≡ true) ↔ W) → (a && b ≡ true) ↔ (U × W)
both a b U W f g = (λ h. (f.0 (and_l a b h), g.0 (and_r a b h)), λ w. and_of a b (f.1 w.0) (g.1 w.1))

in_room : (c len : ℕ) (k l : ℕ) → k ≡ l → (ltb (room c len) k ≡ false) ↔ Roomy c len l
in_room c len k l e =
    let w = room_exactly c len l in
    (λ h. w.0 (omega (arith, ltb-false (room c len) k h)), λ r. le-ltb (room c len) k (omega (arith, w.1 r)))

not_shown : (k : ℕ) (K : List ℕ) → (shown_key k K ≡ false) ↔ (Mem k K → ⊥)
not_shown k K = (
  λ h m. true≢false (sym (any_of (eqb k) K k m (eq-eqb k k refl)) ∙ h),
  λ f. not_passed (any (eqb k) K) (λ h. let w = any_mem (eqb k) K h in f (rw (eqb-true k w.0 w.2) w.1)),
)

-- a key of the list stands in another row than r
abbrev pub Elsewhere : ℕ → ℕ → List ℕ → Type 0
Elsewhere g r xs = (i : ℕ) × (i < length xs) × (i ≡ r → ⊥) × (get_or xs i 0 ≡ g)

pub elsewhere_of : (r : ℕ) (xs : List ℕ) (g : ℕ) → Mem g (without r xs) → Elsewhere g r xs
elsewhere_of r [] g m = absurd (not-nil m)
elsewhere_of zero (x ∷ xs) g m =
    let w = mem_at 0 xs g m in (suc w.0, omega (arith, at_length w.1), λ e. omega arith, at_get_or 0 w.1)
elsewhere_of (suc r) (x ∷ xs) g (here e) = (0, omega arith, λ f. omega arith, sym e)
elsewhere_of (suc r) (x ∷ xs) g (next m) =
    let w = elsewhere_of r xs g m in (suc w.0, omega (arith, w.1), λ e. w.2 (omega arith), w.3)

pub of_elsewhere : (r : ℕ) (xs : List ℕ) (i : ℕ) → i < length xs → (i ≡ r → ⊥) → Mem (get_or xs i 0) (without r xs)
of_elsewhere r [] i h ne = absurd (omega arith)
of_elsewhere zero (x ∷ xs) zero h ne = absurd (ne refl)
of_elsewhere zero (x ∷ xs) (suc i) h ne = at_mem (get_or_at xs i 0 (omega arith))
of_elsewhere (suc r) (x ∷ xs) zero h ne = here refl
of_elsewhere (suc r) (x ∷ xs) (suc i) h ne = next (of_elsewhere r xs i (omega arith) (λ e. ne (ap suc e)))

pub not_elsewhere : (g r : ℕ) (xs : List ℕ) → (shown_key g (without r xs) ≡ false) ↔ (Elsewhere g r xs → ⊥)
not_elsewhere g r xs =
    let w = not_shown g (without r xs) in (
      λ h e. w.0 h (rw (← e.3) (of_elsewhere r xs e.0 e.1 e.2)),
      λ f. w.1 (λ m. f (elsewhere_of r xs g m)),
    )

-- 1 and 2 of a layer over n rows, where Own passes the arguments; 3 and 4
abbrev pub form_lines : Type 0 → ℕ → ℕ → ℕ → List ℕ → List Line
form_lines Own c n m raw = line BadArguments 0 Own ∷ line BadForm (form_place c n (entries_of c m raw)) (FormKept c n m raw) ∷ []

abbrev pub fit_lines : List ℕ → Layer → List Line
fit_lines K L = line KeysUnordered 0 (Ascends K) ∷ line BadFit (fit_place K L) (Fitting K L (length L)) ∷ []

-- the same of two layers: the place of the second is 1,000 more
abbrev pub both_form_lines : Type 0 → ℕ → ℕ → ℕ → List ℕ → ℕ → ℕ → List ℕ → List Line
both_form_lines Own c n m raw p k other =
    line BadArguments 0 Own
    ∷ line BadForm (form_place c n (entries_of c m raw)) (FormKept c n m raw)
    ∷ line BadForm (1000 + form_place c p (entries_of c k other)) (FormKept c p k other)
    ∷ []

abbrev pub both_fit_lines : List ℕ → Layer → List ℕ → Layer → List Line
both_fit_lines K L N M =
    line KeysUnordered 0 (Ascends K)
    ∷ line BadFit (fit_place K L) (Fitting K L (length L))
    ∷ line BadFit (1000 + fit_place N M) (Fitting N M (length M))
    ∷ []

-- then those of one call alone
abbrev pub both_lines : Type 0 → ℕ → ℕ → ℕ → List ℕ → ℕ → ℕ → List ℕ → List ℕ → List ℕ → List Line → List Line
both_lines Own c n m raw p k other K N own =
    both_form_lines Own c n m raw p k other ++ (both_fit_lines K (layer_of c m raw) N (layer_of c k other) ++ own)

form_line : (Own : Type 0) (c n m : ℕ) (raw : List ℕ) → (Own → ArgsPass c n m (length raw))
    → Own → (breaks_form c n m raw ≡ false) ↔ FormKept c n m raw
form_line Own c n m raw args w = form_exactly c n m raw (args w).columns (args w).fits

says_form : (ok : Bool) (Own : Type 0) → ((ok ≡ true) ↔ Own) → (c n m : ℕ) (raw : List ℕ)
    → (Own → ArgsPass c n m (length raw)) → Says (form_rows ok c n m raw) (form_lines Own c n m raw)
says_form ok Own f c n m raw args =
    step refl (not_not ok Own f) (λ w.
    step (zero-add (form_place c n (entries_of c m raw))) (form_line Own c n m raw args w) (λ v. none))

says_fit : (K : List ℕ) (L : Layer) → Says (fit_rows K L) (fit_lines K L)
says_fit K L =
    step refl (not_not (ascending K) (Ascends K) (keys_exactly K)) (λ w.
    step (zero-add (fit_place K L)) (fit_exactly K L) (λ v. none))

says_both_form : (ok : Bool) (Own : Type 0) → ((ok ≡ true) ↔ Own) → (c n m : ℕ) (raw : List ℕ) (p k : ℕ) (other : List ℕ)
    → (Own → ArgsPass c n m (length raw)) → (l : ℕ) → (Own → ArgsPass c l k (length other))
    → Says (both_form_rows ok c n m raw p k other) (both_form_lines Own c n m raw p k other)
says_both_form ok Own f c n m raw p k other args l args' =
    step refl (not_not ok Own f) (λ w.
    step (zero-add (form_place c n (entries_of c m raw))) (form_line Own c n m raw args w) (λ v.
    step refl (form_exactly c p k other (args' w).columns (args' w).fits) (λ u. none)))

says_both_fit : (K : List ℕ) (L : Layer) (N : List ℕ) (M : Layer) → Says (both_fit_rows K L N M) (both_fit_lines K L N M)
says_both_fit K L N M =
    step refl (not_not (ascending K) (Ascends K) (keys_exactly K)) (λ w.
    step (zero-add (fit_place K L)) (fit_exactly K L) (λ v.
    step refl (fit_exactly N M) (λ u. none)))

-- the arguments of a call, and one of its own besides
own_pass : (c n m len : ℕ) (own : Bool) (Own : Type 0) → ((own ≡ true) ↔ Own)
    → (args_ok c n m len && own ≡ true) ↔ (ArgsPass c n m len × Own)
own_pass c n m len own Own f = both (args_ok c n m len) own (ArgsPass c n m len) Own (args_exactly c n m len) f

-- The check of form, of form and fit; shift, row number and back.
module _ (c n m : ℕ) (raw : List ℕ) where
  abbrev pub check_lines : List Line
  check_lines = form_lines (ArgsPass c n m (length raw)) c n m raw

  says_check : Says (form_rows (args_ok c n m (length raw)) c n m raw) check_lines
  says_check = says_form (args_ok c n m (length raw)) _ (args_exactly c n m (length raw)) c n m raw (λ w. w)

  pub form_table : Exactly Err (form_answer c n m raw) (Ok (rows_after n (layer_of c m raw))) check_lines
  unfolding form_answer
  form_table = exactly_counts _ says_check

  -- a shift asked past n is refused with 1
  abbrev pub place_lines : ℕ → List Line
  place_lines s = form_lines (ArgsPass c n m (length raw) × (s ≤ n)) c n m raw

  says_place : (s : ℕ) → Says (form_rows (args_ok c n m (length raw) && leb s n) c n m raw) (place_lines s)
  says_place s =
      says_form (args_ok c n m (length raw) && leb s n) _
      (own_pass c n m (length raw) (leb s n) (s ≤ n) (leb-true s n, le-leb s n)) c n m raw (λ w. w.0)

  pub shift_table : (s : ℕ)
      → Exactly Err (shift_answer c n m raw s) (Ok (shift (layer_of c m raw) s)) (place_lines s)
  unfolding shift_answer
  shift_table s = exactly Err _ (λ x e. impossible (cc)) (λ x y e. cc) (says_place s)

  pub row_table : (s : ℕ) → Exactly Err (row_answer c n m raw s) (Ok (row_of (layer_of c m raw) s)) (place_lines s)
  unfolding row_answer
  row_table s = exactly_counts _ (says_place s)

  abbrev pub back_lines : ℕ → List Line
  back_lines r = check_lines ++ (line NoSuchRow 0 (r < rows_after n (layer_of c m raw)) ∷ [])

  pub back_table : (r : ℕ)
      → Exactly Err (back_answer c n m raw r) (Ok (back n (layer_of c m raw) r)) (back_lines r)
  unfolding back_answer
  back_table r =
      exactly Err _ (λ x e. impossible (cc)) (λ x y e. cc)
      (says_then says_check (λ w. step refl (not_upto (rows_after n (layer_of c m raw)) r) (λ v. none)))

-- Reading column j into a buffer of len numbers.
module _ (c m : ℕ) (raw xs : List ℕ) (j len : ℕ) where
  abbrev pub read_lines : List Line
  read_lines =
      form_lines (ArgsPass c (length xs) m (length raw) × (j < c)) c (length xs) m raw
      ++ (line ShortBuffer 0 (length (shown_column c m raw xs j) ≤ len) ∷ [])

  pub read_table : Exactly Err (read_answer c m raw xs j len) (Ok (length (shown_column c m raw xs j))) read_lines
  unfolding read_answer
  read_table =
      exactly_counts _
      (says_then (says_form (args_ok c (length xs) m (length raw) && ltb j c) _
      (own_pass c (length xs) m (length raw) (ltb j c) (j < c) (ltb-true j c, lt-ltb j c)) c (length xs) m raw (λ w. w.0))
      (λ w. step refl (not_below len (length (shown_column c m raw xs j))) (λ v. none)))

-- Fit, and the edits, over the key column K.
module _ (c m : ℕ) (raw K : List ℕ) where
  abbrev pub ready_lines : List Line
  ready_lines = check_lines c (length K) m raw ++ fit_lines K (layer_of c m raw)

  says_ready : Says (form_rows (args_ok c (length K) m (length raw)) c (length K) m raw ++ fit_rows K (layer_of c m raw))
      ready_lines
  says_ready = says_then (says_check c (length K) m raw) (λ w. says_fit K (layer_of c m raw))

  pub ready_table : Exactly Err (ready_answer c m raw K) (Ok (rows_after (length K) (layer_of c m raw))) ready_lines
  unfolding ready_answer
  ready_table = exactly_counts _ says_ready

  pub fit_table : Exactly Err (fit_answer c m raw K) (Ok 0) ready_lines
  unfolding fit_answer
  fit_table = exactly_counts _ says_ready

  -- a call whose own argument passes where Own says, and whose own lines come last
  abbrev pub edit_lines : Type 0 → List Line → List Line
  edit_lines Own own =
      form_lines (ArgsPass c (length K) m (length raw) × Own) c (length K) m raw ++ (fit_lines K (layer_of c m raw) ++ own)

  says_edit : (t : Bool) (Own : Type 0) → ((t ≡ true) ↔ Own) → (us : List Test) (own : List Line)
      → (Own → FormKept c (length K) m raw → ArgsPass c (length K) m (length raw) → Says us own)
      → Says (form_rows (args_ok c (length K) m (length raw) && t) c (length K) m raw ++ (fit_rows K (layer_of c m raw) ++ us))
      (edit_lines Own own)
  says_edit t Own f us own s =
      says_then (says_form (args_ok c (length K) m (length raw) && t) _
      (own_pass c (length K) m (length raw) t Own f) c (length K) m raw (λ w. w.0))
      (λ w. says_then (says_fit K (layer_of c m raw)) (λ v. s w.0.1 w.1.0 w.0.0))

  -- add: m + 1 entries are within the room, and one row more is at most 4,096
  module _ (row : Row) where
    abbrev pub add_lines : List Line
    add_lines = edit_lines (length row ≡ c) (
        line KeyShown 0 (Mem (key row) (keys_after K (layer_of c m raw)) → ⊥)
        ∷ line NoRoom 0 (Roomy c (length raw) (suc m))
        ∷ line TooManyRows 0 (rows_after (length K) (layer_of c m raw) < 4096)
        ∷ [])

    one_more : FormKept c (length K) m raw → ArgsPass c (length K) m (length raw)
        → rows_after (length K) (add_row K row (layer_of c m raw)) ≡ suc (rows_after (length K) (layer_of c m raw))
    unfolding add_row
    one_more kept args =
        let L = layer_of c m raw in
        let order = kept_in_order c (length K) m raw args.columns args.fits kept in
        omega (
          arith,
          count_insert is_add before (at (keys_below (key row) K) (add row)) L,
          count_insert is_strike before (at (keys_below (key row) K) (add row)) L,
          (rows_counted c (length K) L order).1,
        )

    few_rows : FormKept c (length K) m raw → ArgsPass c (length K) m (length raw)
        → (ltb 4096 (rows_after (length K) (add_row K row (layer_of c m raw))) ≡ false)
        ↔ (rows_after (length K) (layer_of c m raw) < 4096)
    few_rows kept args = (
      λ h. omega (arith, one_more kept args, ltb-false 4096 (rows_after (length K) (add_row K row (layer_of c m raw))) h),
      λ h. le-ltb 4096 (rows_after (length K) (add_row K row (layer_of c m raw))) (omega (arith, one_more kept args)),
    )

    pub add_table : Exactly Err (add_answer c m raw K row) (Ok (length (added_layer c m raw K row))) add_lines
    unfolding add_answer
    add_table =
        exactly_counts _
        (says_edit (eqb (length row) c) (length row ≡ c) (eqb-true (length row) c, eq-eqb (length row) c) _ _
        (λ own kept args.
        step refl (not_shown (key row) (keys_after K (layer_of c m raw))) (λ v.
        step refl (in_room c (length raw) (length (add_row K row (layer_of c m raw))) (suc m)
        (add_length K row (layer_of c m raw) ∙ ap suc (layer_length c m raw))) (λ u.
        step refl (few_rows kept args) (λ t. none)))))

  -- change column j of row number r to v
  module _ (r j v : ℕ) where
    abbrev pub change_lines : List Line
    change_lines = edit_lines (j < c) (
        line NoSuchRow 0 (r < rows_after (length K) (layer_of c m raw))
        ∷ line KeyColumn 0 (1 ≤ j)
        ∷ line NoRoom 0 (Roomy c (length raw) (length (changed_layer c m raw K r j v)))
        ∷ [])

    past_key : (eqb j 0 ≡ false) ↔ (1 ≤ j)
    past_key = (λ h. omega (arith, eqb-false j 0 h), λ h. ne_eqb j 0 (λ e. omega arith))

    pub change_table : Exactly Err (change_answer c m raw K r j v) (Ok (length (changed_layer c m raw K r j v)))
        change_lines
    unfolding change_answer
    change_table =
        exactly_counts _
        (says_edit (ltb j c) (j < c) (ltb-true j c, lt-ltb j c) _ _ (λ own kept args.
        step refl (not_upto (rows_after (length K) (layer_of c m raw)) r) (λ w.
        step refl past_key (λ u.
        step refl (in_room c (length raw) (length (changed_layer c m raw K r j v)) _ refl) (λ t. none)))))

  -- strike row number r
  module _ (r : ℕ) where
    abbrev pub strike_lines : List Line
    strike_lines =
        check_lines c (length K) m raw ++ (fit_lines K (layer_of c m raw) ++ (
        line NoSuchRow 0 (r < rows_after (length K) (layer_of c m raw))
        ∷ line NoRoom 0 (Roomy c (length raw) (length (struck_layer c m raw K r)))
        ∷ []))

    pub strike_table : Exactly Err (strike_answer c m raw K r) (Ok (length (struck_layer c m raw K r))) strike_lines
    unfolding strike_answer
    strike_table =
        exactly_counts _
        (says_then (says_check c (length K) m raw) (λ w. says_then (says_fit K (layer_of c m raw)) (λ v.
        step refl (not_upto (rows_after (length K) (layer_of c m raw)) r) (λ u.
        step refl (in_room c (length raw) (length (struck_layer c m raw K r)) _ refl) (λ t. none)))))

-- Renumbering row number r to g, over a table of n rows with the keys K, where Own passes: 7 where g is shown in another row
-- than r, 9 by the entries of the layer M that is left.
module _ (c n m : ℕ) (raw K : List ℕ) (r g : ℕ) where
  abbrev pub renumber_own : Layer → List Line
  renumber_own M =
      line NoSuchRow 0 (r < rows_after n (layer_of c m raw))
      ∷ line KeyShown 0 (Elsewhere g r (keys_after K (layer_of c m raw)) → ⊥)
      ∷ line NoRoom 0 (Roomy c (length raw) (length M))
      ∷ []

  abbrev pub renumber_lines : Type 0 → Layer → List Line
  renumber_lines Own M =
      form_lines (ArgsPass c n m (length raw) × Own) c n m raw ++ (fit_lines K (layer_of c m raw) ++ renumber_own M)

  says_renumber : (ok : Bool) (Own : Type 0) → ((ok ≡ true) ↔ Own) → (M : Layer) (N : List ℕ) (p : ℕ) → p ≡ n
      → (1 ≤ c → Own → N ≡ K)
      → Says (form_rows (args_ok c p m (length raw) && ok) c p m raw
      ++ (fit_rows N (layer_of c m raw)
      ++ (bad_row p (layer_of c m raw) r ∷ refuse KeyShown 0 (shown_key g (without r (keys_after N (layer_of c m raw))))
      ∷ no_room c (length raw) M ∷ []))) (renumber_lines Own M)
  says_renumber ok Own f M N p e same =
      let L = layer_of c m raw in
      rw e (says_then (says_form (args_ok c n m (length raw) && ok) _ (own_pass c n m (length raw) ok Own f) c n m raw (λ w. w.0))
      (λ w. rw (same w.0.0.some w.0.1) (says_then (says_fit K L) (λ v.
      step refl (not_upto (rows_after n L) r) (λ u.
      step refl (not_elsewhere g r (keys_after K L)) (λ t.
      step refl (in_room c (length raw) (length M) _ refl) (λ z. none)))))))

pub renumber_over_table : (ok : Bool) (Own : Type 0) → ((ok ≡ true) ↔ Own) → (c m : ℕ) (raw : List ℕ) (T : Table) (r g : ℕ)
    → Exactly Err (renumber_over ok c m raw T r g) (Ok (length (renumber_row T r g (layer_of c m raw))))
    (renumber_lines c (length (keys T)) m raw (keys T) r g Own (renumber_row T r g (layer_of c m raw)))
unfolding renumber_over
renumber_over_table ok Own f c m raw T r g =
    exactly_counts _
    (says_renumber c (length (keys T)) m raw (keys T) r g ok Own f (renumber_row T r g (layer_of c m raw)) (keys T)
    (length (keys T)) refl (λ s w. refl))

-- the table lent as one slice: its keys are the first n numbers, and fewer than c·n of them are refused with 1
module _ (c n m : ℕ) (raw table : List ℕ) (r g : ℕ) where
  abbrev pub renumber_call_lines : List Line
  renumber_call_lines =
      renumber_lines c n m raw (take n table) r g (c * n ≤ length table) (renumbered_layer c n m raw table r g)

  pub renumber_table : Exactly Err (renumber_answer c n m raw table r g)
      (Ok (length (renumbered_layer c n m raw table r g))) renumber_call_lines
  unfolding renumber_over
  renumber_table =
      let T = columnwise c n n table in
      exactly_counts _
      (says_renumber c n m raw (take n table) r g (leb (c * n) (length table)) (c * n ≤ length table)
      (leb-true (c * n) (length table), le-leb (c * n) (length table)) (renumbered_layer c n m raw table r g) (keys T)
      (length (keys T)) (keys_length T ∙ columnwise_length c n n table)
      (λ s w. columnwise_keys c n n table s (omega (arith, mul-le-mul_right {m = 1} n s))))

-- Combining R and W over the key column K, into a buffer of len numbers.
module _ (c : ℕ) (K : List ℕ) (mR : ℕ) (rawR : List ℕ) (mW : ℕ) (rawW : List ℕ) where
  abbrev pub BothArgs : Type 0
  BothArgs = ArgsPass c (length K) mR (length rawR) × ArgsPass c (length K) mW (length rawW)

  both_args_lem : (args_ok c (length K) mR (length rawR) && args_ok c (length K) mW (length rawW) ≡ true) ↔ BothArgs
  both_args_lem =
      both (args_ok c (length K) mR (length rawR)) (args_ok c (length K) mW (length rawW)) _ _
      (args_exactly c (length K) mR (length rawR)) (args_exactly c (length K) mW (length rawW))

  module _ (len : ℕ) where
    abbrev pub combine_own : List Line
    combine_own =
        line NoRoom 0 (Roomy c len (length (combined_layer c K mR rawR mW rawW)))
        ∷ line TooManyRows 0 (rows_after (length K) (combined_layer c K mR rawR mW rawW) ≤ 4096)
        ∷ []

    abbrev pub combine_lines : List Line
    combine_lines =
        both_lines BothArgs c (length K) mR rawR (rows_after (length K) (layer_of c mR rawR)) mW rawW K
        (keys_after K (layer_of c mR rawR)) combine_own

    pub combine_table : Exactly Err (combine_answer c K mR rawR mW rawW len)
        (Ok (length (combined_layer c K mR rawR mW rawW))) combine_lines
    unfolding combine_answer
    combine_table =
        exactly_counts _
        (says_then (says_both_form _ BothArgs both_args_lem c (length K) mR rawR _ mW rawW (λ w. w.0) (length K) (λ w. w.1))
        (λ w. says_then (says_both_fit K (layer_of c mR rawR) (keys_after K (layer_of c mR rawR)) (layer_of c mW rawW)) (λ v.
        step refl (in_room c len (length (combined_layer c K mR rawR mW rawW)) _ refl) (λ u.
        step refl (not_below 4096 (rows_after (length K) (combined_layer c K mR rawR mW rawW))) (λ t. none)))))

  -- moving the first, X, past the second, Y
  abbrev pub move_own : List Line
  move_own =
      line InConflict (conflict_place (layer_of c mR rawR) (layer_of c mW rawW))
      (Conflicting (layer_of c mR rawR) (layer_of c mW rawW) → ⊥)
      ∷ line TooManyRows 0 (rows_after (rows_after (length K) (layer_of c mW rawW)) (layer_of c mR rawR) ≤ 4096)
      ∷ []

  abbrev pub move_lines : List Line
  move_lines = both_lines BothArgs c (length K) mR rawR (length K) mW rawW K K move_own

  pub move_table : Exactly Err (move_answer c K mR rawR mW rawW) (Ok mR) move_lines
  unfolding move_answer
  move_table =
      exactly_counts _
      (says_then (says_both_form _ BothArgs both_args_lem c (length K) mR rawR _ mW rawW (λ w. w.0) (length K) (λ w. w.1))
      (λ w. says_then (says_both_fit K (layer_of c mR rawR) K (layer_of c mW rawW)) (λ v.
      step refl (conflict_exactly (layer_of c mR rawR) (layer_of c mW rawW)) (λ u.
      step refl (not_below 4096 (rows_after (rows_after (length K) (layer_of c mW rawW)) (layer_of c mR rawR))) (λ t. none)))))

-- The numbers of each call, in order: they never fall, and only 2, 4 and 8 have a place.
abbrev pub Numbered : List Line → List ℕ → Type 0
Numbered ls ks = (numbers ls ≡ ks) × (never_fall ks ≡ true) × (placed_only248 ls ≡ true)

module _ (c n m : ℕ) (raw : List ℕ) where
  pub check_numbers : Numbered (check_lines c n m raw) (1 ∷ 2 ∷ [])
  check_numbers = (refl, refl, refl)

  pub place_numbers : (s : ℕ) → Numbered (place_lines c n m raw s) (1 ∷ 2 ∷ [])
  place_numbers s = (refl, refl, refl)

  pub back_numbers : (r : ℕ) → Numbered (back_lines c n m raw r) (1 ∷ 2 ∷ 5 ∷ [])
  back_numbers r = (refl, refl, refl)

  pub read_numbers : (xs : List ℕ) (j len : ℕ) → Numbered (read_lines c m raw xs j len) (1 ∷ 2 ∷ 11 ∷ [])
  read_numbers xs j len = (refl, refl, refl)

module _ (c m : ℕ) (raw K : List ℕ) where
  pub ready_numbers : Numbered (ready_lines c m raw K) (1 ∷ 2 ∷ 3 ∷ 4 ∷ [])
  ready_numbers = (refl, refl, refl)

  pub add_numbers_lem : (row : Row) → Numbered (add_lines c m raw K row) (1 ∷ 2 ∷ 3 ∷ 4 ∷ 7 ∷ 9 ∷ 10 ∷ [])
  add_numbers_lem row = (refl, refl, refl)

  pub strike_numbers : (r : ℕ) → Numbered (strike_lines c m raw K r) (1 ∷ 2 ∷ 3 ∷ 4 ∷ 5 ∷ 9 ∷ [])
  strike_numbers r = (refl, refl, refl)

  pub change_numbers : (r j v : ℕ) → Numbered (change_lines c m raw K r j v) (1 ∷ 2 ∷ 3 ∷ 4 ∷ 5 ∷ 6 ∷ 9 ∷ [])
  change_numbers r j v = (refl, refl, refl)

  pub renumber_numbers : (n r g : ℕ) (Own : Type 0) (M : Layer)
      → Numbered (renumber_lines c n m raw K r g Own M) (1 ∷ 2 ∷ 3 ∷ 4 ∷ 5 ∷ 7 ∷ 9 ∷ [])
  renumber_numbers n r g Own M = (refl, refl, refl)

  pub combine_numbers : (k : ℕ) (other : List ℕ) (len : ℕ)
      → Numbered (combine_lines c K m raw k other len) (1 ∷ 2 ∷ 2 ∷ 3 ∷ 4 ∷ 4 ∷ 9 ∷ 10 ∷ [])
  combine_numbers k other len = (refl, refl, refl)

  pub move_numbers : (k : ℕ) (other : List ℕ)
      → Numbered (move_lines c K m raw k other) (1 ∷ 2 ∷ 2 ∷ 3 ∷ 4 ∷ 4 ∷ 8 ∷ 10 ∷ [])
  move_numbers k other = (refl, refl, refl)

-- A place of 1,000 and more: exactly where the first layer passes and the second does not.
module _ (Own : Type 0) (c n m : ℕ) (raw : List ℕ) (p k : ℕ) (other K N : List ℕ) (own : List Line)
    (few : Own → m ≤ 512) (late : (l : Cause) (y : ℕ) → RefusedBy l y own → 4 < cause_number l) (x : ℕ) where
  abbrev L : Layer
  L = layer_of c m raw

  abbrev M : Layer
  M = layer_of c k other

  abbrev after_form : List Line
  after_form = both_fit_lines K L N M ++ own

  low : Own → (form_place c n (entries_of c m raw) < 1000) × (fit_place K L < 1000)
  unfolding fit_place
  low w = (
    omega (arith, form_place_lem c n m raw, few w),
    omega (arith, broken_le (suits K L) rises [] L, layer_length c m raw, few w),
  )

  fit_late : (l : Cause) → RefusedBy l x after_form → 2 < cause_number l
  fit_late l (inl w) = omega (arith, ap cause_number w.1)
  fit_late l (inr w) =
      ⊎_elim (λ z. omega (arith, ap cause_number z.1))
      (λ z. ⊎_elim (λ y. omega (arith, ap cause_number y.1)) (λ y. omega (arith, late l x y.1)) z.1) w.1

  -- the lines of the second layer, with those after them
  abbrev second_form : List Line
  second_form = line BadForm (1000 + form_place c p (entries_of c k other)) (FormKept c p k other) ∷ after_form

  abbrev second_fit : List Line
  second_fit = line BadFit (1000 + fit_place N M) (Fitting N M (length M)) ∷ own

  abbrev OnlySecond : Type 0 → Type 0 → Type 0
  OnlySecond First Second = (1000 ≤ x) ↔ (First × (Second → ⊥))

  pub second_form_lem : RefusedBy BadForm x (both_lines Own c n m raw p k other K N own)
      → (1000 ≤ x) ↔ (FormKept c n m raw × (FormKept c p k other → ⊥))
  second_form_lem (inl w) = absurd (omega (arith, ap cause_number w.1))
  second_form_lem (inr w) = first w.1
    where
      second : FormKept c n m raw → RefusedBy BadForm x second_form → OnlySecond (FormKept c n m raw) (FormKept c p k other)
      second b (inl z) = (λ h. (b, z.0), λ h. omega (arith, z.2))
      second b (inr z) = absurd (omega (arith, fit_late BadForm z.1))

      first : RefusedBy BadForm x (line BadForm (form_place c n (entries_of c m raw)) (FormKept c n m raw) ∷ second_form)
          → OnlySecond (FormKept c n m raw) (FormKept c p k other)
      first (inl z) = (λ h. absurd (omega (arith, z.2, low w.0)), λ h. absurd (z.0 h.0))
      first (inr z) = second z.0 z.1

  pub second_fit_lem : RefusedBy BadFit x (both_lines Own c n m raw p k other K N own)
      → (1000 ≤ x) ↔ (Fitting K L (length L) × (Fitting N M (length M) → ⊥))
  second_fit_lem (inl w) = absurd (omega (arith, ap cause_number w.1))
  second_fit_lem (inr w) =
      ⊎_elim (λ z. absurd (omega (arith, ap cause_number z.1)))
      (λ z. ⊎_elim (λ y. absurd (omega (arith, ap cause_number y.1))) (λ y. keys y.1) z.1) w.1
    where
      second : Fitting K L (length L) → RefusedBy BadFit x second_fit → OnlySecond (Fitting K L (length L)) (Fitting N M (length M))
      second e (inl z) = (λ h. (e, z.0), λ h. omega (arith, z.2))
      second e (inr z) = absurd (omega (arith, late BadFit x z.1))

      first : RefusedBy BadFit x (line BadFit (fit_place K L) (Fitting K L (length L)) ∷ second_fit)
          → OnlySecond (Fitting K L (length L)) (Fitting N M (length M))
      first (inl z) = (λ h. absurd (omega (arith, z.2, low w.0)), λ h. absurd (z.0 h.0))
      first (inr z) = second z.0 z.1

      keys : RefusedBy BadFit x after_form → OnlySecond (Fitting K L (length L)) (Fitting N M (length M))
      keys (inl z) = absurd (omega (arith, ap cause_number z.1))
      keys (inr z) = first z.1

two_late : (k : Cause) (p : ℕ) (l : Cause) (q : ℕ) (U W : Type 0) → 4 < cause_number k → 4 < cause_number l
    → (h : Cause) (y : ℕ) → RefusedBy h y (line k p U ∷ line l q W ∷ []) → 4 < cause_number h
two_late k p l q U W a b h y (inl w) = omega (arith, ap cause_number w.1)
two_late k p l q U W a b h y (inr w) = ⊎_elim (λ z. omega (arith, ap cause_number z.1)) (λ z. absurd z.1) w.1

module _ (c : ℕ) (K : List ℕ) (mR : ℕ) (rawR : List ℕ) (mW : ℕ) (rawW : List ℕ) where
  abbrev R : Layer
  R = layer_of c mR rawR

  abbrev W : Layer
  W = layer_of c mW rawW

  module _ (len x : ℕ) where
    late : (l : Cause) (y : ℕ) → RefusedBy l y (combine_own c K mR rawR mW rawW len) → 4 < cause_number l
    late = two_late NoRoom 0 TooManyRows 0 _ _ (omega arith) (omega arith)

    pub combine_second_form : combine_answer c K mR rawR mW rawW len ≡ Err (refusal BadForm x)
        → (1000 ≤ x) ↔ (FormKept c (length K) mR rawR × (FormKept c (rows_after (length K) R) mW rawW → ⊥))
    combine_second_form e =
        second_form_lem (BothArgs c K mR rawR mW rawW) c (length K) mR rawR (rows_after (length K) R) mW rawW K (keys_after K R)
        (combine_own c K mR rawR mW rawW len) (λ w. w.0.entries) late x
        (((combine_table c K mR rawR mW rawW len).refuses BadForm x).0 e)

    pub combine_second_fit : combine_answer c K mR rawR mW rawW len ≡ Err (refusal BadFit x)
        → (1000 ≤ x) ↔ (Fitting K R (length R) × (Fitting (keys_after K R) W (length W) → ⊥))
    combine_second_fit e =
        second_fit_lem (BothArgs c K mR rawR mW rawW) c (length K) mR rawR (rows_after (length K) R) mW rawW K (keys_after K R)
        (combine_own c K mR rawR mW rawW len) (λ w. w.0.entries) late x
        (((combine_table c K mR rawR mW rawW len).refuses BadFit x).0 e)

  module _ (x : ℕ) where
    late_move : (l : Cause) (y : ℕ) → RefusedBy l y (move_own c K mR rawR mW rawW) → 4 < cause_number l
    late_move = two_late InConflict (conflict_place R W) TooManyRows 0 _ _ (omega arith) (omega arith)

    pub move_second_form : move_answer c K mR rawR mW rawW ≡ Err (refusal BadForm x)
        → (1000 ≤ x) ↔ (FormKept c (length K) mR rawR × (FormKept c (length K) mW rawW → ⊥))
    move_second_form e =
        second_form_lem (BothArgs c K mR rawR mW rawW) c (length K) mR rawR (length K) mW rawW K K
        (move_own c K mR rawR mW rawW) (λ w. w.0.entries) late_move x (((move_table c K mR rawR mW rawW).refuses BadForm x).0 e)

    pub move_second_fit : move_answer c K mR rawR mW rawW ≡ Err (refusal BadFit x)
        → (1000 ≤ x) ↔ (Fitting K R (length R) × (Fitting K W (length W) → ⊥))
    move_second_fit e =
        second_fit_lem (BothArgs c K mR rawR mW rawW) c (length K) mR rawR (length K) mW rawW K K
        (move_own c K mR rawR mW rawW) (λ w. w.0.entries) late_move x (((move_table c K mR rawR mW rawW).refuses BadFit x).0 e)
