-- A renumbering where 1 to 5 pass: 7 exactly where the number is shown in another row, 9 exactly where the layer that is left
-- passes the room; how many entries that layer has; the row's own number is never refused.
-- Assumes nothing.
use Prim.Native.Nat.{ℕ, suc, ◌+◌, ◌*◌, ◌≤◌, ◌<◌}
use native.Mathlib.Nat.{mul-le-mul_right}
use native.Mathlib.Omega.{arith}
use mathlib.Core.Path.{◌≡◌, refl, sym, ap, ◌∙◌, subst}
use mathlib.Core.Logic.{inl, inr, ⊎_elim, ◌↔◌}
use mathlib.Core.Bool.{Bool, true, false, not, cond, true≢false}
use mathlib.Core.List.{List, [], ◌∷◌, ◌++◌}
use lib.ListN.{length, get_or, take}
use lib.Seq.{length-take-le}
use lib.Dec.{leb, eqb}
use borrow.Author.Tests.{le-leb, eqb-true, eq-eqb, ne_eqb}
use Rattle.words.specs.declared.Origin.{Origin}
use Rattle.words.specs.declared.Origin.TheVariants.{Base as base, Added as added}
use Rattle.words.specs.declared.Cause.{Cause}
use Rattle.words.specs.declared.Cause.TheVariants.{BadArguments, BadForm, NoSuchRow, KeyShown, NoRoom}
use Rattle.std.specs.Prelude.{Ok, Err}
use Rattle.order.specs.Lists.{one, count, any, filter, without}
use Rattle.order.proofs.Tests.{or_l, or_r}
use Rattle.order.proofs.Members.{any_mem, mem_map, map_mem}
use Rattle.order.proofs.Counts.{length_insert, filter_count}
use Rattle.order.proofs.Edited.{without_map}
use Rattle.order.proofs.Ascending.{get_or_at, at_mem, asc_same}
use Rattle.words.specs.Answer.{cause_number, refusal, Answer}
use Rattle.model.specs.Row.{Row, Table, key, keys, with_key, columnwise}
use Rattle.model.specs.Layer.{strike, at, Layer, rows_after, changes_row}
use Rattle.model.specs.Raw.{entries_of, layer_of}
use Rattle.model.specs.Form.{form_place, in_order}
use Rattle.model.specs.Read.{read, keys_after}
use Rattle.model.specs.Position.{back}
use Rattle.model.specs.Edits.{before, add_row, strike_base, strike_origin, strike_row, renumber_row}
use Rattle.model.specs.Steps.{renumbering, Allowed}
use Rattle.model.specs.Refusals.{shown_key}
use Rattle.model.specs.Calls.{renumber_over, renumbered_layer, renumber_answer}
use Rattle.theory.proofs.Raw.{layer_length}
use Rattle.theory.proofs.Fit.{Good, key_kept, keys_at, keys_length}
use Rattle.theory.proofs.Count.{read_ascends, read_length}
use Rattle.theory.proofs.Column.{Wide, keys_read, read_wide}
use Rattle.theory.proofs.Columnwise.{columnwise_keys}
use Rattle.theory.proofs.Position.{back_added}
use Rattle.theory.proofs.Edited.{add_length}
use Rattle.theory.proofs.Renumbered.{own_number}
use Rattle.exact.proofs.FormExactly.{FormKept, kept_in_order}
use Rattle.exact.proofs.Exactly.{Line, line, RefusedBy, refused_past, numbers, Exactly, counts, ArgsPass, Roomy}
use Rattle.exact.proofs.Tables.{
  form_lines,
  fit_lines,
  Elsewhere,
  elsewhere_of,
  of_elsewhere,
  not_elsewhere,
  renumber_own,
  renumber_lines,
  renumber_over_table,
  renumber_table,
}
use Rattle.exact.proofs.Rightful.{Sound, sound_of, sound_ascends, sound_good, roomy_less, struck_le, without_one}

-- How many entries are left.
module _ (T : Table) (L : Layer) (r g : ℕ) where
  abbrev q : Row
  q = get_or (read T L) r []

  abbrev two : Layer
  two = add_row (keys T) (with_key g q) (strike_row (keys T) r L)

  two_length : length two ≡ suc (length (strike_row (keys T) r L))
  two_length = add_length (keys T) (with_key g q) (strike_row (keys T) r L)

  struck_by : (o : Origin) → back (length (keys T)) L r ≡ o → strike_row (keys T) r L ≡ strike_origin (keys T) L o
  unfolding strike_row
  struck_by o e = ap (strike_origin (keys T) L) e

  -- at most two more
  entries_most : length (renumber_row T r g L) ≤ suc (suc (length L))
  unfolding renumber_row
  entries_most = go (eqb (key q) g)
    where
      o : Origin
      o = back (length (keys T)) L r

      go : (t : Bool) → length (cond t L two) ≤ suc (suc (length L))
      go true = omega arith
      go false = omega (arith, two_length, ap length (struck_by o refl), struck_le (keys T) L o)

  -- of an added row: as many
  entries_added : (i : ℕ) → back (length (keys T)) L r ≡ added i → i < length L → length (renumber_row T r g L) ≡ length L
  unfolding renumber_row
  entries_added i e h = go (eqb (key q) g)
    where
      go : (t : Bool) → length (cond t L two) ≡ length L
      go true = refl
      go false = omega (arith, two_length, ap length (struck_by (added i) e), without_one i L h)

  -- of a base row that gets another number: two more, less the changes of that row
  entries_base : (s : ℕ) → back (length (keys T)) L r ≡ base s → (key q ≡ g → ⊥)
      → length (renumber_row T r g L) + count (changes_row s) L ≡ suc (suc (length L))
  unfolding renumber_row strike_base
  entries_base s e other =
      rw (ne_eqb (key q) g other) (omega (
        arith,
        two_length,
        ap length (struck_by (base s) e),
        length_insert before (at s (strike (get_or (keys T) s 0))) (filter (λ d. not (changes_row s d)) L),
        filter_count (changes_row s) L,
      ))

-- What a call answers, over the keys K and the layer of raw, where 1 to 5 pass; M is the layer that it leaves.
pub record Renumbers (c m : ℕ) (raw K : List ℕ) (r g : ℕ) (answer : Answer) (M : Layer) : Type 0 where
  -- 7 exactly where g is shown in another row
  pub seven : (answer ≡ Err (refusal KeyShown 0)) ↔ Elsewhere g r (keys_after K (layer_of c m raw))
  -- else 9 exactly where the entries of M pass the room; done where there is room for two more
  pub nine : (Elsewhere g r (keys_after K (layer_of c m raw)) → ⊥)
      → (answer ≡ Err (refusal NoRoom 0)) ↔ (Roomy c (length raw) (length M) → ⊥)
  pub rightful : (Elsewhere g r (keys_after K (layer_of c m raw)) → ⊥) → Roomy c (length raw) (suc (suc m))
      → answer ≡ Ok (length M)
  -- an added row needs no room, a base row that gets another number two entries less its changes
  pub added_row_lem : (Elsewhere g r (keys_after K (layer_of c m raw)) → ⊥)
      → (i : ℕ) → back (length K) (layer_of c m raw) r ≡ added i → answer ≡ Ok m
  pub base_row : (s : ℕ) → back (length K) (layer_of c m raw) r ≡ base s
      → (get_or (keys_after K (layer_of c m raw)) r 0 ≡ g → ⊥)
      → length M + count (changes_row s) (layer_of c m raw) ≡ suc (suc m)
  -- its own number is done, and leaves the layer as it is
  pub own : get_or (keys_after K (layer_of c m raw)) r 0 ≡ g → (answer ≡ Ok m) × (M ≡ layer_of c m raw)

-- a refusal's number is one of the lines'
refused_listed : (ls : List Line) (k : Cause) (p : ℕ) → RefusedBy k p ls → any (eqb (cause_number k)) (numbers ls) ≡ true
refused_listed [] k p w = absurd w
refused_listed (line l q W ∷ ls) k p (inl w) =
    or_l (eqb (cause_number k) (cause_number l)) _ (eq-eqb (cause_number k) (cause_number l) (ap cause_number w.1))
refused_listed (line l q W ∷ ls) k p (inr w) =
    or_r (eqb (cause_number k) (cause_number l)) _ (refused_listed ls k p w.1)

-- A renumbering that is done had a layer that passes 1 to 4, and a table that was lent whole.
pub renumber_over_sound : (ok : Bool) (c m : ℕ) (raw : List ℕ) (T : Table) (r g k : ℕ) → renumber_over ok c m raw T r g ≡ Ok k
    → Sound c m raw (keys T) × (ok ≡ true)
renumber_over_sound ok c m raw T r g k e =
    let w = (counts (renumber_over_table ok (ok ≡ true) (λ x. x, λ x. x) c m raw T r g) k e).1 in
    (sound_of c m raw (keys T) k w.0.0 w.1.0 w.1.1.0 w.1.1.1.0, w.0.1)

-- A renumbering is a step that is allowed exactly where 5 and 7 pass.
module _ (c m : ℕ) (raw : List ℕ) (T : Table) (r g : ℕ) (S : Sound c m raw (keys T)) (wide : Wide c T) where
  pub renumber_allowed : ((r < rows_after (length (keys T)) (layer_of c m raw))
      × (Elsewhere g r (keys_after (keys T) (layer_of c m raw)) → ⊥))
      ↔ Allowed c (renumbering r g) (read T (layer_of c m raw))
  renumber_allowed = (allowed, of_allowed)
    where
      L : Layer
      L = layer_of c m raw

      M : Table
      M = read T (layer_of c m raw)

      G : Good c T (layer_of c m raw)
      G = sound_good c m raw T S

      rows : length (read T (layer_of c m raw)) ≡ rows_after (length (keys T)) (layer_of c m raw)
      rows = omega (arith, read_length T L G.fit, ap (λ (n : ℕ). rows_after n L) (keys_length T))

      others : without r (keys_after (keys T) (layer_of c m raw)) ≡ keys (without r (read T (layer_of c m raw)))
      others = ap (without r) (keys_read T L (key_kept T L G.fit)) ∙ without_map key r M

      allowed : ((r < rows_after (length (keys T)) L) × (Elsewhere g r (keys_after (keys T) L) → ⊥))
          → Allowed c (renumbering r g) M
      allowed w =
          let there : r < length M = omega (arith, rows, w.0) in (
            there,
            S.args.some,
            read_wide c T L wide G (get_or M r []) (at_mem (get_or_at M r [] there)),
            λ q n e. w.1 (elsewhere_of r (keys_after (keys T) L) g (rw (others, ← e) (mem_map key (without r M) q n))),
          )

      of_allowed : Allowed c (renumbering r g) M
          → (r < rows_after (length (keys T)) L) × (Elsewhere g r (keys_after (keys T) L) → ⊥)
      of_allowed w = (
        omega (arith, rows, w.0),
        λ x.
            let v = map_mem key (without r M) (get_or (keys_after (keys T) L) x.0 0)
            (rw (others) at (of_elsewhere r (keys_after (keys T) L) x.0 x.1 x.2)) in
            w.3 v.0 v.1 (sym v.2 ∙ x.3),
      )

-- Over a table whose keys are given.
module _ (ok : Bool) (c m : ℕ) (raw : List ℕ) (T : Table) (r g : ℕ) (S : Sound c m raw (keys T)) (lent : ok ≡ true)
    (h : r < rows_after (length (keys T)) (layer_of c m raw)) where
  abbrev L : Layer
  L = layer_of c m raw

  abbrev K : List ℕ
  K = keys T

  abbrev M : Layer
  M = renumber_row T r g L

  abbrev answer : Answer
  answer = renumber_over ok c m raw T r g

  abbrev None : Type 0
  None = Elsewhere g r (keys_after K L) → ⊥

  table : Exactly Err answer (Ok (length M)) (renumber_lines c (length K) m raw K r g (ok ≡ true) M)
  table = renumber_over_table ok (ok ≡ true) (λ x. x, λ x. x) c m raw T r g

  done_within : None → Roomy c (length raw) (length M) → answer ≡ Ok (length M)
  done_within f w = table.done.1 ((S.args, lent), (S.form, (S.ascends, (S.fit, (h, (f, (w, tt)))))))

  -- the lines that are left
  abbrev last : List Line
  last = line KeyShown 0 None ∷ line NoRoom 0 (Roomy c (length raw) (length M)) ∷ []

  refused_last : (k : Cause) (p : ℕ) → (answer ≡ Err (refusal k p)) ↔ RefusedBy k p last
  refused_last k p =
      let t = table.refuses k p in
      let a = refused_past (form_lines (ArgsPass c (length K) m (length raw) × (ok ≡ true)) c (length K) m raw)
      (fit_lines K L ++ renumber_own c (length K) m raw K r g M) k p ((S.args, lent), (S.form, tt)) in
      let b = refused_past (fit_lines K L) (renumber_own c (length K) m raw K r g M) k p (S.ascends, (S.fit, tt)) in
      let d = refused_past (line NoSuchRow 0 (r < rows_after (length K) L) ∷ []) last k p (h, tt) in
      (λ x. d.0 (b.0 (a.0 (t.0 x))), λ x. t.1 (a.1 (b.1 (d.1 x))))

  shown_elsewhere : RefusedBy KeyShown 0 last → Elsewhere g r (keys_after K L)
  shown_elsewhere (inl w) = go (shown_key g (without r (keys_after K L))) refl
    where
      go : (t : Bool) → shown_key g (without r (keys_after K L)) ≡ t → Elsewhere g r (keys_after K L)
      go true e =
          let v = any_mem (eqb g) (without r (keys_after K L)) e in
          elsewhere_of r (keys_after K L) g (rw (eqb-true g v.0 v.2) v.1)
      go false e = absurd (w.0 ((not_elsewhere g r (keys_after K L)).0 e))
  shown_elsewhere (inr w) = absurd (⊎_elim (λ v. omega (arith, ap cause_number v.1)) (λ v. v.1) w.1)

  not_roomy : RefusedBy NoRoom 0 last → Roomy c (length raw) (length M) → ⊥
  not_roomy (inl w) = absurd (omega (arith, ap cause_number w.1))
  not_roomy (inr w) = ⊎_elim (λ v. v.0) (λ v. absurd v.1) w.1

  -- as many entries as there are, or fewer, are within the room
  own_room : (k : ℕ) → k ≡ m → Roomy c (length raw) k
  own_room k e = roomy_less c (length raw) k m (omega arith) (S.args.entries, S.args.fits)

  -- the keys shown are those of the rows
  shown_key_lem : (i : ℕ) → get_or (keys_after K L) i 0 ≡ key (get_or (read T L) i [])
  shown_key_lem i =
      ap (λ (N : List ℕ). get_or N i 0) (keys_read T L (key_kept T L (sound_good c m raw T S).fit)) ∙ keys_at (read T L) i

  shown_length : length (keys_after K L) ≡ length (read T L)
  shown_length = ap length (keys_read T L (key_kept T L (sound_good c m raw T S).fit)) ∙ keys_length (read T L)

  -- the row's own number is shown in no other row
  own_alone : get_or (keys_after K L) r 0 ≡ g → None
  own_alone e w =
      let N = read T L in
      let there : r < length N =
      omega (arith, read_length T L (sound_good c m raw T S).fit, ap (λ (n : ℕ). rows_after n L) (keys_length T)) in
      w.2 (asc_same key N (read_ascends T L (sound_ascends c m raw T S) (sound_good c m raw T S).fit)
      (get_or_at N w.0 [] (omega (arith, w.1, shown_length))) (get_or_at N r [] there)
      (sym (shown_key_lem w.0) ∙ (w.3 ∙ (sym e ∙ shown_key_lem r))))

  pub renumber_over_lem : Renumbers c m raw (keys T) r g (renumber_over ok c m raw T r g) (renumber_row T r g (layer_of c m raw))
  renumber_over_lem = record {
    seven = (λ e. shown_elsewhere ((refused_last KeyShown 0).0 e), λ x. (refused_last KeyShown 0).1 (inl (λ f. f x, refl, refl)));
    nine = λ f. (
      λ e. not_roomy ((refused_last NoRoom 0).0 e),
      λ x. (refused_last NoRoom 0).1 (inr (f, inl (x, refl, refl))),
    );
    rightful = λ f w.
        done_within f (roomy_less c (length raw) (length M) (suc (suc m))
        (omega (arith, entries_most T L r g, layer_length c m raw)) w);
    added_row_lem = λ f i e.
        let n : length M ≡ m = entries_added T L r g i e (back_added c (length K) L order r i e).1 ∙ layer_length c m raw in
        done_within f (own_room (length M) n) ∙ ap Ok n;
    base_row = λ s e other.
        entries_base T L r g s e (λ x. other (shown_key_lem r ∙ x)) ∙ ap (λ (k : ℕ). suc (suc k)) (layer_length c m raw);
    own = λ e.
        let same : M ≡ L = own_number T L r g (sym (shown_key_lem r) ∙ e) in
        let n : length M ≡ m = ap length same ∙ layer_length c m raw in
        (done_within (own_alone e) (own_room (length M) n) ∙ ap Ok n, same);
  }
    where
      order : in_order c (length K) L ≡ true
      order = kept_in_order c (length K) m raw S.args.columns S.args.fits S.form

-- Over a table that lies in one slice.
module _ (c n m : ℕ) (raw table : List ℕ) (r g : ℕ) where
  lent_rows : 1 ≤ c → c * n ≤ length table → n ≤ length table
  lent_rows s w = omega (arith, mul-le-mul_right {m = 1} n s)

  -- 1 exactly where an argument passes its limit, or the slice has fewer than c·n numbers
  pub renumber_one : (renumber_answer c n m raw table r g ≡ Err (refusal BadArguments 0))
      ↔ (ArgsPass c n m (length raw) × (c * n ≤ length table) → ⊥)
  renumber_one =
      let t = (renumber_table c n m raw table r g).refuses BadArguments 0 in (
        λ e. ⊎_elim (λ w. w.0) (λ w. absurd (true≢false (sym (refused_listed later BadArguments 0 w.1)))) (t.0 e),
        λ f. t.1 (inl (f, refl, refl)),
      )
    where
      later : List Line
      later =
          line BadForm (form_place c n (entries_of c m raw)) (FormKept c n m raw)
          ∷ (fit_lines (take n table) (layer_of c m raw)
          ++ renumber_own c n m raw (take n table) r g (renumbered_layer c n m raw table r g))

  pub renumber_sound : (k : ℕ) → renumber_answer c n m raw table r g ≡ Ok k
      → Sound c m raw (take n table) × (c * n ≤ length table)
  renumber_sound k e =
      let w = (counts (renumber_table c n m raw table r g) k e).1 in
      let size : length (take n table) ≡ n = length-take-le n table (lent_rows w.0.0.some w.0.1) in
      (sound_of c m raw (take n table) k (rw size w.0.0) (rw size w.1.0) w.1.1.0 w.1.1.1.0, w.0.1)

  pub renumber_call : Sound c m raw (take n table) → c * n ≤ length table → r < rows_after n (layer_of c m raw)
      → Renumbers c m raw (take n table) r g (renumber_answer c n m raw table r g) (renumbered_layer c n m raw table r g)
  renumber_call S lent h =
      let some : 1 ≤ c = S.args.some in
      let size : length (take n table) ≡ n = length-take-le n table (lent_rows some lent) in
      subst (λ (N : List ℕ). Sound c m raw N → r < rows_after (length N) (layer_of c m raw)
      → Renumbers c m raw N r g (renumber_answer c n m raw table r g) (renumbered_layer c n m raw table r g))
      (columnwise_keys c n n table some (lent_rows some lent))
      (λ S' h'. renumber_over_lem (leb (c * n) (length table)) c m raw (columnwise c n n table) r g S'
      (le-leb (c * n) (length table) lent) h')
      S (rw size h)
