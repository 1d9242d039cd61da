-- Form, exactly: which numbers of a slice keep the rules of the scope, in literals, and the place where they do not.
-- Assumes nothing.
use Prim.Native.Nat.{ℕ, zero, suc, ◌+◌, ◌*◌, ◌-◌, ◌≤◌, ◌<◌}
use native.Mathlib.Nat.{zero-add}
use native.Mathlib.Omega.{arith}
use mathlib.Core.Path.{◌≡◌, refl, sym, ap, ◌∙◌}
use mathlib.Core.Logic.{◌⊎◌, inl, inr, ⊎_elim, ◌↔◌}
use mathlib.Core.Bool.{Bool, true, false, cond, ◌&&◌, ◌||◌, true≢false}
use mathlib.Core.List.Memᴰ.{not-nil}
use mathlib.Core.List.{List, [], Memᴰ as Mem}
use lib.ListN.{length, get_or, take, drop, length-take, length-drop}
use lib.Seq.{get_or-take, get_or-drop}
use lib.Dec.{leb, ltb, eqb}
use borrow.Author.Tests.{ltb-true, ltb-false, leb-true, eqb-true, eqb-false, lt-ltb, le-ltb, le-leb, eq-eqb, ne_eqb}
use Rattle.order.specs.Lists.{one, count, all}
use Rattle.order.proofs.Tests.{tests, and_l, and_r, and_of, or_false, lex_cases, lex_lt, lex_eq}
use Rattle.order.proofs.Members.{map_mem}
use Rattle.order.proofs.Counts.{count_map, count_same}
use Rattle.order.proofs.Pairs.{Unbroken, unbroken, pairs_map}
use Rattle.words.specs.declared.Entry.{Entry}
use Rattle.model.specs.Row.{Row}
use Rattle.model.specs.Cell.{to}
use Rattle.model.specs.Layer.{Deed, add, strike, change, Edit, at, is_add, is_strike, rows_after}
use Rattle.model.specs.Raw.{none, entry_at, entries_of, deed_of, edit_of, layer_of}
use Rattle.words.specs.Entry.{add_entry, strike_entry, change_entry}
use Rattle.model.specs.Form.{zeros, sound, after, follows, form_place, in_order}
use Rattle.model.specs.Refusals.{breaks_form}
use Rattle.theory.proofs.Raw.{entry_at_lem, entries_length, form_place_lem, within as entry_within}
use Rattle.theory.proofs.Fit.{in_order_lem}
use Rattle.exact.proofs.Places.{Keeps, least_keeps, keeps_least, all_at, at_all}

-- The kinds: 65,535 add; 65,534 strike; 1 to c - 1 change of that column.
abbrev pub Kind : ℕ → ℕ → Type 0
Kind c k = (k ≡ 65535) ⊎ ((k ≡ 65534) ⊎ ((1 ≤ k) × (k < c)))

other_kind : (c k : ℕ) → (k ≡ 65535 → ⊥) → (k ≡ 65534 → ⊥) → Kind c k → (1 ≤ k) × (k < c)
other_kind c k f g (inl e) = absurd (f e)
other_kind c k f g (inr (inl e)) = absurd (g e)
other_kind c k f g (inr (inr w)) = w

-- the deed of an entry, by the two tests on its kind
abbrev deed_by : Bool → Bool → ℕ → List ℕ → Deed
deed_by a b k vs = cond a (add vs) (cond b (strike (get_or vs 0 0)) (change k (to (get_or vs 0 0))))

-- One entry of kind k at s, with the values vs, keeps form alone.
pub record Alone (c n s k : ℕ) (vs : List ℕ) : Type 0 where
  pub kind : Kind c k
  pub within : s ≤ n
  pub below : (k ≡ 65535 → ⊥) → s < n
  pub zero : (k ≡ 65535 → ⊥) → (j : ℕ) → 1 ≤ j → j < c → get_or vs j 0 ≡ 0

module _ (c n s k : ℕ) (vs : List ℕ) (wide : length vs ≡ c) where
  abbrev alone_test : Bool → Bool → Bool
  alone_test a b =
      (a || all (λ v. eqb v 0) (drop 1 vs))
      && sound c n (at s (deed_by a b k vs))

  zero_at : all (λ v. eqb v 0) (drop 1 vs) ≡ true → (j : ℕ) → 1 ≤ j → j < c → get_or vs j 0 ≡ 0
  zero_at e zero h l = absurd (omega arith)
  zero_at e (suc j) h l =
      let i : get_or (drop 1 vs) j 0 ≡ 0 =
      eqb-true (get_or (drop 1 vs) j 0) 0
      (all_at (λ v. eqb v 0) 0 (drop 1 vs) j e (omega (arith, length-drop 1 vs))) in
      ap (λ (q : ℕ). get_or vs q 0) (omega arith) ∙ (sym (get_or-drop 1 vs j 0) ∙ i)

  at_zero : ((j : ℕ) → 1 ≤ j → j < c → get_or vs j 0 ≡ 0) → all (λ v. eqb v 0) (drop 1 vs) ≡ true
  at_zero h =
      at_all (λ v. eqb v 0) 0 (drop 1 vs) (λ i l.
      eq-eqb (get_or (drop 1 vs) i 0) 0 (get_or-drop 1 vs i 0 ∙ h (1 + i) (omega arith) (omega (arith, length-drop 1 vs))))

  alone_of : (a b : Bool) → eqb k 65535 ≡ a → eqb k 65534 ≡ b → alone_test a b ≡ true → Alone c n s k vs
  alone_of true b e f h =
      let g : k ≡ 65535 = eqb-true k 65535 e in
      record {
        kind = inl g;
        within = leb-true s n (and_l (leb s n) (eqb (length vs) c) h);
        below = λ q. absurd (q g);
        zero = λ q. absurd (q g);
      }
  alone_of false true e f h =
      let l : s < n = ltb-true s n (and_r (all (λ v. eqb v 0) (drop 1 vs)) (ltb s n) h) in
      record {
        kind = inr (inl (eqb-true k 65534 f));
        within = omega arith;
        below = λ q. l;
        zero = λ q. zero_at (and_l (all (λ v. eqb v 0) (drop 1 vs)) (ltb s n) h);
      }
  alone_of false false e f h =
      let g = and_r (all (λ v. eqb v 0) (drop 1 vs)) (ltb s n && (leb 1 k && ltb k c)) h in
      let i = and_r (ltb s n) (leb 1 k && ltb k c) g in
      let l : s < n = ltb-true s n (and_l (ltb s n) (leb 1 k && ltb k c) g) in
      record {
        kind = inr (inr (leb-true 1 k (and_l (leb 1 k) (ltb k c) i), ltb-true k c (and_r (leb 1 k) (ltb k c) i)));
        within = omega arith;
        below = λ q. l;
        zero = λ q. zero_at (and_l (all (λ v. eqb v 0) (drop 1 vs)) (ltb s n && (leb 1 k && ltb k c)) h);
      }

  of_alone : (a b : Bool) → eqb k 65535 ≡ a → eqb k 65534 ≡ b → Alone c n s k vs → alone_test a b ≡ true
  of_alone true b e f w = and_of (leb s n) (eqb (length vs) c) (le-leb s n w.within) (eq-eqb (length vs) c wide)
  of_alone false true e f w =
      let q = eqb-false k 65535 e in
      and_of (all (λ v. eqb v 0) (drop 1 vs)) (ltb s n) (at_zero (w.zero q)) (lt-ltb s n (w.below q))
  of_alone false false e f w =
      let q = eqb-false k 65535 e in
      let z = other_kind c k q (eqb-false k 65534 f) w.kind in
      and_of (all (λ v. eqb v 0) (drop 1 vs)) _ (at_zero (w.zero q)) (and_of (ltb s n) _ (lt-ltb s n (w.below q))
      (and_of (leb 1 k) (ltb k c) (le-leb 1 k z.0) (lt-ltb k c z.1)))

  pub alone_exactly : (alone_test (eqb k 65535) (eqb k 65534) ≡ true) ↔ Alone c n s k vs
  alone_exactly = (alone_of (eqb k 65535) (eqb k 65534) refl refl, of_alone (eqb k 65535) (eqb k 65534) refl refl)

-- Two entries at one position: an add stands before any; else both are changes, in ascending column.
abbrev pub MayFollow : ℕ → ℕ → ℕ → Type 0
MayFollow c k l = (k ≡ 65535) ⊎ ((k < l) × (l < c))

module _ (c k l : ℕ) (vs ws : List ℕ) (few : c ≤ 8) (kind : Kind c l) where
  abbrev follow_test : Bool → Bool → Bool → Bool → Bool
  follow_test a b p q =
      after (deed_by a b k vs) (deed_by p q l ws)

  follow_of : (a b p q : Bool) → eqb k 65535 ≡ a → eqb k 65534 ≡ b → eqb l 65535 ≡ p → eqb l 65534 ≡ q
      → follow_test a b p q ≡ true → MayFollow c k l
  follow_of true b p q e f g i h = inl (eqb-true k 65535 e)
  follow_of false true p q e f g i h = absurd (true≢false (sym h))
  follow_of false false true q e f g i h = absurd (true≢false (sym h))
  follow_of false false false true e f g i h = absurd (true≢false (sym h))
  follow_of false false false false e f g i h =
      inr (ltb-true k l h, (other_kind c l (eqb-false l 65535 g) (eqb-false l 65534 i) kind).1)

  of_follow : MayFollow c k l → follow_test (eqb k 65535) (eqb k 65534) (eqb l 65535) (eqb l 65534) ≡ true
  of_follow (inl e) = rw (eq-eqb k 65535 e)
  of_follow (inr w) =
      rw (
        ne_eqb k 65535 (λ e. omega arith),
        ne_eqb k 65534 (λ e. omega arith),
        ne_eqb l 65535 (λ e. omega arith),
        ne_eqb l 65534 (λ e. omega arith),
      ) (lt-ltb k l w.0)

  pub follow_exactly : (after (deed_of k vs) (deed_of l ws) ≡ true) ↔ MayFollow c k l
  follow_exactly = (follow_of (eqb k 65535) (eqb k 65534) (eqb l 65535) (eqb l 65534) refl refl refl refl, of_follow)

-- The numbers of entry i of a slice of c columns.
abbrev pub pos_of : ℕ → List ℕ → ℕ → ℕ
pos_of c xs i = get_or xs (i * (c + 2)) 0

abbrev pub kind_of : ℕ → List ℕ → ℕ → ℕ
kind_of c xs i = get_or xs (i * (c + 2) + 1) 0

abbrev pub value_of : ℕ → List ℕ → ℕ → ℕ → ℕ
value_of c xs i j = get_or xs (i * (c + 2) + 2 + j) 0

-- The rules of form, of the first k entries of a slice over n rows.
pub record Rules (c n : ℕ) (xs : List ℕ) (k : ℕ) : Type 0 where
  -- every kind is one of the three
  pub kinds : (i : ℕ) → i < k → Kind c (kind_of c xs i)
  -- positions are at most n, strikes and changes stand only below n
  pub within : (i : ℕ) → i < k → pos_of c xs i ≤ n
  pub below : (i : ℕ) → i < k → (kind_of c xs i ≡ 65535 → ⊥) → pos_of c xs i < n
  -- of a strike and a change only the first value may be other than zero
  pub zero : (i : ℕ) → i < k → (kind_of c xs i ≡ 65535 → ⊥) → (j : ℕ) → 1 ≤ j → j < c → value_of c xs i j ≡ 0
  -- positions never fall
  pub rise : (i j : ℕ) → i < j → j < k → pos_of c xs i ≤ pos_of c xs j
  -- at one position: adds, then nothing, one strike, or changes in strictly ascending column
  pub may_follow : (i j : ℕ) → i < j → j < k → pos_of c xs i ≡ pos_of c xs j
      → MayFollow c (kind_of c xs i) (kind_of c xs j)

abbrev alone : ℕ → ℕ → Entry → Bool
alone c n e = zeros e && sound c n (edit_of e)

abbrev pair : Entry → Entry → Bool
pair d e = follows (edit_of d) (edit_of e)

module _ (c n m : ℕ) (xs : List ℕ) (few : c ≤ 8) (fits : m * (c + 2) ≤ length xs) where
  -- entry i
  entry : (i : ℕ) → i < m → get_or (entries_of c m xs) i none ≡ entry_at c (i * (c + 2)) xs
  entry i h = entry_at_lem c m 0 i xs h ∙ ap (λ (q : ℕ). entry_at c q xs) (zero-add (i * (c + 2)))

  abbrev vals : ℕ → List ℕ
  vals i = take c (drop (i * (c + 2) + 2) xs)

  abbrev deed : ℕ → Deed
  deed i = deed_of (kind_of c xs i) (vals i)

  wide : (i : ℕ) → i < m → length (vals i) ≡ c
  wide i h = omega (
    arith,
    length-take c (drop (i * (c + 2) + 2) xs),
    length-drop (i * (c + 2) + 2) xs,
    entry_within i m (c + 2) h,
  )

  value : (i j : ℕ) → j < c → get_or (vals i) j 0 ≡ value_of c xs i j
  value i j h = rw (get_or-take, get_or-drop)

  one_alone : (i : ℕ) → i < m
      → (alone c n (get_or (entries_of c m xs) i none) ≡ true) ↔ Alone c n (pos_of c xs i) (kind_of c xs i) (vals i)
  one_alone i h = rw (entry i h) (alone_exactly c n (pos_of c xs i) (kind_of c xs i) (vals i) (wide i h))

  two_follow : (i j : ℕ) → Kind c (kind_of c xs j)
      → (after (deed i) (deed j) ≡ true) ↔ MayFollow c (kind_of c xs i) (kind_of c xs j)
  two_follow i j t = follow_exactly c (kind_of c xs i) (kind_of c xs j) (vals i) (vals j) few t

  module _ (k : ℕ) (h : k ≤ m) where
    rules_of : Keeps (alone c n) pair none [] (entries_of c m xs) k → Rules c n xs k
    rules_of w = record {
      kinds = λ i l. (one i l).kind;
      within = λ i l. (one i l).within;
      below = λ i l. (one i l).below;
      zero = λ i l q j a b. sym (value i j b) ∙ (one i l).zero q j a b;
      rise = λ i j l g. ⊎_elim (λ e. omega arith) (λ e. omega (arith, e.0)) (lex i j l g);
      may_follow = λ i j l g e.
          ⊎_elim (λ z. absurd (omega arith)) (λ z. (two_follow i j (one j g).kind).0 z.1) (lex i j l g);
    }
      where
        one : (i : ℕ) → i < k → Alone c n (pos_of c xs i) (kind_of c xs i) (vals i)
        one i l = (one_alone i (omega arith)).0 (w.each i l)

        lex : (i j : ℕ) → i < j → j < k → (pos_of c xs i < pos_of c xs j)
            ⊎ ((pos_of c xs i ≡ pos_of c xs j) × (after (deed i) (deed j) ≡ true))
        lex i j l g =
            lex_cases (pos_of c xs i) (pos_of c xs j) _
            (rw (entry i (omega arith), entry j (omega arith)) at (w.pairs i j l g))

    of_rules : Rules c n xs k → Keeps (alone c n) pair none [] (entries_of c m xs) k
    of_rules w = record {
      each = λ i l. (one_alone i (omega arith)).1 (record {
        kind = w.kinds i l;
        within = w.within i l;
        below = w.below i l;
        zero = λ q j a b. value i j b ∙ w.zero i l q j a b;
      });
      past = λ y e i l. absurd (not-nil e);
      pairs = λ i j l g.
          rw (entry i (omega arith), entry j (omega arith)) (two i j l g (ltb (pos_of c xs i) (pos_of c xs j)) refl);
    }
      where
        two : (i j : ℕ) → i < j → j < k → (t : Bool) → ltb (pos_of c xs i) (pos_of c xs j) ≡ t
            → follows (edit_of (entry_at c (i * (c + 2)) xs)) (edit_of (entry_at c (j * (c + 2)) xs)) ≡ true
        two i j l g true e = lex_lt (pos_of c xs i) (pos_of c xs j) _ (ltb-true (pos_of c xs i) (pos_of c xs j) e)
        two i j l g false e =
            let q : pos_of c xs i ≡ pos_of c xs j = omega (tests, w.rise i j l g) in
            lex_eq (pos_of c xs i) (pos_of c xs j) _ q ((two_follow i j (w.kinds j g)).1 (w.may_follow i j l g q))

    -- k is at most the place exactly where the first k entries keep the rules
    pub form_place_exactly : (k ≤ form_place c n (entries_of c m xs)) ↔ Rules c n xs k
    unfolding form_place
    form_place_exactly = (
      λ l. rules_of (least_keeps (alone c n) pair none [] (entries_of c m xs) k l),
      λ w. keeps_least (alone c n) pair none [] (entries_of c m xs) k (omega (arith, entries_length c m 0 xs)) (of_rules w),
    )

-- An entry that is made of each kind is that edit, with its zeros.
pub made_add : (s : ℕ) (row : Row) → edit_of (add_entry s row) ≡ at s (add row)
made_add s row = refl

pub made_strike : (s k : ℕ) → (edit_of (strike_entry s k) ≡ at s (strike k)) × (zeros (strike_entry s k) ≡ true)
made_strike s k = (refl, refl)

pub made_change : (s j v : ℕ) → j < 8
    → (edit_of (change_entry s j v) ≡ at s (change j (to v))) × (zeros (change_entry s j v) ≡ true)
made_change s j v h = rw (ne_eqb j 65535 (λ e. omega arith), ne_eqb j 65534 (λ e. omega arith)) (refl, refl)

-- the entries of kind q, by their kind number
abbrev pub of_kind : ℕ → Entry → Bool
of_kind q e = eqb e.kind q

adds_by_kind : (e : Entry) → is_add (edit_of e) ≡ of_kind 65535 e
adds_by_kind e = go (eqb e.kind 65535) (eqb e.kind 65534)
  where
    go : (a b : Bool) → is_add (at e.pos (deed_by a b e.kind e.vals)) ≡ a
    go true b = refl
    go false true = refl
    go false false = refl

strikes_by_kind : (e : Entry) → is_strike (edit_of e) ≡ of_kind 65534 e
strikes_by_kind e = go (eqb e.kind 65535) (eqb e.kind 65534) refl refl
  where
    go : (a b : Bool) → eqb e.kind 65535 ≡ a → eqb e.kind 65534 ≡ b
        → is_strike (at e.pos (deed_by a b e.kind e.vals)) ≡ b
    go true true f g = absurd (omega (arith, eqb-true e.kind 65535 f, eqb-true e.kind 65534 g))
    go true false f g = refl
    go false true f g = refl
    go false false f g = refl

counted : (q : ℕ) (f : Edit → Bool) → ((e : Entry) → f (edit_of e) ≡ of_kind q e) → (c m : ℕ) (xs : List ℕ)
    → count f (layer_of c m xs) ≡ count (of_kind q) (entries_of c m xs)
unfolding layer_of
counted q f h c m xs =
    count_map edit_of f (entries_of c m xs)
    ∙ count_same (λ e. f (edit_of e)) (of_kind q) (entries_of c m xs) (λ e k. ap one (h e))

-- A layer of m entries keeps form: the rules, and rows after the layer, n + adds - strikes, at most 4,096.
pub record FormKept (c n m : ℕ) (xs : List ℕ) : Type 0 where
  pub rules : Rules c n xs m
  pub rows : (n + count (of_kind 65535) (entries_of c m xs)) - count (of_kind 65534) (entries_of c m xs) ≤ 4096

module _ (c n m : ℕ) (xs : List ℕ) (few : c ≤ 8) (fits : m * (c + 2) ≤ length xs) where
  row_total : rows_after n (layer_of c m xs)
      ≡ (n + count (of_kind 65535) (entries_of c m xs)) - count (of_kind 65534) (entries_of c m xs)
  row_total = rw (counted 65535 is_add adds_by_kind c m xs, counted 65534 is_strike strikes_by_kind c m xs)

  -- refusal 2 is not met exactly where the layer keeps form
  pub form_exactly : (breaks_form c n m xs ≡ false) ↔ FormKept c n m xs
  unfolding breaks_form
  form_exactly = (kept, of_kept)
    where
      place : (m ≤ form_place c n (entries_of c m xs)) ↔ Rules c n xs m
      place = form_place_exactly c n m xs few fits m (omega arith)

      kept : ltb (form_place c n (entries_of c m xs)) m || ltb 4096 (rows_after n (layer_of c m xs)) ≡ false
          → FormKept c n m xs
      kept h =
          let w = or_false (ltb (form_place c n (entries_of c m xs)) m) (ltb 4096 (rows_after n (layer_of c m xs))) h in
          record {
            rules = place.0 (ltb-false (form_place c n (entries_of c m xs)) m w.0);
            rows = omega (arith, row_total, ltb-false 4096 (rows_after n (layer_of c m xs)) w.1);
          }

      of_kept : FormKept c n m xs
          → ltb (form_place c n (entries_of c m xs)) m || ltb 4096 (rows_after n (layer_of c m xs)) ≡ false
      of_kept w =
          rw (
            le-ltb (form_place c n (entries_of c m xs)) m (place.1 w.rules),
            le-ltb 4096 (rows_after n (layer_of c m xs)) (omega (arith, row_total, w.rows)),
          )

  -- the place is m exactly where only the row total is at fault
  pub form_place_total : (form_place c n (entries_of c m xs) ≡ m) ↔ Rules c n xs m
  form_place_total =
      let w = form_place_exactly c n m xs few fits m (omega arith) in
      (λ e. w.0 (omega arith), λ r. omega (arith, w.1 r, form_place_lem c n m xs))

  -- what keeps form is in order, as edits; and its entries have their zeros
  module _ (kept : FormKept c n m xs) where
    unbroken_entries : Unbroken (alone c n) pair [] (entries_of c m xs)
    unfolding form_place
    unbroken_entries =
        unbroken (alone c n) pair [] (entries_of c m xs) (form_place_total.1 kept.rules ∙ sym (entries_length c m 0 xs))

    pub kept_each : (e : Edit) → Mem e (layer_of c m xs) → sound c n e ≡ true
    unfolding layer_of
    kept_each e k =
        let w = map_mem edit_of (entries_of c m xs) e k in
        ap (sound c n) w.2 ∙ and_r (zeros w.0) (sound c n (edit_of w.0)) (unbroken_entries.each w.0 w.1)

    pub kept_in_order : in_order c n (layer_of c m xs) ≡ true
    unfolding layer_of
    kept_in_order =
        in_order_lem c n (layer_of c m xs) kept_each
        (pairs_map pair follows edit_of (entries_of c m xs) (λ x y k l f. f) unbroken_entries.pairs)
