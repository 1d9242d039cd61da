-- The splice that each edit is: where its entry lands, which entries go, and that it leads to the edited layer.
-- Assumes nothing.
use Prim.Native.Nat.{ℕ, zero, suc, ◌+◌, ◌-◌, ◌≤◌, ◌<◌}
use native.Mathlib.Nat.{add-zero, zero-add, sub-zero, zero-sub, suc-sub-suc}
use native.Mathlib.Omega.{arith}
use mathlib.Core.Path.{◌≡◌, refl, sym, ap, ◌∙◌, subst}
use mathlib.Core.Bool.{Bool, true, false, ◌&&◌}
use mathlib.Core.List.{List, [], ◌∷◌, ◌++◌}
use lib.ListN.{length, get_or, take, drop, replicate}
use lib.Seq.{paste, take_at, take-length}
use lib.Dec.{leb, ltb}
use borrow.Author.Tests.{lt-ltb, le-leb}
use Rattle.std.specs.Prelude.{Some}
use Rattle.words.specs.declared.Origin.{Origin}
use Rattle.words.specs.declared.Origin.TheVariants.{Base as base, Added as added}
use Rattle.order.specs.Lists.{one}
use Rattle.order.proofs.Tests.{and_of}
use Rattle.order.proofs.Pairs.{AllPairs}
use Rattle.order.proofs.Ascending.{At, at_length, get_or_at}
use Rattle.order.proofs.Splice.{insert_at, without_at}
use Rattle.words.specs.declared.Entry.{Entry}
use Rattle.model.specs.Row.{Row, key}
use Rattle.model.specs.Cell.{to, put}
use Rattle.model.specs.Layer.{Edit, at, add, strike, change, Layer, struck, rows_after}
use Rattle.model.specs.Raw.{numbers_of, layer_of}
use Rattle.words.specs.Entry.{ADD, STRIKE, add_entry, strike_entry, change_entry}
use Rattle.model.specs.Fit.{keys_below}
use Rattle.model.specs.Read.{read}
use Rattle.model.specs.Position.{back}
use Rattle.model.specs.Edits.{before, add_row, strike_origin, strike_row, change_base, change_added_row, change_row_no}
use Rattle.theory.proofs.Count.{read_length}
use Rattle.theory.proofs.Column.{singles, singles_length}
use Rattle.theory.proofs.Edits.{set_composed}
use Rattle.theory.proofs.Origin.{Stands, back_row}
use Rattle.theory.proofs.Readback.{sound_wide}
use Rattle.store.specs.Numbers.{entry_numbers}
use Rattle.enter.specs.declared.Move.{Move}
use Rattle.enter.specs.declared.Move.TheVariants.{Number as number}
use Rattle.write.specs.Plans.{Splices, Sets, Plans, splices, sets}
use Rattle.write.proofs.Layers.{Written, strike_numbers, change_numbers}
use Rattle.landing.specs.Landing.{aim, landing, changes_first}
use Rattle.landing.proofs.Landed.{landing_le, lands_after, lands_first}
use Rattle.landing.proofs.Known.{Known}
use Rattle.landing.proofs.Shown.{aim_add}
use Rattle.plan.specs.Moves.{padded, add_splice, strike_splice, one_of}
use Rattle.plan.proofs.Struck.{in_turn_lem, strike_splice_lem}
use Rattle.plan.proofs.Changed.{aim_change, change_splice, first_there, first_change, value_set, change_at}

-- eight zeros with a row written over their front
drop_zeros : (n k : ℕ) → drop n (replicate k 0) ≡ replicate {A = ℕ} (k - n) 0
drop_zeros zero k = ap (λ (n : ℕ). replicate n 0) (sym (sub-zero k))
drop_zeros (suc n) zero = ap (λ (n : ℕ). replicate n 0) (sym (zero-sub (suc n)))
drop_zeros (suc n) (suc k) = drop_zeros n k ∙ ap (λ (n : ℕ). replicate n 0) (sym (suc-sub-suc k n))

pub filled : (row : List ℕ) → paste (replicate 8 0) 0 row (length row) ≡ row ++ replicate (8 - length row) 0
filled row = rw (take-length row, zero-add, drop_zeros (length row) 8)

pub key_first : (row : Row) → get_or row 0 0 ≡ key row
unfolding key
key_first row = refl

-- the splice of an add, from its position, where it lands and its entry
pub add_is : (K : List ℕ) (L : Layer) (row : Row) (p i : ℕ) → p ≡ keys_below (key row) K
    → i ≡ landing (aim p ADD (key row)) L
    → (e : Entry) → e ≡ add_entry p (padded row) → record { i = i; gone = 0; comes = Some e } ≡ add_splice K L row
add_is K L row p i ranks lands e f =
    let j : i ≡ landing (aim (keys_below (key row) K) ADD (key row)) L =
    lands ∙ ap (λ (n : ℕ). landing (aim n ADD (key row)) L) ranks in
    let g : e ≡ add_entry (keys_below (key row) K) (padded row) = f ∙ ap (λ (n : ℕ). add_entry n (padded row)) ranks in
    λ x. record { i = j x; gone = 0; comes = Some (g x) }

module _ {c m : ℕ} {raw K : List ℕ} (N : Known c m raw K) where
  abbrev L : Layer
  L = layer_of c m raw

  -- the layer as it is written in its slice
  pub written : Written c m raw L
  written = record {
    numbers = N.acc.numbers;
    size = N.acc.size;
    room = N.acc.held.room;
    wide = λ e k. sound_wide c (length K) N.acc.held.some e (N.acc.each e k);
  }

  pub sorted : AllPairs before L
  sorted = N.good.fit.sorted

  -- the numbers of an add's entry are those of the add
  pub add_numbers_lem : (p : ℕ) (row : Row) → length row ≡ c
      → entry_numbers c (add_entry p (padded row)) ≡ numbers_of c (at p (add row))
  add_numbers_lem p row l = ap (λ (t : List ℕ). p ∷ ADD ∷ t) (take_at row (replicate (8 - length row) 0) c l)

  -- add a row: no entry goes, and its add comes where it lands
  pub add_splices : (row : Row) → length row ≡ c → Splices c L (add_row K row L) (add_splice K L row)
  unfolding add_row
  add_splices row l =
      let p = keys_below (key row) K in
      let x = aim p ADD (key row) in
      let i = landing x L in
      let same : (d : Edit) → before d (at p (add row)) ≡ before d x = λ d. sym (aim_add d p (key row) row refl) in
      record {
        new = at p (add row) ∷ [];
        within = omega (arith, landing_le x L);
        leads =
            insert_at before (at p (add row)) i L (λ d n. same d ∙ lands_after x L i refl d n)
            (λ d n. same d ∙ lands_first x L i refl sorted d n)
            ∙ ap (λ (n : ℕ). take i L ++ (at p (add row) ∷ drop n L)) (sym (add-zero i));
        brings = (at p (add row), refl, add_numbers_lem p row l, omega (arith, l));
      }

  -- a strike's entry has the numbers of the strike, c + 2 of them
  pub struck_numbers : (s k : ℕ) → entry_numbers c (strike_entry s k) ≡ numbers_of c (at s (strike k))
  struck_numbers s k = strike_numbers c s k N.acc.held.some N.acc.held.columns

  pub struck_wide : (s k : ℕ) → length (numbers_of c (at s (strike k))) ≡ c + 2
  struck_wide s k = sound_wide c (suc s) N.acc.held.some (at s (strike k)) (lt-ltb s (suc s) (omega arith))

  -- strike what stands there: a base row's changes go, from where the strike lands up to the first entry past the row,
  -- and it comes; an added row's entry goes
  unfoldable pub strike_from_lem : (o : Origin) → Stands (length K) L o
      → Splices c L (strike_origin K L o) (strike_splice K L o)
  strike_from_lem (base s) w =
      let i = landing (aim s STRIKE 0) L in
      let end = landing (aim (s + 1) ADD 0) L in
      record {
        new = at s (strike (get_or K s 0)) ∷ [];
        within = (in_turn_lem s L sorted i end refl refl).1;
        leads = strike_splice_lem s L sorted i end refl refl K w.1;
        brings = (at s (strike (get_or K s 0)), refl, struck_numbers s (get_or K s 0), struck_wide s (get_or K s 0));
      }
  strike_from_lem (added i) w =
      record {
        new = [];
        within = omega (arith, at_length w.2);
        leads = without_at i L;
        brings = refl;
      }

  -- Change a cell of a base row, where i is where its change lands.
  module _ (s j v i : ℕ) (l : 1 ≤ j) (g : j < c) (p : i ≡ landing (aim s j 0) L) where
    lands : i ≡ landing (at s (change j (to 0))) L
    lands = p ∙ ap (λ (d : Edit). landing d L) (aim_change s j (omega (arith, N.acc.held.columns)))

    changed : (t : Bool) → changes_first s j (drop i L) ≡ t
        → change_base s j (to v) L ≡ take i L ++ (at s (change j (to v)) ∷ drop (i + one t) L)
    changed t q = change_splice s j (to v) L sorted i lands t q (to v) (sym (set_composed s j v L))

    -- it has none: the new one comes
    pub change_comes : changes_first s j (drop i L) ≡ false → (e : Entry) → e ≡ change_entry s j v
        → Splices c L (change_base s j (to v) L) (record { i = i; gone = 0; comes = Some e })
    change_comes q e f =
        let h = N.acc.held in
        record {
          new = at s (change j (to v)) ∷ [];
          within = omega (arith, first_there s j (to v) L sorted i lands false q);
          leads = changed false q;
          brings = (
            at s (change j (to v)),
            refl,
            ap (entry_numbers c) f ∙ change_numbers c s v h.some h.columns j,
            sound_wide c (suc s) h.some (at s (change j (to v)))
                (and_of (ltb s (suc s)) (leb 1 j && ltb j c) (lt-ltb s (suc s) (omega arith))
                (and_of (leb 1 j) (ltb j c) (le-leb 1 j l) (lt-ltb j c g))),
          );
        }

    -- it has one: that gets the value
    pub change_stands : changes_first s j (drop i L) ≡ true
        → Sets c L (change_base s j (to v) L) (record { i = i; j = 0; v = v })
    change_stands q =
        let w = first_change s j i L q in
        record {
          old = at s (change j w.0);
          new = at s (change j (to v));
          there = w.1;
          column = omega arith;
          leads = changed true q;
          numbers = value_set c s j v w.0;
        }

    pub change_plans : (t : Bool) → t ≡ changes_first s j (drop i L) → (e : Entry) → e ≡ change_entry s j v
        → Plans c L (change_base s j (to v) L)
        (one_of t (record { i = i; j = 0; v = v }) (record { i = i; gone = 0; comes = Some e }))
    change_plans true q e f = sets (change_stands (sym q))
    change_plans false q e f = splices (change_comes (sym q) e f)

  -- what stands behind a row number below the shown rows
  module _ (r : ℕ) (h : r < rows_after (length K) L) where
    pub stands : Stands (length K) L (back (length K) L r)
    stands =
        let T = singles K in
        let e : length (read T L) ≡ rows_after (length K) L = read_length T L N.good.fit
        ∙ ap (λ (n : ℕ). rows_after n L) (singles_length K) in
        let w = back_row T L r (get_or (read T L) r []) (get_or_at (read T L) r [] (omega (arith, e))) in
        rw (singles_length K) at w.stands

    pub of_base : (s : ℕ) → back (length K) L r ≡ base s → (s < length K) × (struck s L ≡ false)
    of_base s e = subst (Stands (length K) L) e stands

    pub of_added : (i : ℕ) → back (length K) L r ≡ added i → (p : ℕ) × (q : Row) × At (at p (add q)) i 0 L
    of_added i e = subst (Stands (length K) L) e stands

    pub change_of_base : (j v s : ℕ) → back (length K) L r ≡ base s → (p : Move)
        → Plans c L (change_base s j (to v) L) p
        → Plans c L (change_row_no K r j (to v) L) p
    unfolding change_row_no
    change_of_base j v s o p w = rw o w

    -- change a cell of an added row: its value alone is set
    pub change_of_added : (j v i : ℕ) → back (length K) L r ≡ added i → j < c
        → Plans c L (change_row_no K r j (to v) L) (number (record { i = i; j = j; v = v }))
    unfolding change_row_no put
    change_of_added j v i e l =
        let w = of_added i e in
        let t : 2 + j ≡ suc (suc j) = omega arith in
        rw e (sets {x = record { i = i; j = j; v = v }} (record {
          old = at w.0 (add w.1);
          new = change_added_row j (to v) (at w.0 (add w.1));
          there = w.2;
          column = l;
          leads = change_at i j (to v) (at w.0 (add w.1)) L w.2;
          numbers = rw t;
        }))

  -- strike a row number below the shown rows
  pub strike_splices : (r : ℕ) → r < rows_after (length K) L
      → Splices c L (strike_row K r L) (strike_splice K L (back (length K) L r))
  unfolding strike_row
  strike_splices r h = strike_from_lem (back (length K) L r) (stands r h)
