-- Two sets that make one change of one cell: combined, they have it once, and the table is as if only one had made it.
-- Assumes nothing.
use mathlib.Core.Path.{◌≡◌, refl, sym, ap, ◌∙◌}
use mathlib.Core.Logic.{◌⊎◌, inl, inr, ⊎_elim}
use mathlib.Core.Bool.{Bool, true, false, not, cond, true≢false}
use mathlib.Core.List.Memᴰ.{cast as mem_cast}
use mathlib.Core.List.Memᴰ.{head as here}
use mathlib.Core.List.Memᴰ.{not-nil}
use mathlib.Core.List.Memᴰ.{tail as next}
use mathlib.Core.List.{
  List,
  [],
  ◌∷◌,
  Memᴰ as Mem,
}
use Prim.Native.Nat.{ℕ}
use lib.ListN.{get_or}
use lib.Dec.{ltb, eqb}
use borrow.Author.Tests.{eqb-true, eqb-false, eq-eqb, ne_eqb, not-true, not-false}
use Rattle.order.specs.Lists.{count, ascending, filter, insert, in_turn}
use Rattle.order.proofs.Tests.{tests, impossible, and_l, and_r, and_of, eqb_sym, not_passed}
use Rattle.order.proofs.Members.{any_none, filter_mem, mem_filter, insert_mem, mem_insert}
use Rattle.order.proofs.Pairs.{AllPairs, pairs_two, pairs_filter, pairs_insert, pairs_ext}
use Rattle.order.proofs.Counts.{count_once}
use Rattle.order.proofs.Ascending.{AscFrom, below, asc_of}
use Rattle.order.proofs.Edited.{turn_keeps, turn_idle}
use Rattle.order.proofs.Gather.{gather_filter, gather_kept, gather_same, filter_gather}
use Rattle.model.specs.Row.{Table, key, keys}
use Rattle.model.specs.Cell.{CellEdit, over}
use Rattle.model.specs.Layer.{Deed, add, strike, change, Edit, at, Layer, changes_cell}
use Rattle.model.specs.Read.{read}
use Rattle.model.specs.Edits.{deed_before, before, over_deed}
use Rattle.model.specs.Meaning.{key_of, concerning, meaning}
use Rattle.model.specs.Conflict.{conflict}
use Rattle.model.specs.Redo.{combine}
use Rattle.model.specs.Move.{move}
use Rattle.theory.proofs.Cell.{over_same}
use Rattle.theory.proofs.Layer.{struck_of}
use Rattle.theory.proofs.Edits.{deed_trans, deed_asym, level}
use Rattle.theory.proofs.Fit.{Fit, Good}
use Rattle.theory.proofs.Conflict.{conflict_of, of_conflict, apart}
use Rattle.theory.proofs.Meaning.{
  meaning_mem,
  mem_meaning,
  position_of,
  one_position,
  Meant,
  nothing,
  adds,
  strikes,
  replaces,
  changes,
  meaning_shape,
}
use Rattle.theory.proofs.Move.{Beside, move_good}
use Rattle.theory.proofs.Moved.{together, meaning_moved}
use Rattle.theory.proofs.Demand3.{Tested, tested_good, beside}
use Rattle.theory.proofs.Joined.{adds_row, changes_column, composed_deeds, change_deeds, strike_to, change_to, add_to, joined}
use Rattle.theory.proofs.Edited.{good_less}
use Rattle.theory.proofs.Canonical.{canonical}
use Rattle.theory.proofs.Combine.{combine_good, combine_reads, meaning_combined}

-- the set without its change of column j of base row s
abbrev pub sparing : ℕ → ℕ → Layer → Layer
sparing s j L = filter (λ e. not (changes_cell s j e)) L

-- the same of the deeds for a key
abbrev sparing_deeds : ℕ → List Deed → List Deed
sparing_deeds j ds = filter (λ d. not (changes_column j d)) ds

-- deeds that are changes, and such deeds in column order, among them e of column j
abbrev Changes : List Deed → Type 0
Changes ds = (d : Deed) → Mem d ds → (i : ℕ) × (f : CellEdit) × (d ≡ change i f)

record Has (j : ℕ) (e : CellEdit) (ds : List Deed) : Type 0 where
  alone : Changes ds
  sorted : AllPairs deed_before ds
  has : Mem (change j e) ds

-- Deeds for a key that have a change are changes alone.
has_change : (g j : ℕ) (e : CellEdit) (ds : List Deed) → Meant g ds → Mem (change j e) ds → Has j e ds
has_change g j e ds nothing m = absurd (not-nil m)
has_change g j e ds (adds r k) (here h) = impossible (cc)
has_change g j e ds (adds r k) (next n) = absurd (not-nil n)
has_change g j e ds strikes (here h) = impossible (cc)
has_change g j e ds strikes (next n) = absurd (not-nil n)
has_change g j e ds (replaces r k) (here h) = impossible (cc)
has_change g j e ds (replaces r k) (next (here h)) = impossible (cc)
has_change g j e ds (replaces r k) (next (next n)) = absurd (not-nil n)
has_change g j e ds (changes es each o) m = record { alone = each; sorted = o; has = m }

-- in order they change a column once
one_change : (ds : List Deed) → AllPairs deed_before ds → (j : ℕ) (e f : CellEdit) → Mem (change j e) ds → Mem (change j f) ds
    → f ≡ e
one_change ds o j e f m n = go (pairs_two deed_before ds o (change j e) (change j f) m n)
  where
    go : (change j e ≡ change j f) ⊎ ((ltb j j ≡ true) ⊎ (ltb j j ≡ true)) → f ≡ e
    go (inl h) = cc
    go (inr (inl h)) = absurd (omega tests)
    go (inr (inr h)) = absurd (omega tests)

-- a change over the same change is that change
over_deed_lem : (j : ℕ) (e : CellEdit) (d : Deed) → ((f : CellEdit) → change j f ≡ d → f ≡ e) → over_deed j e d ≡ e
over_deed_lem j e (add r) h = refl
over_deed_lem j e (strike k) h = refl
over_deed_lem j e (change i f) h = go (eqb j i) refl
  where
    go : (t : Bool) → eqb j i ≡ t → cond t (over e f) e ≡ e
    go true g = ap (over e) (h f (ap (λ (k : ℕ). change k f) (eqb-true j i g))) ∙ over_same e
    go false g = refl

composed_same : (j : ℕ) (e : CellEdit) (ds : List Deed) → ((f : CellEdit) → Mem (change j f) ds → f ≡ e)
    → composed_deeds j e ds ≡ e
composed_same j e [] h = refl
composed_same j e (d ∷ ds) h =
    ap (λ (c : CellEdit). over_deed j c d) (composed_same j e ds (λ f m. h f (next m))) ∙ over_deed_lem j e d (λ f g. h f (here g))

-- A change of column i entered in the place of that of its column.
module _ (ds : List Deed) (i : ℕ) (f : CellEdit) where
  abbrev new : Deed
  new = change i (composed_deeds i f ds)

  abbrev entered : List Deed
  entered = insert deed_before new (sparing_deeds i ds)

  abbrev Entered : Deed → Type 0
  Entered d = (d ≡ new) ⊎ (Mem d ds × (changes_column i d ≡ false))

  entered_mem : (d : Deed) → Mem d entered → Entered d
  entered_mem d m =
      ⊎_elim (λ h. inl h) (λ n. let w = filter_mem _ ds d n in inr (w.0, not-true (changes_column i d) w.1))
      (insert_mem deed_before new (sparing_deeds i ds) d m)

  mem_entered : (d : Deed) → Entered d → Mem d entered
  mem_entered d (inl h) = mem_insert deed_before new (sparing_deeds i ds) d (inl h)
  mem_entered d (inr w) = mem_insert deed_before new (sparing_deeds i ds) d (inr (mem_filter _ ds d w.0 (ap not w.1)))

-- A change done to changes in column order, among them e of column j.
module _ (j : ℕ) (e : CellEdit) (ds : List Deed) (H : Has j e ds) where
  module _ (i : ℕ) (f : CellEdit) where
    change_enters : change_deeds i f ds ≡ entered ds i f
    change_enters = rw (any_none adds_row ds (λ d m. ap adds_row (H.alone d m).2))

    entered_sorted : AllPairs deed_before (entered ds i f)
    entered_sorted =
        pairs_insert deed_before (new ds i f) (sparing_deeds i ds) deed_trans placed (pairs_filter deed_before _ ds H.sorted)
      where
        after : (k : ℕ) → eqb i k ≡ false → ltb k i ≡ false → ltb i k ≡ true
        after k g h = omega tests

        placed : (d : Deed) → Mem d (sparing_deeds i ds) → deed_before d (new ds i f) ≡ false → deed_before (new ds i f) d ≡ true
        placed d m h =
            let w = filter_mem _ ds d m in
            let z = H.alone d w.0 in
            ap (deed_before (new ds i f)) z.2
            ∙ after z.0 (sym (ap (changes_column i) z.2) ∙ not-true (changes_column i d) w.1)
            (sym (ap (λ (x : Deed). deed_before x (new ds i f)) z.2) ∙ h)

  -- a change of another column: e is still among them
  stays : (i : ℕ) (f : CellEdit) → eqb j i ≡ false → Has j e (change_deeds i f ds)
  stays i f g = rw (change_enters i f) (record {
    alone = λ d m. ⊎_elim (λ h. (i, composed_deeds i f ds, h)) (λ w. H.alone d w.0) (entered_mem ds i f d m);
    sorted = entered_sorted i f;
    has = mem_entered ds i f (change j e) (inr (H.has, eqb_sym i j ∙ g));
  })

  its_edit : (f : CellEdit) → Mem (change j f) ds → f ≡ e
  its_edit f m = one_change ds H.sorted j e f H.has m

  -- the change over those of column j is e, and whatever was there is there
  same : new ds j e ≡ change j e
  same = ap (change j) (composed_same j e ds its_edit)

  come : (d : Deed) → Mem d ds → Entered ds j e d
  come d m = let z = H.alone d m in go z.0 z.1 z.2 (eqb j z.0) refl
    where
      go : (i : ℕ) (f : CellEdit) → d ≡ change i f → (t : Bool) → eqb j i ≡ t → Entered ds j e d
      go i f h true g =
          let dj : d ≡ change j f = h ∙ ap (λ (k : ℕ). change k f) (sym (eqb-true j i g)) in
          inl (dj ∙ (ap (change j) (its_edit f (mem_cast {b = d} (sym dj) m)) ∙ sym same))
      go i f h false g = inr (m, ap (changes_column j) h ∙ g)

  -- so e of column j, done again, leaves them
  done_again : change_deeds j e ds ≡ ds
  done_again =
      change_enters j e
      ∙ pairs_ext deed_before deed_asym (entered ds j e) ds (entered_sorted j e) H.sorted
      (λ d m. ⊎_elim (λ h. mem_cast {b = change j e} (h ∙ same) H.has) (λ w. w.0) (entered_mem ds j e d m))
      (λ d m. mem_entered ds j e d (come d m))

  again : (i : ℕ) (f : CellEdit) → j ≡ i → f ≡ e → change_deeds i f ds ≡ ds
  again i f g h =
      ap (λ (k : ℕ). change_deeds k f ds) (sym g) ∙ (ap (λ (x : CellEdit). change_deeds j x ds) h ∙ done_again)

-- Deeds done in turn to deeds that have e of column j, where they change column j by e alone.
module _ (j : ℕ) (e : CellEdit) where
  abbrev Only : List Deed → Type 0
  Only ws = (f : CellEdit) → Mem (change j f) ws → f ≡ e

  only_here : (i : ℕ) (f : CellEdit) (ws : List Deed) → Only ws → Mem (change i f) ws → j ≡ i → f ≡ e
  only_here i f ws h m g = h f (mem_cast {b = change i f} (ap (λ (k : ℕ). change k f) g) m)

  -- they have it afterwards
  has_after : (ws ds : List Deed) → Has j e ds → Only ws → Has j e (in_turn change_to ws ds)
  has_after ws ds H h = turn_keeps (Has j e) change_to ws ds step H
    where
      step : (d : Deed) → Mem d ws → (xs : List Deed) → Has j e xs → Has j e (change_to d xs)
      step (add r) m xs G = G
      step (strike k) m xs G = G
      step (change i f) m xs G = go (eqb j i) refl
        where
          go : (t : Bool) → eqb j i ≡ t → Has j e (change_deeds i f xs)
          go true g = let ji = eqb-true j i g in rw (again j e xs G i f ji (only_here i f ws h m ji)) G
          go false g = stays j e xs G i f g

  -- and what else is done is the same without it
  spared_after : (ws ds : List Deed) → Has j e ds → Only ws → in_turn change_to ws ds ≡ in_turn change_to (sparing_deeds j ws) ds
  spared_after [] ds H h = refl
  spared_after (add r ∷ ws) ds H h = spared_after ws ds H (λ f m. h f (next m))
  spared_after (strike k ∷ ws) ds H h = spared_after ws ds H (λ f m. h f (next m))
  spared_after (change i f ∷ ws) ds H h = go (λ xs G. spared_after ws xs G (λ f m. h f (next m))) (eqb j i) refl
    where
      go : ((xs : List Deed) → Has j e xs → in_turn change_to ws xs ≡ in_turn change_to (sparing_deeds j ws) xs)
          → (t : Bool) → eqb j i ≡ t
          → in_turn change_to ws (change_deeds i f ds)
          ≡ in_turn change_to (cond (not t) (change i f ∷ sparing_deeds j ws) (sparing_deeds j ws)) ds
      go ih true g =
          let ji = eqb-true j i g in
          ap (in_turn change_to ws) (again j e ds H i f ji (only_here i f (change i f ∷ ws) h (here refl) ji)) ∙ ih ds H
      go ih false g = ih (change_deeds i f ds) (stays j e ds H i f g)

-- Changes alone, done to deeds, are done one after the other.
joined_changes : (ds ws : List Deed) → Changes ws → joined ds ws ≡ in_turn change_to ws ds
unfolding joined
joined_changes ds ws h =
    turn_idle add_to ws (in_turn change_to ws (in_turn strike_to ws ds))
    (λ d m. ap (λ (x : Deed). add_to x (in_turn change_to ws (in_turn strike_to ws ds))) (h d m).2)
    ∙ ap (in_turn change_to ws) (turn_idle strike_to ws ds (λ d m. ap (λ (x : Deed). strike_to x ds) (h d m).2))

-- two sides that have one change: it is there, and the upper side may spare it
module _ (j : ℕ) (e : CellEdit) (ds ws : List Deed) (H : Has j e ds) (G : Has j e ws) where
  joined_has : Has j e (joined ds ws)
  joined_has = rw (joined_changes ds ws G.alone) (has_after j e ws ds H (its_edit j e ws G))

  joined_spared : joined ds ws ≡ joined ds (sparing_deeds j ws)
  joined_spared =
      joined_changes ds ws G.alone
      ∙ (spared_after j e ws ds H (its_edit j e ws G)
      ∙ sym (joined_changes ds (sparing_deeds j ws) (λ d m. G.alone d (filter_mem _ ws d m).0)))

-- changes that the lower side has already add nothing
joined_nothing : (ds ws : List Deed) → Changes ws → ((j : ℕ) (e : CellEdit) → Mem (change j e) ws → Has j e ds) → joined ds ws ≡ ds
joined_nothing ds ws h H = joined_changes ds ws h ∙ turn_idle change_to ws ds step
  where
    step : (d : Deed) → Mem d ws → change_to d ds ≡ ds
    step (add r) m = refl
    step (strike k) m = refl
    step (change j e) m = done_again j e ds (H j e m)

-- What a set without one change means for a key.
module _ (T : Table) (L : Layer) (a : AscFrom key 0 T) (F : Fit T L) (s j : ℕ) (e : CellEdit) (m : Mem (at s (change j e)) L)
    (k : ℕ) where
  abbrev gives : Edit → List Deed
  gives = concerning (keys T) k

  abbrev kept : Edit → Bool
  kept d = not (changes_cell s j d)

  spared_other : (get_or (keys T) s 0 ≡ k → ⊥) → meaning (keys T) (sparing s j L) k ≡ meaning (keys T) L k
  unfolding meaning
  spared_other ne = gather_filter gives kept L (λ d n h. none d (not-false (changes_cell s j d) h))
    where
      none : (d : Edit) → changes_cell s j d ≡ true → gives d ≡ []
      none (at p (add r)) h = absurd (true≢false (sym h))
      none (at p (strike l)) h = absurd (true≢false (sym h))
      none (at p (change i f)) h =
          let sp : s ≡ p = eqb-true s p (and_l (eqb s p) (eqb j i) h) in
          rw (ne_eqb (get_or (keys T) p 0) k (λ g. ne (ap (λ (t : ℕ). get_or (keys T) t 0) sp ∙ g)))

  spared_own : get_or (keys T) s 0 ≡ k → meaning (keys T) (sparing s j L) k ≡ sparing_deeds j (meaning (keys T) L k)
  unfolding meaning
  spared_own h =
      gather_kept gives kept L
      ∙ (gather_same (λ d. cond (kept d) (gives d) []) (λ d. sparing_deeds j (gives d)) L each
      ∙ sym (filter_gather gives (λ d. not (changes_column j d)) L))
    where
      alike : (p : ℕ) (d : Deed) → Mem (at p d) L → key_of (keys T) (at p d) ≡ k → kept (at p d) ≡ not (changes_column j d)
      alike p (add r) n g = refl
      alike p (strike l) n g = refl
      alike p (change i f) n g =
          rw (eq-eqb s p (one_position T L a F s p (change j e) (change i f) m n (h ∙ sym g)))

      each : (d : Edit) → Mem d L → cond (kept d) (gives d) [] ≡ sparing_deeds j (gives d)
      each (at p d) n = go (eqb (key_of (keys T) (at p d)) k) refl
        where
          go : (t : Bool) → eqb (key_of (keys T) (at p d)) k ≡ t
              → cond (kept (at p d)) (cond t (d ∷ []) []) [] ≡ sparing_deeds j (cond t (d ∷ []) [])
          go true g = ap (λ (t : Bool). cond t (d ∷ []) []) (alike p d n (eqb-true (key_of (keys T) (at p d)) k g))
          go false g = elim (kept (at p d)) as (λ t. cond t [] [] ≡ sparing_deeds j []) [ true ↦ refl | false ↦ refl ]

-- the deeds for the key of a row that a set changes are changes
has_deeds : (T : Table) (L : Layer) → AscFrom key 0 T → Fit T L → (s j : ℕ) (e : CellEdit) → Mem (at s (change j e)) L
    → (k : ℕ) → get_or (keys T) s 0 ≡ k → Has j e (meaning (keys T) L k)
has_deeds T L a F s j e m k h =
    has_change k j e (meaning (keys T) L k) (meaning_shape T L a F k) (mem_meaning (keys T) L k s (change j e) m h)

-- where a set is free of conflict with another, so is a part of it
conflict_less : (M X Y : Layer) → ((e : Edit) → Mem e M → Mem e X) → conflict X Y ≡ false → conflict M Y ≡ false
conflict_less M X Y sub free = not_passed (conflict M Y) (λ h.
    let w = of_conflict M Y h in
    true≢false (sym (conflict_of X Y w.0 w.1 (sub w.0 w.2) w.3 w.4) ∙ free))

-- two edits in order are not of one cell
cell_twice : (s j : ℕ) (d e : Edit) → changes_cell s j d ≡ true → changes_cell s j e ≡ true → before d e ≡ true → ⊥
cell_twice s j (at p (add r)) e h g b = true≢false (sym h)
cell_twice s j (at p (strike k)) e h g b = true≢false (sym h)
cell_twice s j (at p (change i f)) (at q (add r)) h g b = true≢false (sym g)
cell_twice s j (at p (change i f)) (at q (strike k)) h g b = true≢false (sym g)
cell_twice s j (at p (change i f)) (at q (change l c)) h g b =
    let sp : s ≡ p = eqb-true s p (and_l (eqb s p) (eqb j i) h) in
    let sq : s ≡ q = eqb-true s q (and_l (eqb s q) (eqb j l) g) in
    let lt : ltb i l ≡ true = level p q (change i f) (change l c) (sym sp ∙ sq) b in
    omega (tests, and_r (eqb s p) (eqb j i) h, and_r (eqb s q) (eqb j l) g)

-- Mine moved past theirs and combined into them.
module _ (c : ℕ) (T : Table) (X Y : Layer) (GX : Good c T X) (GY : Good c T Y) (B : Beside T X Y) where
  moved_good : Good c (read T Y) (move X Y)
  moved_good = move_good T X Y B c GX.each

  both_good : Good c T (combine (keys T) Y (move X Y))
  both_good = combine_good c T Y (move X Y) B.ascends GY moved_good

  both_reads : read T (combine (keys T) Y (move X Y)) ≡ together T X Y
  both_reads = combine_reads c T Y (move X Y) B.ascends GY moved_good

  both_means : (k : ℕ) → meaning (keys T) (combine (keys T) Y (move X Y)) k ≡ joined (meaning (keys T) Y k) (meaning (keys T) X k)
  both_means k =
      meaning_combined c T Y (move X Y) B.ascends GY moved_good k
      ∙ ap (joined (meaning (keys T) Y k)) (meaning_moved T X Y B k)

module _ (c : ℕ) (T : Table) (X Y : Layer) (t : ascending (keys T) ≡ true) (GX : Tested c T X) (GY : Tested c T Y)
    (free : conflict X Y ≡ false) where
  rises : AscFrom key 0 T
  rises = asc_of key T t

  good_x : Good c T X
  good_x = tested_good c T X t GX

  good_y : Good c T Y
  good_y = tested_good c T Y t GY

  besides : Beside T X Y
  besides = beside c T X Y t GX GY free

  layer_good : Good c T (combine (keys T) Y (move X Y))
  layer_good = both_good c T X Y good_x good_y besides

  layer_means : (k : ℕ) → meaning (keys T) (combine (keys T) Y (move X Y)) k ≡ joined (meaning (keys T) Y k) (meaning (keys T) X k)
  layer_means = both_means c T X Y good_x good_y besides

  module _ (s j : ℕ) (e : CellEdit) (mine : Mem (at s (change j e)) X) (theirs : Mem (at s (change j e)) Y) where
    spared_in : (d : Edit) → Mem d (sparing s j X) → Mem d X
    spared_in d m = (filter_mem _ X d m).0

    -- my set without it passes theirs too
    pub spared_free : conflict (sparing s j X) Y ≡ false
    spared_free = conflict_less (sparing s j X) X Y spared_in free

    spared_good : Good c T (sparing s j X)
    spared_good =
        good_less c T X (sparing s j X) good_x spared_in (λ p k m. mem_filter _ X (at p (strike k)) m refl)
        (pairs_filter before _ X good_x.fit.sorted)

    spared_beside : Beside T (sparing s j X) Y
    spared_beside = record {
      ascends = rises;
      mine = spared_good.fit;
      theirs = good_y.fit;
      apart = apart (sparing s j X) Y spared_free;
    }

    -- the key of the row, and the deeds of both sides for it
    abbrev k : ℕ
    k = get_or (keys T) s 0

    my_deeds : (g : ℕ) → k ≡ g → Has j e (meaning (keys T) X g)
    my_deeds = has_deeds T X rises good_x.fit s j e mine

    their_deeds : (g : ℕ) → k ≡ g → Has j e (meaning (keys T) Y g)
    their_deeds = has_deeds T Y rises good_y.fit s j e theirs

    deeds_once : (g : ℕ) → joined (meaning (keys T) Y g) (meaning (keys T) X g)
        ≡ joined (meaning (keys T) Y g) (meaning (keys T) (sparing s j X) g)
    deeds_once g = go (eqb k g) refl
      where
        go : (u : Bool) → eqb k g ≡ u → joined (meaning (keys T) Y g) (meaning (keys T) X g)
            ≡ joined (meaning (keys T) Y g) (meaning (keys T) (sparing s j X) g)
        go true h =
            let kg = eqb-true k g h in
            joined_spared j e (meaning (keys T) Y g) (meaning (keys T) X g) (their_deeds g kg) (my_deeds g kg)
            ∙ ap (joined (meaning (keys T) Y g)) (sym (spared_own T X rises good_x.fit s j e mine g kg))
        go false h =
            ap (joined (meaning (keys T) Y g)) (sym (spared_other T X rises good_x.fit s j e mine g (eqb-false k g h)))

    -- my set, with or without the change that theirs has too, leaves one layer ..
    pub once_layer : combine (keys T) Y (move X Y) ≡ combine (keys T) Y (move (sparing s j X) Y)
    once_layer =
        canonical T (combine (keys T) Y (move X Y)) (combine (keys T) Y (move (sparing s j X) Y)) rises layer_good.fit
        (both_good c T (sparing s j X) Y spared_good good_y spared_beside).fit
        (λ g. layer_means g ∙ (deeds_once g ∙ sym (both_means c T (sparing s j X) Y spared_good good_y spared_beside g)))

    -- .. and one table
    pub once_table : together T X Y ≡ together T (sparing s j X) Y
    once_table =
        sym (both_reads c T X Y good_x good_y besides)
        ∙ (ap (read T) once_layer ∙ both_reads c T (sparing s j X) Y spared_good good_y spared_beside)

    -- and the layer has that change, and no other of the cell
    pub once_kept : Mem (at s (change j e)) (combine (keys T) Y (move X Y))
    once_kept =
        let h = (joined_has j e (meaning (keys T) Y k) (meaning (keys T) X k) (their_deeds k refl) (my_deeds k refl)).has in
        let w = meaning_mem (keys T) (combine (keys T) Y (move X Y)) k (change j e) (rw (layer_means k) h) in
        let sp : s ≡ w.0 = sym (position_of T X rises good_x.fit s (change j e) mine)
        ∙ (ap (λ (l : ℕ). count (below key l) T) (sym w.2)
        ∙ position_of T (combine (keys T) Y (move X Y)) rises layer_good.fit w.0 (change j e) w.1) in
        mem_cast {b = at w.0 (change j e)} (ap (λ (p : ℕ). at p (change j e)) sp) w.1

    pub once_entry : count (changes_cell s j) (combine (keys T) Y (move X Y)) ≡ 1
    once_entry =
        count_once (changes_cell s j) before (cell_twice s j) (combine (keys T) Y (move X Y)) layer_good.fit.sorted
        (at s (change j e)) once_kept (and_of (eqb s s) (eqb j j) (eq-eqb s s refl) (eq-eqb j j refl))

  -- a set of changes that theirs has already adds nothing
  pub nothing_new : ((e : Edit) → Mem e X → Mem e Y) → combine (keys T) Y (move X Y) ≡ Y
  nothing_new sub =
      canonical T (combine (keys T) Y (move X Y)) Y rises layer_good.fit good_y.fit (λ g. layer_means g
      ∙ joined_nothing (meaning (keys T) Y g) (meaning (keys T) X g) (alone g) (has g))
    where
      -- an add or a strike is in conflict with itself
      change_of : (s : ℕ) (d : Deed) → Mem (at s d) X → (j : ℕ) × (e : CellEdit) × (d ≡ change j e)
      change_of s (add r) m = absurd (besides.apart.keys s s r r m (sub (at s (add r)) m) refl)
      change_of s (strike l) m =
          absurd (true≢false (sym (struck_of s l Y (sub (at s (strike l)) m)) ∙ besides.apart.strikes s l m))
      change_of s (change j e) m = (j, e, refl)

      alone : (g : ℕ) → Changes (meaning (keys T) X g)
      alone g d m = let w = meaning_mem (keys T) X g d m in change_of w.0 d w.1

      has : (g j : ℕ) (e : CellEdit) → Mem (change j e) (meaning (keys T) X g) → Has j e (meaning (keys T) Y g)
      has g j e m =
          let w = meaning_mem (keys T) X g (change j e) m in
          has_deeds T Y rises good_y.fit w.0 j e (sub (at w.0 (change j e)) w.1) g w.2
