-- What a combined layer means for a key: the deeds of the lower layer for it, with the upper's strikes, then changes,
-- then adds done to them.
-- Here: what each edit by key makes of the deeds for a key.
-- Assumes nothing.
use mathlib.Core.Path.{◌≡◌, refl, sym, ap, ◌∙◌}
use mathlib.Core.Logic.{◌⊎◌, inl, inr}
use mathlib.Core.Bool.{Bool, true, false, not, cond, true≢false}
use mathlib.Core.List.Memᴰ.{head as here}
use mathlib.Core.List.Memᴰ.{not-nil}
use mathlib.Core.List.Memᴰ.{tail as next}
use mathlib.Core.List.{
  List,
  [],
  ◌∷◌,
  ◌++◌,
  map,
  Memᴰ as Mem,
}
use Prim.Native.Nat.{ℕ, zero, suc, ◌≤◌}
use native.Mathlib.Omega.{arith}
use lib.ListN.{length, get_or, set}
use lib.Dec.{eqb}
use borrow.Author.Tests.{eqb-true, eqb-false, eq-eqb, ne_eqb, le-ltb, not-false}
use Rattle.words.specs.declared.Origin.{Origin}
use Rattle.words.specs.declared.Origin.TheVariants.{Base as base, Added as added}
use Rattle.order.specs.Lists.{count, any, filter, insert, without, gather, in_turn}
use Rattle.order.proofs.Tests.{tests}
use Rattle.order.proofs.Members.{any_of, any_none, filter_mem}
use Rattle.order.proofs.Pairs.{AllPairs, pairs_filter}
use Rattle.order.proofs.Ascending.{AscFrom, At, below, at_mem, at_count, asc_same}
use Rattle.order.proofs.Edited.{at_head, at_tail, without_mem, apart_without}
use Rattle.order.proofs.Gather.{
  gather_insert_none,
  gather_filter,
  gather_without,
  gather_insert,
  filter_gather,
  gather_same,
  gather_kept,
  gather_set,
  map_gather,
}
use Rattle.model.specs.Row.{Row, Table, key, keys}
use Rattle.model.specs.Cell.{CellEdit, to, put}
use Rattle.model.specs.Layer.{Deed, add, strike, change, Edit, at, Layer, struck, changes_row, changes_cell}
use Rattle.model.specs.Read.{read}
use Rattle.model.specs.Position.{back}
use Rattle.model.specs.Fit.{keys_below}
use Rattle.model.specs.Edits.{
  deed_before,
  before,
  enter,
  add_row,
  strike_base,
  over_deed,
  composed,
  change_base,
  strike_origin,
  strike_row,
  change_origin,
  change_added_row,
  change_added,
  change_row_no,
}
use Rattle.model.specs.Meaning.{key_of, concerning, meaning}
use Rattle.theory.proofs.Cell.{put_key_lem}
use Rattle.theory.proofs.Layer.{struck_of, changed_key, cell_of_row}
use Rattle.theory.proofs.Edits.{before_trans, level, set_over}
use Rattle.theory.proofs.Fit.{Fit, key_kept, key_of_lem, below_keys, keys_length}
use Rattle.theory.proofs.Origin.{RowOrigin, back_row, added_at, base_at}
use Rattle.theory.proofs.Meaning.{meaning_mem, mem_meaning, position_of, one_position}

abbrev pub adds_row : Deed → Bool
adds_row (add r) = true
adds_row (strike k) = false
adds_row (change j e) = false

abbrev pub changes_column : ℕ → Deed → Bool
changes_column j (add r) = false
changes_column j (strike k) = false
changes_column j (change i e) = eqb j i

abbrev pub put_deed : ℕ → CellEdit → Deed → Deed
put_deed j e (add r) = add (put r j e)
put_deed j e (strike k) = strike k
put_deed j e (change i f) = change i f

-- the deeds for a key once its row is struck: an added row's deed disappears; else the changes go, and a strike stands
abbrev pub strike_deeds : ℕ → List Deed → List Deed
strike_deeds k ds = cond (any adds_row ds) (filter (λ d. not (adds_row d)) ds) (strike k ∷ [])

-- an edit of column j over what the deeds do to that column
abbrev pub composed_deeds : ℕ → CellEdit → List Deed → CellEdit
composed_deeds j e [] = e
composed_deeds j e (d ∷ ds) = over_deed j (composed_deeds j e ds) d

pub set_composed_deeds : (j v : ℕ) (ds : List Deed) → composed_deeds j (to v) ds ≡ to v
set_composed_deeds j v [] = refl
set_composed_deeds j v (d ∷ ds) = ap (λ (e : CellEdit). over_deed j e d) (set_composed_deeds j v ds) ∙ set_over j v d

-- once a cell of it is changed: an added row takes the change in; else it goes over that of its column, or is entered
abbrev pub change_deeds : ℕ → CellEdit → List Deed → List Deed
change_deeds j e ds =
    cond (any adds_row ds) (map (put_deed j e) ds)
    (insert deed_before (change j (composed_deeds j e ds)) (filter (λ d. not (changes_column j d)) ds))

-- once a row of that key is added
abbrev pub add_deeds : Row → List Deed → List Deed
add_deeds r ds = insert deed_before (add r) ds

abbrev pub strike_to : Deed → List Deed → List Deed
strike_to (add r) ds = ds
strike_to (strike k) ds = strike_deeds k ds
strike_to (change j e) ds = ds

abbrev pub change_to : Deed → List Deed → List Deed
change_to (add r) ds = ds
change_to (strike k) ds = ds
change_to (change j e) ds = change_deeds j e ds

abbrev pub add_to : Deed → List Deed → List Deed
add_to (add r) ds = add_deeds r ds
add_to (strike k) ds = ds
add_to (change j e) ds = ds

-- the lower layer's deeds for a key, then the upper's: strikes, then changes, then adds
unfoldable pub joined : List Deed → List Deed → List Deed
joined ds ws = in_turn add_to ws (in_turn change_to ws (in_turn strike_to ws ds))

-- what an edit gives to the deeds for the key k: nothing where it concerns another key, else its deed
module _ (K : List ℕ) (k s : ℕ) (d : Deed) where
  elsewhere : (key_of K (at s d) ≡ k → ⊥) → concerning K k (at s d) ≡ []
  elsewhere h = rw (ne_eqb (key_of K (at s d)) k h)

  own_deed : key_of K (at s d) ≡ k → concerning K k (at s d) ≡ d ∷ []
  own_deed h = rw (eq-eqb (key_of K (at s d)) k h)

  gathered : (b : Deed) → Mem b (concerning K k (at s d)) → (key_of K (at s d) ≡ k) × (b ≡ d)
  gathered b m = go (eqb (key_of K (at s d)) k) refl m
    where
      go : (t : Bool) → eqb (key_of K (at s d)) k ≡ t → Mem b (cond t (d ∷ []) []) → (key_of K (at s d) ≡ k) × (b ≡ d)
      go true e (here f) = (eqb-true (key_of K (at s d)) k e, f)
      go true e (next n) = absurd (not-nil n)
      go false e n = absurd (not-nil n)

-- at one position the order of edits is that of their deeds
before_level : (p s : ℕ) (d e : Deed) → p ≡ s → before (at p d) (at s e) ≡ deed_before d e
before_level p s d e h = rw (le-ltb p s (omega arith), eq-eqb p s h)

-- deeds that all go, that all stay, and among which no added row takes a change in
all_go : (ds : List Deed) → filter (λ d. false) ds ≡ []
all_go [] = refl
all_go (d ∷ ds) = all_go ds

pub all_stay : (ds : List Deed) → ((d : Deed) → Mem d ds → adds_row d ≡ false) → ds ≡ filter (λ d. not (adds_row d)) ds
all_stay [] h = refl
all_stay (d ∷ ds) h = rw (h d (here refl)) (ap (λ (t : List Deed). d ∷ t) (all_stay ds (λ x m. h x (next m))))

as_is : (j : ℕ) (e : CellEdit) (ds : List Deed) → ((d : Deed) → Mem d ds → adds_row d ≡ false) → ds ≡ map (put_deed j e) ds
as_is j e [] h = refl
as_is j e (add r ∷ ds) h = absurd (true≢false (h (add r) (here refl)))
as_is j e (strike l ∷ ds) h = ap (λ (t : List Deed). strike l ∷ t) (as_is j e ds (λ x m. h x (next m)))
as_is j e (change i f ∷ ds) h = ap (λ (t : List Deed). change i f ∷ t) (as_is j e ds (λ x m. h x (next m)))

-- the added entry number i with its column j changed
pub change_set : (i j : ℕ) (e : CellEdit) (L : Layer) (p : ℕ) (q : Row) → At (at p (add q)) i 0 L
    → change_added i j e L ≡ set L i (at p (add (put q j e)))
change_set i j e [] p q n = refl
change_set zero j e (d ∷ L) p q n = ap (λ (x : Edit). change_added_row j e x ∷ L) (sym (at_head n))
change_set (suc i) j e (d ∷ L) p q n = ap (λ (x : Layer). d ∷ x) (change_set i j e L p q (at_tail n))

-- one layer over an ascending table, and the deeds for the key k
module _ (T : Table) (L : Layer) (a : AscFrom key 0 T) (F : Fit T L) (k : ℕ) where
  abbrev gives : Edit → List Deed
  gives = concerning (keys T) k

  -- an edit of the key is entered among the edits of L: its deed is, in the order of deeds
  enter_own : (s : ℕ) (d : Deed) (M : Layer) → ((e : Edit) → Mem e M → Mem e L) → AllPairs before M
      → key_of (keys T) (at s d) ≡ k → count (below key k) T ≡ s
      → gather gives (enter (at s d) M) ≡ insert deed_before d (gather gives M)
  enter_own s d M sub o h c =
      gather_insert gives before deed_before (at s d) d M (own_deed (keys T) k s d h) before_trans level_with o
    where
      level_with : (x : Edit) → Mem x M → (b : Deed) → Mem b (gives x)
          → (gives x ≡ b ∷ []) × (before x (at s d) ≡ deed_before b d)
      level_with (at p e) m b y =
          let w = gathered (keys T) k p e b y in
          let ps : p ≡ s = sym (position_of T L a F p e (sub (at p e) m))
          ∙ (ap (λ (l : ℕ). count (below key l) T) w.0 ∙ c) in (
            own_deed (keys T) k p e w.0 ∙ ap (λ (x : Deed). x ∷ []) (sym w.1),
            before_level p s e d ps ∙ ap (λ (x : Deed). deed_before x d) (sym w.1),
          )

  -- Add a row.
  pub add_means : (r : Row)
      → meaning (keys T) (add_row (keys T) r L) k
      ≡ cond (eqb (key r) k) (add_deeds r (meaning (keys T) L k)) (meaning (keys T) L k)
  unfolding meaning add_row
  add_means r = go (eqb (key r) k) refl
    where
      s : ℕ
      s = keys_below (key r) (keys T)

      go : (t : Bool) → eqb (key r) k ≡ t
          → gather gives (enter (at s (add r)) L) ≡ cond t (add_deeds r (gather gives L)) (gather gives L)
      go false h = gather_insert_none gives before (at s (add r)) L (elsewhere (keys T) k s (add r) (eqb-false (key r) k h))
      go true h =
          let e : key r ≡ k = eqb-true (key r) k h in
          enter_own s (add r) L (λ x m. m) F.sorted e
          (ap (λ (l : ℕ). count (below key l) T) (sym e) ∙ sym (below_keys (key r) T))

  -- Base row s, which is not struck.
  module _ (s : ℕ) (b : Row) (n : At b s 0 T) (u : struck s L ≡ false) where
    -- where it is the key's, the edits of the key are its changes, at its position
    changes_only : key b ≡ k → (p : ℕ) (d : Deed) → Mem (at p d) L → key_of (keys T) (at p d) ≡ k
        → (p ≡ s) × (j : ℕ) × (f : CellEdit) × (d ≡ change j f)
    changes_only e p (add r) m h = absurd (true≢false (sym (F.fresh p r m s b n (e ∙ sym h)) ∙ u))
    changes_only e p (strike l) m h =
        let w = F.strikes p l m in
        let ps : p ≡ s = asc_same key T a w.1 n (w.2 ∙ (h ∙ sym e)) in
        absurd (true≢false (sym (ap (λ (t : ℕ). struck t L) (sym ps) ∙ struck_of p l L m) ∙ u))
    changes_only e p (change j f) m h =
        let w = F.changes p j f m in (asc_same key T a w.1 n (sym (key_of_lem w.1) ∙ (h ∙ sym e)), j, f, refl)

    none_adds : key b ≡ k → any adds_row (meaning (keys T) L k) ≡ false
    none_adds e = any_none adds_row (meaning (keys T) L k) (λ d m.
        let w = meaning_mem (keys T) L k d m in ap adds_row (changes_only e w.0 d w.1 w.2).3)

    -- The deed d is entered at s, where g drops changes of row s alone.
    module _ (d : Deed) (own : key_of (keys T) (at s d) ≡ key b) (g : Edit → Bool)
        (drops : (e : Edit) → g e ≡ false → changes_row s e ≡ true) where
      -- another key keeps its deeds
      entered_other : (key b ≡ k → ⊥) → gather gives (enter (at s d) (filter g L)) ≡ gather gives L
      entered_other h =
          gather_insert_none gives before (at s d) (filter g L) (elsewhere (keys T) k s d (λ y. h (sym own ∙ y)))
          ∙ gather_filter gives g L (λ x m z. none x (drops x z))
        where
          none : (x : Edit) → changes_row s x ≡ true → gives x ≡ []
          none (at p (add r)) v = absurd (true≢false (sym v))
          none (at p (strike l)) v = absurd (true≢false (sym v))
          none (at p (change j c)) v = elsewhere (keys T) k p (change j c) (λ y.
              h (sym (key_of_lem n) ∙ (ap (λ (t : ℕ). get_or (keys T) t 0) (eqb-true s p v) ∙ y)))

      -- the key of the row loses the deeds that `kept` drops, as g drops their edits
      entered_own : (kept : Deed → Bool) → ((i : ℕ) (c : CellEdit) → g (at s (change i c)) ≡ kept (change i c)) → key b ≡ k
          → gather gives (enter (at s d) (filter g L)) ≡ insert deed_before d (filter kept (gather gives L))
      entered_own kept same e =
          enter_own s d (filter g L) (λ x m. (filter_mem g L x m).0) (pairs_filter before g L F.sorted) (own ∙ e)
          (omega (arith, at_count key 0 0 T a b s n, ap (λ (l : ℕ). count (below key l) T) e))
          ∙ ap (insert deed_before d)
          (gather_kept gives g L
          ∙ (gather_same (λ x. cond (g x) (gives x) []) (λ x. filter kept (gives x)) L each ∙ sym (filter_gather gives kept L)))
        where
          each : (x : Edit) → Mem x L → cond (g x) (gives x) [] ≡ filter kept (gives x)
          each (at p c) m = one (eqb (key_of (keys T) (at p c)) k) refl
            where
              one : (t : Bool) → eqb (key_of (keys T) (at p c)) k ≡ t
                  → cond (g (at p c)) (cond t (c ∷ []) []) [] ≡ filter kept (cond t (c ∷ []) [])
              one false w = elim (g (at p c)) as (λ t. cond t [] [] ≡ filter kept []) [ true ↦ refl | false ↦ refl ]
              one true w =
                  let y = changes_only e p c m (eqb-true (key_of (keys T) (at p c)) k w) in
                  let x : at p c ≡ at s (change y.1 y.2) = cc in
                  ap (λ (t : Bool). cond t (c ∷ []) []) (ap g x ∙ (same y.1 y.2 ∙ ap kept (sym y.3)))

    strike_base_lem : meaning (keys T) (strike_base (keys T) s L) k
        ≡ cond (eqb (key b) k) (strike_deeds (key b) (meaning (keys T) L k)) (meaning (keys T) L k)
    unfolding meaning strike_base
    strike_base_lem = go (eqb (key b) k) refl
      where
        d : Deed
        d = strike (get_or (keys T) s 0)

        g : Edit → Bool
        g = λ e. not (changes_row s e)

        go : (t : Bool) → eqb (key b) k ≡ t
            → gather gives (enter (at s d) (filter g L)) ≡ cond t (strike_deeds (key b) (gather gives L)) (gather gives L)
        go false h = entered_other d (key_of_lem n) g (λ e. not-false (changes_row s e)) (eqb-false (key b) k h)
        go true h =
            let e : key b ≡ k = eqb-true (key b) k h in
            entered_own d (key_of_lem n) g (λ e. not-false (changes_row s e)) (λ d. false) (λ i c. rw (eq-eqb s s refl)) e
            ∙ (ap (insert deed_before d) (all_go (gather gives L))
            ∙ (ap (λ (l : ℕ). strike l ∷ []) (key_of_lem n)
            ∙ sym (ap (λ (t : Bool). cond t (filter (λ x. not (adds_row x)) (gather gives L)) (strike (key b) ∷ []))
            (none_adds e))))

    -- where it is the key's, what the layer does to its column is what the deeds do
    composed_own : key b ≡ k → (j : ℕ) (c : CellEdit) (M : Layer) → ((x : Edit) → Mem x M → Mem x L)
        → composed s j c M ≡ composed_deeds j c (gather gives M)
    composed_own e j c [] sub = refl
    composed_own e j c (at p d ∷ M) sub =
        go (eqb (key_of (keys T) (at p d)) k) refl (composed_own e j c M (λ x m. sub x (next m)))
      where
        idle : (d : Deed) (f : CellEdit) → (key_of (keys T) (at p d) ≡ k → ⊥) → cond (eqb s p) (over_deed j f d) f ≡ f
        idle (add r) f h = elim (eqb s p) as (λ t. cond t f f ≡ f) [ true ↦ refl | false ↦ refl ]
        idle (strike l) f h = elim (eqb s p) as (λ t. cond t f f ≡ f) [ true ↦ refl | false ↦ refl ]
        idle (change i g) f h =
            rw (ne_eqb s p (λ z. h (ap (λ (t : ℕ). get_or (keys T) t 0) (sym z) ∙ (key_of_lem n ∙ e))))

        go : (t : Bool) → eqb (key_of (keys T) (at p d)) k ≡ t → composed s j c M ≡ composed_deeds j c (gather gives M)
            → cond (eqb s p) (over_deed j (composed s j c M) d) (composed s j c M)
            ≡ composed_deeds j c (cond t (d ∷ []) [] ++ gather gives M)
        go false h ih = idle d (composed s j c M) (eqb-false (key_of (keys T) (at p d)) k h) ∙ ih
        go true h ih =
            let y = changes_only e p d (sub (at p d) (here refl)) (eqb-true (key_of (keys T) (at p d)) k h) in
            rw (eq-eqb s p (sym y.0)) (ap (λ (f : CellEdit). over_deed j f d) ih)

    change_base_lem : (j : ℕ) (c : CellEdit) → meaning (keys T) (change_base s j c L) k
        ≡ cond (eqb (key b) k) (change_deeds j c (meaning (keys T) L k)) (meaning (keys T) L k)
    unfolding meaning change_base
    change_base_lem j c = go (eqb (key b) k) refl
      where
        g : Edit → Bool
        g = λ e. not (changes_cell s j e)

        kept : Deed → Bool
        kept = λ x. not (changes_column j x)

        drops : (e : Edit) → g e ≡ false → changes_row s e ≡ true
        drops e h = cell_of_row s j e (not-false (changes_cell s j e) h)

        go : (t : Bool) → eqb (key b) k ≡ t
            → gather gives (enter (at s (change j (composed s j c L))) (filter g L))
            ≡ cond t (change_deeds j c (gather gives L)) (gather gives L)
        go false h = entered_other (change j (composed s j c L)) (key_of_lem n) g drops (eqb-false (key b) k h)
        go true h =
            let e : key b ≡ k = eqb-true (key b) k h in
            entered_own (change j (composed s j c L)) (key_of_lem n) g drops kept (λ i f. rw (eq-eqb s s refl)) e
            ∙ (ap (λ (f : CellEdit). insert deed_before (change j f) (filter kept (gather gives L))) (composed_own e j c L (λ x m. m))
            ∙ sym (ap (λ (t : Bool). cond t (map (put_deed j c) (gather gives L))
            (insert deed_before (change j (composed_deeds j c (gather gives L))) (filter kept (gather gives L))))
            (none_adds e)))

  -- The added entry number i, which adds q.
  module _ (i p : ℕ) (q : Row) (n : At (at p (add q)) i 0 L) where
    some_adds : key q ≡ k → any adds_row (meaning (keys T) L k) ≡ true
    some_adds e = any_of adds_row (meaning (keys T) L k) (add q) (mem_meaning (keys T) L k p (add q) (at_mem n) e) refl

    -- no other entry adds a row of the key
    add_once : key q ≡ k → (x : Edit) → Mem x (without i L) → (d : Deed) → Mem d (gives x) → adds_row d ≡ false
    add_once e (at s (strike l)) m d g = ap adds_row (gathered (keys T) k s (strike l) d g).1
    add_once e (at s (change j f)) m d g = ap adds_row (gathered (keys T) k s (change j f) d g).1
    add_once e (at s (add r)) m d g =
        absurd (two (apart_without before i L (at p (add q)) (at s (add r)) F.sorted n m))
      where
        kr : key r ≡ k
        kr = (gathered (keys T) k s (add r) d g).0

        sp : s ≡ p
        sp = one_position T L a F s p (add r) (add q) (without_mem i L (at s (add r)) m) (at_mem n) (kr ∙ sym e)

        two : (before (at p (add q)) (at s (add r)) ≡ true) ⊎ (before (at s (add r)) (at p (add q)) ≡ true) → ⊥
        two (inl h) = omega (tests, kr, e, level p s (add q) (add r) (sym sp) h)
        two (inr h) = omega (tests, kr, e, level s p (add r) (add q) sp h)

    -- it disappears
    pub strike_added : meaning (keys T) (without i L) k
        ≡ cond (eqb (key q) k) (strike_deeds (key q) (meaning (keys T) L k)) (meaning (keys T) L k)
    unfolding meaning
    strike_added = go (eqb (key q) k) refl
      where
        kept : Deed → Bool
        kept = λ d. not (adds_row d)

        go : (t : Bool) → eqb (key q) k ≡ t
            → gather gives (without i L) ≡ cond t (strike_deeds (key q) (gather gives L)) (gather gives L)
        go false h = gather_without gives i L (at p (add q)) n (elsewhere (keys T) k p (add q) (eqb-false (key q) k h))
        go true h =
            let e : key q ≡ k = eqb-true (key q) k h in
            gather_same gives (λ x. filter kept (gives x)) (without i L) (λ x m. all_stay (gives x) (add_once e x m))
            ∙ (gather_without (λ x. filter kept (gives x)) i L (at p (add q)) n
            (ap (filter kept) (own_deed (keys T) k p (add q) e))
            ∙ (sym (filter_gather gives kept L)
            ∙ sym (ap (λ (t : Bool). cond t (filter kept (gather gives L)) (strike (key q) ∷ [])) (some_adds e))))

    -- its row's column j is changed
    change_added_lem : (j : ℕ) (c : CellEdit) → 1 ≤ j → meaning (keys T) (change_added i j c L) k
        ≡ cond (eqb (key q) k) (change_deeds j c (meaning (keys T) L k)) (meaning (keys T) L k)
    unfolding meaning
    change_added_lem j c past = ap (gather gives) (change_set i j c L p q n) ∙ go (eqb (key q) k) refl
      where
        new : Edit
        new = at p (add (put q j c))

        go : (t : Bool) → eqb (key q) k ≡ t
            → gather gives (set L i new) ≡ cond t (change_deeds j c (gather gives L)) (gather gives L)
        go false h =
            let ne : key q ≡ k → ⊥ = eqb-false (key q) k h in
            gather_set gives gives i L (at p (add q)) new n
            (elsewhere (keys T) k p (add (put q j c)) (λ y. ne (sym (put_key_lem q j c past) ∙ y))
            ∙ sym (elsewhere (keys T) k p (add q) ne))
            (λ x m. refl)
        go true h =
            let e : key q ≡ k = eqb-true (key q) k h in
            gather_set gives (λ x. map (put_deed j c) (gives x)) i L (at p (add q)) new n
            (own_deed (keys T) k p (add (put q j c)) (put_key_lem q j c past ∙ e)
            ∙ sym (ap (map (put_deed j c)) (own_deed (keys T) k p (add q) e)))
            (λ x m. as_is j c (gives x) (add_once e x m))
            ∙ (sym (map_gather gives (put_deed j c) L)
            ∙ sym (ap (λ (t : Bool). cond t (map (put_deed j c) (gather gives L))
            (insert deed_before (change j (composed_deeds j c (gather gives L)))
            (filter (λ d. not (changes_column j d)) (gather gives L)))) (some_adds e)))

  -- by row number
  pub strike_means : (i : ℕ) (q : Row) → At q i 0 (read T L)
      → meaning (keys T) (strike_row (keys T) i L) k
      ≡ cond (eqb (key q) k) (strike_deeds (key q) (meaning (keys T) L k)) (meaning (keys T) L k)
  unfolding strike_row
  strike_means i q n = rw (keys_length T) (origin (back (length T) L i) (back_row T L i q n))
    where
      origin : (o : Origin) → RowOrigin T L q o
          → meaning (keys T) (strike_origin (keys T) L o) k
          ≡ cond (eqb (key q) k) (strike_deeds (key q) (meaning (keys T) L k)) (meaning (keys T) L k)
      origin (base s) O =
          let w = base_at T L q s O in
          let e : key q ≡ key w.0 = ap key w.3 ∙ changed_key s L w.0 (key_kept T L F) in
          rw (e) (strike_base_lem s w.0 w.1 w.2)
      origin (added m) O = let w = added_at T L q m O in strike_added m w.0 q w.1

  pub change_means : (i : ℕ) (q : Row) → At q i 0 (read T L) → (j : ℕ) (e : CellEdit) → 1 ≤ j
      → meaning (keys T) (change_row_no (keys T) i j e L) k
      ≡ cond (eqb (key q) k) (change_deeds j e (meaning (keys T) L k)) (meaning (keys T) L k)
  unfolding change_row_no
  change_means i q n j e past = rw (keys_length T) (origin (back (length T) L i) (back_row T L i q n))
    where
      origin : (o : Origin) → RowOrigin T L q o
          → meaning (keys T) (change_origin j e L o) k
          ≡ cond (eqb (key q) k) (change_deeds j e (meaning (keys T) L k)) (meaning (keys T) L k)
      origin (base s) O =
          let w = base_at T L q s O in
          let e' : key q ≡ key w.0 = ap key w.3 ∙ changed_key s L w.0 (key_kept T L F) in
          rw (e') (change_base_lem s w.0 w.1 w.2 j e)
      origin (added m) O = let w = added_at T L q m O in change_added_lem m w.0 q w.1 j e past
