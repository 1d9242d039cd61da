-- The three edits on a layer: each leaves a layer that keeps form and fits, and that reads as the same edit by key on
-- what was shown.
-- Assumes nothing.
use mathlib.Core.Path.{◌≡◌, refl, sym, ap, ◌∙◌}
use mathlib.Core.Logic.{◌⊎◌, inl, inr, ⊎_elim}
use mathlib.Core.Bool.{Bool, true, false, not, cond, ◌&&◌, true≢false}
use mathlib.Core.List.{List, Memᴰ as Mem}
use Prim.Native.Nat.{ℕ, suc, ◌≤◌, ◌<◌}
use native.Mathlib.Omega.{arith}
use lib.ListN.{length, get_or, set, length-set}
use lib.Dec.{leb, ltb, eqb}
use borrow.Author.Tests.{
  ltb-true,
  lt-ltb,
  le-leb,
  eqb-true,
  eqb-false,
  eq-eqb,
  not-true,
  not-false,
}
use Rattle.words.specs.declared.Origin.{Origin}
use Rattle.words.specs.declared.Origin.TheVariants.{Base as base, Added as added}
use Rattle.order.specs.Lists.{count, filter, without}
use Rattle.order.proofs.Tests.{tests, impossible, and_r, and_of, not_passed}
use Rattle.order.proofs.Members.{filter_mem, mem_filter, insert_mem, mem_insert}
use Rattle.order.proofs.Counts.{count_le, length_insert}
use Rattle.order.proofs.Pairs.{AllPairs, pairs_filter, pairs_insert}
use Rattle.order.proofs.Ascending.{AscFrom, At, below, at_mem, at_count, at_length}
use Rattle.order.proofs.Edited.{without_mem, mem_without, length_without, pairs_without, insert_without, filter_without, map_set}
use Rattle.model.specs.Row.{Row, Table, key, keys}
use Rattle.model.specs.Cell.{CellEdit, put}
use Rattle.model.specs.Layer.{
  Deed,
  add,
  strike,
  change,
  Edit,
  at,
  Layer,
  position,
  rows_after,
  changes_row,
  changes_cell,
  struck,
}
use Rattle.model.specs.Form.{sound}
use Rattle.model.specs.Fit.{keys_below}
use Rattle.model.specs.Read.{read}
use Rattle.model.specs.Position.{back}
use Rattle.model.specs.Edits.{
  deed_before,
  before,
  enter,
  add_row,
  strike_base,
  composed,
  change_base,
  change_added,
  strike_origin,
  strike_row,
  change_origin,
  change_row_no,
  row_of_key,
}
use Rattle.model.specs.Redo.{strike_key, change_key, row_before, add_key}
use Rattle.model.specs.Meaning.{meaning, Found, row, missing, lookup, change_found, given}
use Rattle.theory.proofs.Cell.{put_key_lem, put_length}
use Rattle.theory.proofs.Layer.{of_struck, struck_of, cell_of_row}
use Rattle.theory.proofs.Edits.{before_lt, before_eq, before_trans, before_asym, before_key}
use Rattle.theory.proofs.Fit.{Fit, Good, key_kept, key_of_lem, keys_length, below_keys}
use Rattle.theory.proofs.Count.{read_ascends, read_length}
use Rattle.theory.proofs.Column.{keys_read}
use Rattle.theory.proofs.Origin.{added_row, RowOrigin, back_row, base_at, added_at}
use Rattle.theory.proofs.Meaning.{meaning_mem}
use Rattle.theory.proofs.Lookup.{lookup_mem, lookup_ext, add_shown, added_shown, added_once, added_free, hidden, one_layer}
use Rattle.theory.proofs.Redo.{strike_mem, strike_asc, change_asc, add_asc, lookup_strike, lookup_change, lookup_add}
use Rattle.theory.proofs.Joined.{strike_deeds, change_deeds, add_deeds, change_set, add_means, strike_added, strike_means, change_means}
use Rattle.theory.proofs.Deeds.{given_strike, given_add, given_change}

-- What fit says of one edit of a layer, and a good layer by its edits.
abbrev Apt : Table → Layer → Edit → Type 0
Apt T L (at s (add r)) =
    (count (below key (key r)) T ≡ s) × ((i : ℕ) (q : Row) → At q i 0 T → key q ≡ key r → struck i L ≡ true)
Apt T L (at s (strike k)) = (q : Row) × At q s 0 T × (key q ≡ k)
Apt T L (at s (change j e)) = (q : Row) × At q s 0 T × (1 ≤ j)

apt_of : (T : Table) (L : Layer) → Fit T L → (e : Edit) → Mem e L → Apt T L e
apt_of T L F (at s (add r)) m = (F.sits s r m, F.fresh s r m)
apt_of T L F (at s (strike k)) m = F.strikes s k m
apt_of T L F (at s (change j e)) m = F.changes s j e m

good_by : (c : ℕ) (T : Table) (N : Layer) → ((e : Edit) → Mem e N → sound c (length T) e ≡ true)
    → ((e : Edit) → Mem e N → Apt T N e)
    → AllPairs before N → Good c T N
good_by c T N each apt sorted = record {
  each = each;
  fit = record {
    sits = λ s r m. (apt (at s (add r)) m).0;
    fresh = λ s r m. (apt (at s (add r)) m).1;
    strikes = λ s k m. apt (at s (strike k)) m;
    changes = λ s j e m. apt (at s (change j e)) m;
    sorted = sorted;
  };
}

-- every strike of L is one of N
abbrev pub StrikesIn : Layer → Layer → Type 0
StrikesIn L N = (s k : ℕ) → Mem (at s (strike k)) L → Mem (at s (strike k)) N

struck_in : (L N : Layer) → StrikesIn L N → (i : ℕ) → struck i L ≡ true → struck i N ≡ true
struck_in L N h i e = let w = of_struck i L e in struck_of i w.0 N (h i w.0 w.1)

apt_in : (T : Table) (L N : Layer) → StrikesIn L N → (e : Edit) → Apt T L e → Apt T N e
apt_in T L N h (at s (add r)) w = (w.0, λ i q n g. struck_in L N h i (w.1 i q n g))
apt_in T L N h (at s (strike k)) w = w
apt_in T L N h (at s (change j e)) w = w

-- a good layer less edits that are no strikes
pub good_less : (c : ℕ) (T : Table) (L M : Layer) → Good c T L → ((e : Edit) → Mem e M → Mem e L) → StrikesIn L M
    → AllPairs before M → Good c T M
good_less c T L M G sub h o =
    good_by c T M (λ e m. G.each e (sub e m)) (λ e m. apt_in T L M h e (apt_of T L G.fit e (sub e m))) o

-- a good layer with an edit entered that stands before or after each other one
abbrev Placed : Layer → ℕ → Deed → Type 0
Placed M s d = (p : ℕ) (b : Deed) → Mem (at p b) M → p ≡ s → (deed_before b d ≡ true) ⊎ (deed_before d b ≡ true)

placed : (M : Layer) (s : ℕ) (d : Deed) → Placed M s d → (x : Edit) → Mem x M → before x (at s d) ≡ false
    → before (at s d) x ≡ true
placed M s d h (at p b) m f = go (ltb p s) refl (eqb p s) refl
  where
    no : before (at p b) (at s d) ≡ true → ⊥
    no g = true≢false (sym g ∙ f)

    go : (t : Bool) → ltb p s ≡ t → (u : Bool) → eqb p s ≡ u → before (at s d) (at p b) ≡ true
    go true e u g = absurd (no (before_lt (at p b) (at s d) (ltb-true p s e)))
    go false e true g =
        let ps : p ≡ s = eqb-true p s g in
        ⊎_elim (λ w. absurd (no (before_eq p s b d ps w))) (λ w. before_eq s p d b (sym ps) w) (h p b m ps)
    go false e false g = before_lt (at s d) (at p b) (omega tests)

good_enter : (c : ℕ) (T : Table) (M : Layer) (s : ℕ) (d : Deed) → Good c T M → sound c (length T) (at s d) ≡ true
    → Apt T M (at s d)
    → Placed M s d → Good c T (enter (at s d) M)
good_enter c T M s d G e w h = good_by c T (enter (at s d) M) each apt order
  where
    kept : StrikesIn M (enter (at s d) M)
    kept p k m = mem_insert before (at s d) M (at p (strike k)) (inr m)

    each : (x : Edit) → Mem x (enter (at s d) M) → sound c (length T) x ≡ true
    each x m = ⊎_elim (λ g. ap (sound c (length T)) g ∙ e) (λ n. G.each x n) (insert_mem before (at s d) M x m)

    apt : (x : Edit) → Mem x (enter (at s d) M) → Apt T (enter (at s d) M) x
    apt x m =
        ⊎_elim (λ g. rw (g) (apt_in T M (enter (at s d) M) kept (at s d) w))
        (λ n. apt_in T M (enter (at s d) M) kept x (apt_of T M G.fit x n))
        (insert_mem before (at s d) M x m)

    order : AllPairs before (enter (at s d) M)
    order = pairs_insert before (at s d) M before_trans (placed M s d h) G.fit.sorted

-- a layer that keeps form and fits, and what is read through it
pub record Reads (c : ℕ) (T : Table) (N : Layer) (M : Table) : Type 0 where
  pub good : Good c T N
  pub reads : read T N ≡ M

-- An edit of the key l that makes `edit` of the deeds for it, and `done` of its row, done to the layer and to the table.
module _ (T : Table) (L N : Layer) (a : AscFrom key 0 T) (F : Fit T L) (G : Fit T N) (l : ℕ)
    (edit : List Deed → List Deed) (done : Found → Found)
    (means : (k : ℕ) → meaning (keys T) N k ≡ cond (eqb l k) (edit (meaning (keys T) L k)) (meaning (keys T) L k))
    (own : given (edit (meaning (keys T) L l)) (lookup l T) ≡ done (lookup l (read T L))) where
  reads_by : (M : Table) → AscFrom key 0 M
      → ((k : ℕ) → lookup k M ≡ cond (eqb l k) (done (lookup k (read T L))) (lookup k (read T L)))
      → read T N ≡ M
  reads_by M b looks = lookup_ext (read T N) M (read_ascends T N a G) b (λ k.
      one_layer T N a G k ∙ (ap (λ (ds : List Deed). given ds (lookup k T)) (means k) ∙ (go k (eqb l k) refl ∙ sym (looks k))))
    where
      go : (k : ℕ) (t : Bool) → eqb l k ≡ t → given (cond t (edit (meaning (keys T) L k)) (meaning (keys T) L k)) (lookup k T)
          ≡ cond t (done (lookup k (read T L))) (lookup k (read T L))
      go k true e = rw (← eqb-true l k e) own
      go k false e = sym (one_layer T L a F k)

module _ (c : ℕ) (T : Table) (L : Layer) (a : AscFrom key 0 T) (G : Good c T L) where
  ascends : AscFrom key 0 (read T L)
  ascends = read_ascends T L a G.fit

  -- Add a row whose key is not shown.
  module _ (r : Row) (len : length r ≡ c) (free : (q : Row) → Mem q (read T L) → key q ≡ key r → ⊥) where
    add_sits : count (below key (key r)) T ≡ keys_below (key r) (keys T)
    add_sits = sym (below_keys (key r) T)

    -- its entry's position, as every add's, is the number of base keys below its own, struck rows counted
    pub add_position_lem : (p : ℕ) (q : Row) → Mem (at p (add q)) (add_row (keys T) r L) → count (below key (key q)) T ≡ p
    unfolding add_row
    add_position_lem p q m =
        ⊎_elim (λ g. omega (arith, add_sits, ap position g, ap (λ (d : Edit). count (below key (key (added_row d))) T) g))
        (λ n. G.fit.sits p q n) (insert_mem before _ L (at p (add q)) m)

    add_placed : (s : ℕ) → Placed L s (add r)
    add_placed s p (add q) m e = go (ltb (key q) (key r)) refl
      where
        go : (t : Bool) → ltb (key q) (key r) ≡ t → (ltb (key q) (key r) ≡ true) ⊎ (ltb (key r) (key q) ≡ true)
        go true f = inl f
        go false f = inr (lt-ltb (key r) (key q) (omega (tests, free q (add_shown T L G.fit p q m))))
    add_placed s p (strike k) m e = inr refl
    add_placed s p (change j f) m e = inr refl

    pub add_good : Good c T (add_row (keys T) r L)
    unfolding add_row
    add_good =
        good_enter c T L _ (add r) G
        (and_of _ (eqb (length r) c) (le-leb _ (length T) (omega (arith, add_sits, count_le (below key (key r)) T)))
        (eq-eqb (length r) c len))
        (add_sits, hidden T L a G.fit (key r) free) (add_placed _)

    pub add_reads : read T (add_row (keys T) r L) ≡ add_key r (read T L)
    add_reads =
        reads_by T L (add_row (keys T) r L) a G.fit add_good.fit (key r) (add_deeds r) (λ f. row r)
        (λ k. add_means T L a G.fit k r)
        (given_add (meaning (keys T) L (key r)) (lookup (key r) T) r (λ q m.
        let w = added_shown T L a G.fit (key r) q m in free q w.0 w.1))
        (add_key r (read T L)) (add_asc r (read T L) ascends free) (λ k. lookup_add k r (read T L))

    pub add_rows_lem : rows_after (length T) (add_row (keys T) r L) ≡ suc (rows_after (length T) L)
    add_rows_lem =
        omega (
          arith,
          read_length T (add_row (keys T) r L) add_good.fit,
          read_length T L G.fit,
          ap length add_reads,
          length_insert row_before r (read T L),
        )

  -- a struck key has no row, whether its added row disappears or its base row is struck
  struck_own : (l : ℕ) → given (strike_deeds l (meaning (keys T) L l)) (lookup l T) ≡ missing
  struck_own l =
      given_strike (meaning (keys T) L l) (lookup l T) l (λ r m.
      let w = meaning_mem (keys T) L l (add r) m in added_free T L a G.fit l w.0 r w.1 w.2)

  -- The added entry number i, which adds q, disappears.
  module _ (i p : ℕ) (q : Row) (n : At (at p (add q)) i 0 L) where
    lost_good : Good c T (without i L)
    lost_good =
        good_less c T L (without i L) G (without_mem i L)
        (λ s k m. ⊎_elim (λ g. impossible (cc)) (λ w. w) (mem_without i L (at p (add q)) (at s (strike k)) n m))
        (pairs_without before i L G.fit.sorted)

    lost_reads : read T (without i L) ≡ strike_key (key q) (read T L)
    lost_reads =
        reads_by T L (without i L) a G.fit lost_good.fit (key q) (strike_deeds (key q)) (λ f. missing)
        (λ k. strike_added T L a G.fit k i p q n) (struck_own (key q))
        (strike_key (key q) (read T L)) (strike_asc (key q) (read T L) ascends) (λ k. lookup_strike k (key q) (read T L))

  -- Base row s, which is not struck, gets the entry d, and only changes of row s go.
  module _ (s : ℕ) (b : Row) (n : At b s 0 T) (u : struck s L ≡ false) where
    module _ (keeps : Edit → Bool) (drops : (e : Edit) → keeps e ≡ false → changes_row s e ≡ true) (d : Deed) where
      thin_in : (e : Edit) → Mem e (filter keeps L) → Mem e L
      thin_in e m = (filter_mem keeps L e m).0

      strikes_stay : StrikesIn L (filter keeps L)
      strikes_stay p k m = mem_filter keeps L (at p (strike k)) m (go (keeps (at p (strike k))) refl)
        where
          go : (t : Bool) → keeps (at p (strike k)) ≡ t → t ≡ true
          go true f = refl
          go false f = drops (at p (strike k)) f

      -- no strike stands at s
      no_strike : (p k : ℕ) → Mem (at p (strike k)) (filter keeps L) → p ≡ s → ⊥
      no_strike p k m e =
          true≢false (sym (ap (λ (t : ℕ). struck t L) (sym e) ∙ struck_of p k L (thin_in (at p (strike k)) m)) ∙ u)

      entered_good : sound c (length T) (at s d) ≡ true → Apt T (filter keeps L) (at s d) → Placed (filter keeps L) s d
          → Good c T (enter (at s d) (filter keeps L))
      entered_good =
          good_enter c T (filter keeps L) s d
          (good_less c T L (filter keeps L) G thin_in strikes_stay (pairs_filter before keeps L G.fit.sorted))

    -- It is struck: it loses its changes.
    pub struck_bare : (e : Edit) → Mem e (strike_base (keys T) s L) → changes_row s e ≡ false
    unfolding strike_base
    struck_bare e m =
        ⊎_elim (λ g. ap (changes_row s) g) (λ k. not-true (changes_row s e) (filter_mem _ L e k).1)
        (insert_mem before _ (filter _ L) e m)

    strike_base_good : Good c T (strike_base (keys T) s L)
    unfolding strike_base
    strike_base_good =
        entered_good other drops d (lt-ltb s (length T) (omega (arith, at_length n))) (b, n, sym (key_of_lem n)) placed_there
      where
        d : Deed
        d = strike (get_or (keys T) s 0)

        other : Edit → Bool
        other = λ e. not (changes_row s e)

        drops : (e : Edit) → other e ≡ false → changes_row s e ≡ true
        drops e h = not-false (changes_row s e) h

        placed_there : Placed (filter other L) s d
        placed_there p (add r) m e = inl refl
        placed_there p (strike k) m e = absurd (no_strike other drops d p k m e)
        placed_there p (change j f) m e =
            absurd (eqb-false s p (not-true (eqb s p) (filter_mem other L (at p (change j f)) m).1) (sym e))

    -- Its column j is changed: it loses its change of column j.
    module _ (j : ℕ) (past : 1 ≤ j) (within : j < c) where
      abbrev other : Edit → Bool
      other d = not (changes_cell s j d)

      drops : (d : Edit) → other d ≡ false → changes_row s d ≡ true
      drops d h = cell_of_row s j d (not-false (changes_cell s j d) h)

      other_column : (p i : ℕ) (f : CellEdit) → Mem (at p (change i f)) (filter other L) → p ≡ s → i ≡ j → ⊥
      other_column p i f m ps ij =
          true≢false (sym (and_of (eqb s p) (eqb j i) (eq-eqb s p (sym ps)) (eq-eqb j i (sym ij)))
          ∙ not-true (eqb s p && eqb j i) (filter_mem other L (at p (change i f)) m).1)

      change_placed : (e : CellEdit) → Placed (filter other L) s (change j e)
      change_placed e p (add r) m g = inl refl
      change_placed e p (strike k) m g = absurd (no_strike other drops (change j e) p k m g)
      change_placed e p (change i f) m g = go (ltb i j) refl
        where
          go : (t : Bool) → ltb i j ≡ t → (ltb i j ≡ true) ⊎ (ltb j i ≡ true)
          go true h = inl h
          go false h = inr (lt-ltb j i (omega (tests, other_column p i f m g)))

      change_base_good : (e : CellEdit) → Good c T (change_base s j e L)
      unfolding change_base
      change_base_good e =
          entered_good other drops (change j (composed s j e L))
          (and_of (ltb s (length T)) (leb 1 j && ltb j c) (lt-ltb s (length T) (omega (arith, at_length n)))
          (and_of (leb 1 j) (ltb j c) (le-leb 1 j past) (lt-ltb j c within))) (b, n, past)
          (change_placed (composed s j e L))

  -- Strike row number i, where q is shown.
  module _ (i : ℕ) (q : Row) (n : At q i 0 (read T L)) where
    strike_origin_lem : (o : Origin) → RowOrigin T L q o → Good c T (strike_origin (keys T) L o)
    strike_origin_lem (base s) O = let w = base_at T L q s O in strike_base_good s w.0 w.1 w.2
    strike_origin_lem (added e) O = let w = added_at T L q e O in lost_good e w.0 q w.1

    pub strike_good : Good c T (strike_row (keys T) i L)
    unfolding strike_row
    strike_good = rw (keys_length T) (strike_origin_lem (back (length T) L i) (back_row T L i q n))

    pub strike_reads : read T (strike_row (keys T) i L) ≡ strike_key (key q) (read T L)
    strike_reads =
        reads_by T L (strike_row (keys T) i L) a G.fit strike_good.fit (key q) (strike_deeds (key q)) (λ f. missing)
        (λ k. strike_means T L a G.fit k i q n) (struck_own (key q))
        (strike_key (key q) (read T L)) (strike_asc (key q) (read T L) ascends) (λ k. lookup_strike k (key q) (read T L))

    -- the rows without row number i
    pub strike_row_lem : read T (strike_row (keys T) i L) ≡ without i (read T L)
    strike_row_lem = strike_reads ∙ filter_without key 0 i (read T L) q ascends n

    pub strike_rows_lem : suc (rows_after (length T) (strike_row (keys T) i L)) ≡ rows_after (length T) L
    strike_rows_lem =
        omega (
          arith,
          read_length T (strike_row (keys T) i L) strike_good.fit,
          read_length T L G.fit,
          ap length strike_row_lem,
          length_without i (read T L) (omega (arith, at_length n)),
        )

pub add_length : (K : List ℕ) (r : Row) (L : Layer) → length (add_row K r L) ≡ suc (length L)
unfolding add_row
add_length K r L = length_insert before (at (keys_below (key r) K) (add r)) L

module _ (c : ℕ) (T : Table) (L : Layer) (a : AscFrom key 0 T) (G : Good c T L) where
  -- The added entry number i, which adds q, has its column j changed: as if it had disappeared and the changed row were added.
  module _ (i p : ℕ) (q : Row) (n : At (at p (add q)) i 0 L) (j : ℕ) (e : CellEdit) (past : 1 ≤ j) where
    put_same : key (put q j e) ≡ key q
    put_same = put_key_lem q j e past

    anew : change_added i j e L ≡ add_row (keys T) (put q j e) (without i L)
    unfolding add_row
    anew =
        change_set i j e L p q n
        ∙ (sym (insert_without before i L (at p (add q)) (at p (add (put q j e))) G.fit.sorted n up down)
        ∙ ap (λ (s : ℕ). enter (at s (add (put q j e))) (without i L)) here_again)
      where
        up : (x : Edit) → Mem x L → before x (at p (add q)) ≡ true → before x (at p (add (put q j e))) ≡ true
        up x m h = before_key x p (put q j e) q put_same ∙ h

        down : (x : Edit) → Mem x L → before (at p (add q)) x ≡ true → before x (at p (add (put q j e))) ≡ false
        down x m h =
            not_passed (before x (at p (add (put q j e))))
            (λ g. before_asym (at p (add q)) x h (before_key x p q (put q j e) (sym put_same) ∙ g))

        here_again : p ≡ keys_below (key (put q j e)) (keys T)
        here_again =
            omega (
              arith,
              G.fit.sits p q (at_mem n),
              below_keys (key (put q j e)) T,
              ap (λ (k : ℕ). count (below key k) T) put_same,
            )

    change_added_good : Good c T (change_added i j e L)
    change_added_good = rw (anew) (add_good c T (without i L) a (lost_good c T L a G i p q n) (put q j e) long free)
      where
        -- its key is free once the entry is lost
        free : (x : Row) → Mem x (read T (without i L)) → key x ≡ key (put q j e) → ⊥
        free x m h = (strike_mem (key q) (read T L) x (rw (lost_reads c T L a G i p q n) at m)).1 (h ∙ put_same)

        long : length (put q j e) ≡ c
        long =
            put_length q j e
            ∙ eqb-true (length q) c (and_r (leb p (length T)) (eqb (length q) c) (G.each (at p (add q)) (at_mem n)))

  -- Change column j of row number i, where q is shown.
  module _ (i : ℕ) (q : Row) (n : At q i 0 (read T L)) (j : ℕ) (e : CellEdit) (past : 1 ≤ j) (within : j < c) where
    change_origin_lem : (o : Origin) → RowOrigin T L q o → Good c T (change_origin j e L o)
    change_origin_lem (base s) O = let w = base_at T L q s O in change_base_good c T L a G s w.0 w.1 w.2 j past within e
    change_origin_lem (added k) O = let w = added_at T L q k O in change_added_good k w.0 q w.1 j e past

    pub change_good : Good c T (change_row_no (keys T) i j e L)
    unfolding change_row_no
    change_good = rw (keys_length T) (change_origin_lem (back (length T) L i) (back_row T L i q n))

    pub change_reads : read T (change_row_no (keys T) i j e L) ≡ change_key (key q) j e (read T L)
    change_reads =
        reads_by T L (change_row_no (keys T) i j e L) a G.fit change_good.fit (key q) (change_deeds j e)
        (change_found (change j e))
        (λ k. change_means T L a G.fit k i q n j e past)
        (given_change (meaning (keys T) L (key q)) (lookup (key q) T) j e q
        (sym (one_layer T L a G.fit (key q)) ∙ shown_row) (added_once T L a G.fit (key q))
        ∙ sym (ap (change_found (change j e)) shown_row))
        (change_key (key q) j e (read T L)) (change_asc (key q) j e (read T L) past rises)
        (λ k. lookup_change k (key q) j e (read T L) past)
      where
        rises : AscFrom key 0 (read T L)
        rises = read_ascends T L a G.fit

        shown_row : lookup (key q) (read T L) ≡ row q
        shown_row = lookup_mem (read T L) rises (key q) q (at_mem n) refl

    -- the rows with row number i changed
    pub change_row_lem : read T (change_row_no (keys T) i j e L) ≡ set (read T L) i (put q j e)
    change_row_lem = change_reads ∙ map_set key (λ r. put r j e) 0 i (read T L) q (read_ascends T L a G.fit) n

    pub change_rows_lem : rows_after (length T) (change_row_no (keys T) i j e L) ≡ rows_after (length T) L
    change_rows_lem =
        omega (
          arith,
          read_length T (change_row_no (keys T) i j e L) change_good.fit,
          read_length T L G.fit,
          ap length change_row_lem,
          length-set (read T L) i (put q j e),
        )

-- By key: the row number of a shown key is that of its row.
pub row_of_key_lem : (T : Table) (L : Layer) → AscFrom key 0 T → Fit T L → (i : ℕ) (q : Row) → At q i 0 (read T L)
    → row_of_key (keys T) L (key q) ≡ i
row_of_key_lem T L a F i q n =
    omega (
      arith,
      ap (keys_below (key q)) (keys_read T L (key_kept T L F)),
      below_keys (key q) (read T L),
      at_count key 0 0 (read T L) (read_ascends T L a F) q i n,
    )
