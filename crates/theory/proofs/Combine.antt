-- Combining: R with W's strikes, changes and adds redone by key as edits keeps form and fits, and reads as R and then
-- W in turn.
-- Assumes nothing.
use mathlib.Core.Path.{◌≡◌, refl, sym, ap, ◌∙◌, subst}
use mathlib.Core.Bool.{Bool, true, false, cond, ◌&&◌, true≢false}
use mathlib.Core.List.Memᴰ.{head as here}
use mathlib.Core.List.Memᴰ.{tail as next}
use mathlib.Core.List.{List, [], ◌∷◌, Memᴰ as Mem}
use Prim.Native.Nat.{ℕ, ◌≤◌, ◌<◌}
use lib.ListN.{length, get_or}
use lib.Dec.{leb, ltb, eqb}
use borrow.Author.Tests.{ltb-true, leb-true, eqb-true, ne_eqb}
use Rattle.order.specs.Lists.{gather, in_turn}
use Rattle.order.proofs.Tests.{tests, and_l, and_r, and_of}
use Rattle.order.proofs.Pairs.{AllPairs}
use Rattle.order.proofs.Ascending.{AscFrom, At, at_mem, at_cast, mem_at}
use Rattle.order.proofs.Gather.{turn_append}
use Rattle.model.specs.Row.{Row, Table, key, keys}
use Rattle.model.specs.Cell.{CellEdit, put}
use Rattle.model.specs.Layer.{Deed, add, strike, change, Edit, at, Layer, rows_after}
use Rattle.model.specs.Limits.{most_rows}
use Rattle.model.specs.Form.{in_order, keeps_form}
use Rattle.model.specs.Fit.{fits}
use Rattle.model.specs.Read.{read, keys_after}
use Rattle.model.specs.Edits.{deed_before, before, add_row, strike_row, change_row_no, row_of_key}
use Rattle.model.specs.Meaning.{key_of, concerning, meaning, Found, row, missing, lookup, change_found}
use Rattle.model.specs.Redo.{
  do_strike,
  do_change,
  do_add,
  redo,
  strike_key,
  change_key,
  add_key,
  on_table,
  on_layer,
  combine,
}
use Rattle.theory.proofs.Layer.{by_kind}
use Rattle.theory.proofs.Edits.{level}
use Rattle.theory.proofs.Fit.{Good, key_kept, key_of_lem, good_of, good_form, good_fits}
use Rattle.theory.proofs.Count.{read_ascends, read_length}
use Rattle.theory.proofs.Column.{keys_read}
use Rattle.theory.proofs.Meaning.{done_if, done_not, one_position, changed_kept}
use Rattle.theory.proofs.Lookup.{
  lookup_mem,
  lookup_found,
  lookup_missing,
  strikes_none,
  changes_missing,
  strike_here_lem,
  added_free,
}
use Rattle.theory.proofs.Redo.{
  redo_strikes,
  redo_changes,
  lookup_strike,
  lookup_change,
  lookup_add,
  lookup_strikes,
  lookup_left,
  read_redo,
}
use Rattle.theory.proofs.Joined.{
  strike_deeds,
  change_deeds,
  add_deeds,
  strike_to,
  change_to,
  add_to,
  joined,
  strike_means,
  change_means,
  add_means,
}
use Rattle.theory.proofs.Edited.{
  Reads,
  add_good,
  add_reads,
  strike_good,
  strike_reads,
  change_good,
  change_reads,
  row_of_key_lem,
}

-- The layer L is good, reads as the table M, and means the deeds ds for the key k.
pub record Joins (c : ℕ) (T : Table) (k : ℕ) (L : Layer) (M : Table) (ds : List Deed) : Type 0 where
  pub reads : Reads c T L M
  pub means : meaning (keys T) L k ≡ ds

-- An edit by key on a layer reads as the same edit by key on the table, and does the same to the deeds for a key.
module _ (c : ℕ) (T : Table) (a : AscFrom key 0 T) (k : ℕ) (L : Layer) (M : Table) (ds : List Deed)
    (S : Joins c T k L M ds) where
  good : Good c T L
  good = S.reads.good

  -- a row stands at the row number of its key
  row_place : (q : Row) → Mem q M → At q (row_of_key (keys T) L (key q)) 0 (read T L)
  row_place q m =
      let w = mem_at 0 (read T L) q (rw S.reads.reads m) in
      at_cast (sym (row_of_key_lem T L a good.fit w.0 q w.1)) w.1

  -- a deed that does nothing
  idle : (to : Deed → List Deed → List Deed) (t : Bool) (d : Deed) → to d ds ≡ ds
      → Joins c T k L M (in_turn to (cond t (d ∷ []) []) ds)
  idle to t d h = record { reads = S.reads; means = S.means ∙ done_not to t d ds h }

  strike_joins : (q : Row) → Mem q M → Joins c T k (strike_row (keys T) (row_of_key (keys T) L (key q)) L) (strike_key (key q) M)
      (in_turn strike_to (cond (eqb (key q) k) (strike (key q) ∷ []) []) ds)
  strike_joins q m =
      let i = row_of_key (keys T) L (key q) in
      let n = row_place q m in
      record {
        reads = record {
          good = strike_good c T L a good i q n;
          reads = strike_reads c T L a good i q n ∙ ap (strike_key (key q)) S.reads.reads;
        };
        means = strike_means T L a good.fit k i q n
            ∙ (ap (λ (x : List Deed). cond (eqb (key q) k) (strike_deeds (key q) x) x) S.means
            ∙ done_if strike_to (eqb (key q) k) (strike (key q)) ds);
      }

  change_joins : (q : Row) → Mem q M → (j : ℕ) (e : CellEdit) → 1 ≤ j → j < c
      → Joins c T k (change_row_no (keys T) (row_of_key (keys T) L (key q)) j e L) (change_key (key q) j e M)
      (in_turn change_to (cond (eqb (key q) k) (change j e ∷ []) []) ds)
  change_joins q m j e past within =
      let i = row_of_key (keys T) L (key q) in
      let n = row_place q m in
      record {
        reads = record {
          good = change_good c T L a good i q n j e past within;
          reads = change_reads c T L a good i q n j e past within ∙ ap (change_key (key q) j e) S.reads.reads;
        };
        means = change_means T L a good.fit k i q n j e past
            ∙ (ap (λ (x : List Deed). cond (eqb (key q) k) (change_deeds j e x) x) S.means
            ∙ done_if change_to (eqb (key q) k) (change j e) ds);
      }

  add_joins : (r : Row) → length r ≡ c → lookup (key r) M ≡ missing
      → Joins c T k (add_row (keys T) r L) (add_key r M) (in_turn add_to (cond (eqb (key r) k) (add r ∷ []) []) ds)
  add_joins r len h =
      let free =
      lookup_missing (read T L) (read_ascends T L a good.fit) (key r) (ap (lookup (key r)) S.reads.reads ∙ h) in
      record {
        reads = record {
          good = add_good c T L a good r len free;
          reads = add_reads c T L a good r len free ∙ ap (add_key r) S.reads.reads;
        };
        means = add_means T L a good.fit k r
            ∙ (ap (λ (x : List Deed). cond (eqb (key r) k) (add_deeds r x) x) S.means
            ∙ done_if add_to (eqb (key r) k) (add r) ds);
      }

-- Edits of W done in turn, where each may be done and leaves those after it so.
module _ (c : ℕ) (T : Table) (K : List ℕ) (k : ℕ) (W : Layer) (o : AllPairs before W)
    (f : Edit → Layer → Layer) (g : Edit → Table → Table) (to : Deed → List Deed → List Deed) (May : Edit → Table → Type 0)
    (step : (e : Edit) → Mem e W → (L : Layer) (M : Table) (ds : List Deed) → Joins c T k L M ds → May e M
    → Joins c T k (f e L) (g e M) (in_turn to (concerning K k e) ds))
    (keep : (d e : Edit) → Mem d W → Mem e W → before d e ≡ true → (M : Table) → May e M → May e (g d M)) where
  walk : (Z : Layer) → ((e : Edit) → Mem e Z → Mem e W) → AllPairs before Z → (L : Layer) (M : Table) (ds : List Deed)
      → Joins c T k L M ds → ((e : Edit) → Mem e Z → May e M)
      → Joins c T k (in_turn f Z L) (in_turn g Z M) (in_turn to (gather (concerning K k) Z) ds)
  walk [] sub p L M ds S may = S
  walk (x ∷ Z) sub p L M ds S may =
      rw (turn_append to (concerning K k x) (gather (concerning K k) Z) ds)
      (walk Z (λ e m. sub e (next m)) p.1 (f x L) (g x M) (in_turn to (concerning K k x) ds)
      (step x (sub x (here refl)) L M ds S (may x (here refl)))
      (λ e m. keep x e (sub x (here refl)) (sub e (next m)) (p.0 e m) M (may e (next m))))

  in_turn_lem : (L : Layer) (M : Table) (ds : List Deed) → Joins c T k L M ds → ((e : Edit) → Mem e W → May e M)
      → Joins c T k (in_turn f W L) (in_turn g W M) (in_turn to (meaning K W k) ds)
  unfolding meaning
  in_turn_lem = walk W (λ e m. m) o

-- what each edit of W asks for: the struck key and the changed key have a row, the added key has none
abbrev Present : ℕ → Table → Type 0
Present l M = (q : Row) × (lookup l M ≡ row q)

abbrev CanStrike : Edit → Table → Type 0
CanStrike (at s (add r)) M = Unit {0}
CanStrike (at s (strike l)) M = Present l M
CanStrike (at s (change j e)) M = Unit {0}

abbrev CanChange : List ℕ → Edit → Table → Type 0
CanChange K (at s (add r)) M = Unit {0}
CanChange K (at s (strike l)) M = Unit {0}
CanChange K (at s (change j e)) M = Present (get_or K s 0) M

abbrev CanAdd : Edit → Table → Type 0
CanAdd (at s (add r)) M = lookup (key r) M ≡ missing
CanAdd (at s (strike l)) M = Unit {0}
CanAdd (at s (change j e)) M = Unit {0}

-- a row that is changed is still there
still_present : (l i j : ℕ) (e : CellEdit) (M : Table) → 1 ≤ j → Present l M → Present l (change_key i j e M)
still_present l i j e M past (q, h) =
    either (eqb i l) (lookup_change l i j e M past ∙ ap (λ (x : Found). cond (eqb i l) (change_found (change j e) x) x) h)
  where
    either : (t : Bool) → lookup l (change_key i j e M) ≡ cond t (row (put q j e)) (row q) → Present l (change_key i j e M)
    either true g = (put q j e, g)
    either false g = (q, g)

-- W over what is read through R, both good.
module _ (c : ℕ) (T : Table) (R W : Layer) (a : AscFrom key 0 T) (GR : Good c T R) (GW : Good c (read T R) W) where
  abbrev K : List ℕ
  K = keys (read T R)

  rises : AscFrom key 0 (read T R)
  rises = read_ascends T R a GR.fit

  -- two edits of W that concern one key stand at one position, so in the order of their deeds
  one_key : (p s : ℕ) (d e : Deed) → Mem (at p d) W → Mem (at s e) W → key_of K (at p d) ≡ key_of K (at s e)
      → before (at p d) (at s e) ≡ true → deed_before d e ≡ true
  one_key p s d e m n h b = level p s d e (one_position (read T R) W rises GW.fit p s d e m n h) b

  -- a change of W is of a column past the key
  columns : (s j : ℕ) (e : CellEdit) → Mem (at s (change j e)) W → (1 ≤ j) × (j < c)
  columns s j e m =
      let w = and_r (ltb s (length (read T R))) (leb 1 j && ltb j c) (GW.each (at s (change j e)) m) in
      (leb-true 1 j (and_l (leb 1 j) (ltb j c) w), ltb-true j c (and_r (leb 1 j) (ltb j c) w))

  -- a row that W changes is there after the strikes
  row_stays : (s j : ℕ) (e : CellEdit) → Mem (at s (change j e)) W → Present (get_or K s 0) (redo_strikes W (read T R))
  row_stays s j e m =
      let w = GW.fit.changes s j e m in
      let l = get_or K s 0 in
      let kq : key w.0 ≡ l = sym (key_of_lem w.1) in (
        w.0,
        lookup_strikes l K W (read T R)
            ∙ (strikes_none (meaning K W l) (lookup l (read T R)) (λ i n.
            true≢false (sym (strike_here_lem (read T R) W rises GW.fit l s w.0 w.1 kq i n)
            ∙ changed_kept W GW.fit.sorted s j e m))
            ∙ lookup_mem (read T R) rises l w.0 (at_mem w.1) kq),
      )

  -- a key that W adds has no row after the strikes, nor after the changes
  key_free : (s : ℕ) (r : Row) → Mem (at s (add r)) W → lookup (key r) (redo_changes K W (redo_strikes W (read T R))) ≡ missing
  key_free s r m =
      lookup_left (key r) K W (key_kept (read T R) W GW.fit) (read T R)
      ∙ (ap (in_turn change_found (meaning K W (key r))) (added_free (read T R) W rises GW.fit (key r) s r m refl)
      ∙ changes_missing (meaning K W (key r)))

  -- the strikes, the changes, the adds of W done to R, and to its deeds for the key k
  module _ (k : ℕ) where
    abbrev Ends : (Edit → Layer → Layer) → (Edit → Table → Table) → (Deed → List Deed → List Deed) → Layer → Table
        → List Deed → Type 0
    Ends f g to L M ds = Joins c T k (in_turn f W L) (in_turn g W M) (in_turn to (meaning K W k) ds)

    strike_step : (e : Edit) → Mem e W → (L : Layer) (M : Table) (ds : List Deed) → Joins c T k L M ds → CanStrike e M
        → Joins c T k (do_strike (on_layer (keys T)) e L) (do_strike on_table e M) (in_turn strike_to (concerning K k e) ds)
    strike_step (at s (add r)) m L M ds S w = idle c T a k L M ds S strike_to (eqb (key r) k) (add r) refl
    strike_step (at s (change j e)) m L M ds S w = idle c T a k L M ds S strike_to (eqb (get_or K s 0) k) (change j e) refl
    strike_step (at s (strike l)) m L M ds S w =
        let z = lookup_found M l w.0 w.1 in rw (← z.1) (strike_joins c T a k L M ds S w.0 z.0)

    strike_keep : (d e : Edit) → Mem d W → Mem e W → before d e ≡ true → (M : Table) → CanStrike e M
        → CanStrike e (do_strike on_table d M)
    strike_keep d (at s (add r)) m n h M w = tt
    strike_keep d (at s (change j e)) m n h M w = tt
    strike_keep (at p (add r)) (at s (strike l)) m n h M w = w
    strike_keep (at p (change j e)) (at s (strike l)) m n h M w = w
    strike_keep (at p (strike i)) (at s (strike l)) m n h M w =
        let e : eqb i l ≡ false = ne_eqb i l (λ il. true≢false (sym (one_key p s (strike i) (strike l) m n il h))) in
        (w.0, lookup_strike l i M ∙ (ap (λ (t : Bool). cond t missing (lookup l M)) e ∙ w.1))

    strikes_done : (L : Layer) (ds : List Deed) → Joins c T k L (read T R) ds
        → Ends (do_strike (on_layer (keys T))) (do_strike on_table) strike_to L (read T R) ds
    strikes_done L ds S =
        in_turn_lem c T K k W GW.fit.sorted (do_strike (on_layer (keys T)))
        (do_strike on_table) strike_to CanStrike strike_step strike_keep L (read T R) ds S
        (by_kind (λ e. CanStrike e (read T R)) W (λ s r m. tt)
        (λ s l m. let w = GW.fit.strikes s l m in
        (w.0, lookup_mem (read T R) rises l w.0 (at_mem w.1) w.2)) (λ s j e m. tt))

    change_step : (e : Edit) → Mem e W → (L : Layer) (M : Table) (ds : List Deed) → Joins c T k L M ds → CanChange K e M
        → Joins c T k (do_change (on_layer (keys T)) K e L) (do_change on_table K e M) (in_turn change_to (concerning K k e) ds)
    change_step (at s (add r)) m L M ds S w = idle c T a k L M ds S change_to (eqb (key r) k) (add r) refl
    change_step (at s (strike l)) m L M ds S w = idle c T a k L M ds S change_to (eqb l k) (strike l) refl
    change_step (at s (change j e)) m L M ds S w =
        let h = columns s j e m in
        let z = lookup_found M (get_or K s 0) w.0 w.1 in
        rw (← z.1) (change_joins c T a k L M ds S w.0 z.0 j e h.0 h.1)

    change_keep : (d e : Edit) → Mem d W → Mem e W → before d e ≡ true → (M : Table) → CanChange K e M
        → CanChange K e (do_change on_table K d M)
    change_keep d (at s (add r)) m n h M w = tt
    change_keep d (at s (strike l)) m n h M w = tt
    change_keep (at p (add r)) (at s (change j e)) m n h M w = w
    change_keep (at p (strike l)) (at s (change j e)) m n h M w = w
    change_keep (at p (change i f)) (at s (change j e)) m n h M w =
        still_present (get_or K s 0) (get_or K p 0) i f M (columns p i f m).0 w

    changes_done : (L : Layer) (ds : List Deed) → Joins c T k L (redo_strikes W (read T R)) ds
        → Ends (do_change (on_layer (keys T)) K) (do_change on_table K) change_to L (redo_strikes W (read T R)) ds
    changes_done L ds S =
        in_turn_lem c T K k W GW.fit.sorted (do_change (on_layer (keys T)) K) (do_change on_table K) change_to
        (CanChange K) change_step change_keep
        L (redo_strikes W (read T R)) ds S
        (by_kind (λ e. CanChange K e (redo_strikes W (read T R))) W (λ s r m. tt) (λ s l m. tt) row_stays)

    add_step : (e : Edit) → Mem e W → (L : Layer) (M : Table) (ds : List Deed) → Joins c T k L M ds → CanAdd e M
        → Joins c T k (do_add (on_layer (keys T)) e L) (do_add on_table e M) (in_turn add_to (concerning K k e) ds)
    add_step (at s (strike l)) m L M ds S w = idle c T a k L M ds S add_to (eqb l k) (strike l) refl
    add_step (at s (change j e)) m L M ds S w = idle c T a k L M ds S add_to (eqb (get_or K s 0) k) (change j e) refl
    add_step (at s (add r)) m L M ds S w =
        add_joins c T a k L M ds S r
        (eqb-true (length r) c (and_r (leb s (length (read T R))) (eqb (length r) c) (GW.each (at s (add r)) m))) w

    add_keep : (d e : Edit) → Mem d W → Mem e W → before d e ≡ true → (M : Table) → CanAdd e M → CanAdd e (do_add on_table d M)
    add_keep d (at s (strike l)) m n h M w = tt
    add_keep d (at s (change j e)) m n h M w = tt
    add_keep (at p (strike l)) (at s (add r)) m n h M w = w
    add_keep (at p (change j e)) (at s (add r)) m n h M w = w
    add_keep (at p (add x)) (at s (add r)) m n h M w =
        let e : eqb (key x) (key r) ≡ false =
        ne_eqb (key x) (key r) (λ g. omega (tests, one_key p s (add x) (add r) m n g h)) in
        lookup_add (key r) x M ∙ (ap (λ (t : Bool). cond t (row x) (lookup (key r) M)) e ∙ w)

    adds_done : (L : Layer) (ds : List Deed) → Joins c T k L (redo_changes K W (redo_strikes W (read T R))) ds
        → Ends (do_add (on_layer (keys T))) (do_add on_table) add_to L (redo_changes K W (redo_strikes W (read T R))) ds
    adds_done L ds S =
        in_turn_lem c T K k W GW.fit.sorted (do_add (on_layer (keys T))) (do_add on_table) add_to CanAdd add_step add_keep
        L (redo_changes K W (redo_strikes W (read T R))) ds S
        (by_kind (λ e. CanAdd e (redo_changes K W (redo_strikes W (read T R)))) W key_free (λ s l m. tt) (λ s j e m. tt))

    -- the combined layer, as the lower with the upper redone on it
    combined : Joins c T k (combine (keys T) R W) (redo on_table K W (read T R)) (joined (meaning (keys T) R k) (meaning K W k))
    unfolding combine joined
    combined =
        subst (λ (X : List ℕ). Joins c T k (redo (on_layer (keys T)) X W R) (redo on_table K W (read T R))
        (joined (meaning (keys T) R k) (meaning K W k))) (sym (keys_read T R (key_kept T R GR.fit)))
        (adds_done _ _ (changes_done _ _
        (strikes_done R (meaning (keys T) R k) (record { reads = record { good = GR; reads = refl }; means = refl }))))

-- W over what is read through R, both good: what the combined layer is.
module _ (c : ℕ) (T : Table) (R W : Layer) (a : AscFrom key 0 T) (GR : Good c T R) (GW : Good c (read T R) W) where
  -- it keeps form and fits
  pub combine_good : Good c T (combine (keys T) R W)
  combine_good = (combined c T R W a GR GW 0).reads.good

  -- it reads as R and then W in turn
  pub combine_reads : read T (combine (keys T) R W) ≡ read (read T R) W
  combine_reads =
      (combined c T R W a GR GW 0).reads.reads ∙ sym (read_redo (read T R) W (read_ascends T R a GR.fit) GW.fit)

  -- and for each key it means what R means with what W means done to it
  pub meaning_combined : (k : ℕ)
      → meaning (keys T) (combine (keys T) R W) k ≡ joined (meaning (keys T) R k) (meaning (keys (read T R)) W k)
  meaning_combined k = (combined c T R W a GR GW k).means

  -- with the same row total
  pub combine_rows_lem : rows_after (length T) (combine (keys T) R W) ≡ rows_after (rows_after (length T) R) W
  combine_rows_lem =
      sym (read_length T (combine (keys T) R W) combine_good.fit)
      ∙ (ap length combine_reads
      ∙ (read_length (read T R) W GW.fit ∙ ap (λ (n : ℕ). rows_after n W) (read_length T R GR.fit)))

  -- and passes the tests of form and fit, where the rows after W are at most 4,096
  pub combine_form : leb (rows_after (rows_after (length T) R) W) most_rows ≡ true
      → keeps_form c (length T) (combine (keys T) R W) ≡ true
  combine_form h =
      and_of (in_order c (length T) (combine (keys T) R W)) (leb (rows_after (length T) (combine (keys T) R W)) most_rows)
      (good_form c T (combine (keys T) R W) a combine_good) (ap (λ (n : ℕ). leb n most_rows) combine_rows_lem ∙ h)

  pub combine_fits : fits (keys T) (combine (keys T) R W) ≡ true
  combine_fits = good_fits c T (combine (keys T) R W) a combine_good

-- the tests of the upper layer, over the rows and the keys after the lower one, say that it is good
pub upper_good : (c : ℕ) (T : Table) (R W : Layer) → AscFrom key 0 T → Good c T R → in_order c (rows_after (length T) R) W ≡ true
    → fits (keys_after (keys T) R) W ≡ true → Good c (read T R) W
upper_good c T R W a GR fm ft =
    good_of c (read T R) W (read_ascends T R a GR.fit) (ap (λ (n : ℕ). in_order c n W) (read_length T R GR.fit) ∙ fm)
    (ap (λ (K : List ℕ). fits K W) (sym (keys_read T R (key_kept T R GR.fit))) ∙ ft)
