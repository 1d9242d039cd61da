-- Edits done to a table by key: who stays, that the rows still ascend, what becomes of the row of a key.
-- So reading through a fitting layer is redoing it by key, strikes, then changes, then adds.
-- Assumes nothing.
use mathlib.Core.Path.{◌≡◌, refl, sym, ap, ◌∙◌}
use mathlib.Core.Bool.{Bool, true, false, not, cond}
use mathlib.Core.List.Memᴰ.{head as here}
use mathlib.Core.List.Memᴰ.{tail as next}
use mathlib.Core.List.{
  List,
  [],
  ◌∷◌,
  map,
  Memᴰ as Mem,
}
use Prim.Native.Nat.{ℕ, suc, ◌≤◌}
use native.Mathlib.Omega.{arith}
use lib.ListN.{get_or}
use lib.Dec.{eqb}
use borrow.Author.Tests.{lt-ltb, eqb-false, ne_eqb, not-true}
use Rattle.order.specs.Lists.{in_turn}
use Rattle.order.proofs.Tests.{tests}
use Rattle.order.proofs.Members.{filter_mem}
use Rattle.order.proofs.Pairs.{AllPairs, pairs_filter, pairs_insert}
use Rattle.order.proofs.Ascending.{AscFrom, lower, asc_pairs, pairs_asc}
use Rattle.order.proofs.Edited.{turn_keeps}
use Rattle.order.proofs.Gather.{turn_seen}
use Rattle.model.specs.Row.{Row, Table, key, keys}
use Rattle.model.specs.Cell.{CellEdit, put}
use Rattle.model.specs.Layer.{add, strike, change, Edit, at, Layer}
use Rattle.model.specs.Read.{read}
use Rattle.model.specs.Edits.{before}
use Rattle.model.specs.Redo.{
  do_strike,
  do_change,
  do_add,
  redo,
  strike_key,
  put_key,
  change_key,
  row_before,
  add_key,
  on_table,
}
use Rattle.model.specs.Meaning.{
  concerning,
  meaning,
  row,
  missing,
  lookup,
  strike_found,
  change_found,
  add_found,
  given,
}
use Rattle.theory.proofs.Cell.{put_key_lem}
use Rattle.theory.proofs.Layer.{KeyKept, by_kind}
use Rattle.theory.proofs.Edits.{level}
use Rattle.theory.proofs.Fit.{Fit, key_kept}
use Rattle.theory.proofs.Count.{read_ascends}
use Rattle.theory.proofs.Meaning.{done_if, done_not, one_position}
use Rattle.theory.proofs.Lookup.{lookup_ext, lookup_missing, changes_missing, added_free, one_layer}

abbrev pub redo_strikes : Layer → Table → Table
redo_strikes L M = in_turn (do_strike on_table) L M

abbrev pub redo_changes : List ℕ → Layer → Table → Table
redo_changes K L M = in_turn (do_change on_table K) L M

abbrev pub redo_adds : Layer → Table → Table
redo_adds L M = in_turn (do_add on_table) L M

-- strikes: who stays
pub strike_mem : (k : ℕ) (M : Table) (r : Row) → Mem r (strike_key k M) → Mem r M × (key r ≡ k → ⊥)
strike_mem k M r m =
    let w = filter_mem (λ q. not (eqb (key q) k)) M r m in (w.0, eqb-false (key r) k (not-true (eqb (key r) k) w.1))

pub strike_asc : (k : ℕ) (M : Table) → AscFrom key 0 M → AscFrom key 0 (strike_key k M)
strike_asc k M a =
    pairs_asc key 0 (strike_key k M) (pairs_filter (lower key) (λ q. not (eqb (key q) k)) M (asc_pairs key 0 M a))
    (λ r m. omega arith)

-- changes: row by row
map_asc : (f : Row → Row) → ((x : Row) → key (f x) ≡ key x) → (b : ℕ) (M : Table) → AscFrom key b M → AscFrom key b (map f M)
map_asc f h b [] a = tt
map_asc f h b (x ∷ M) a = (omega (arith, h x), rw (h x) (map_asc f h (suc (key x)) M a.1))

pub put_key_key : (k j : ℕ) (e : CellEdit) (x : Row) → 1 ≤ j → key (put_key k j e x) ≡ key x
put_key_key k j e x h = elim (eqb (key x) k) as (λ t. key (cond t (put x j e) x) ≡ key x) [ true ↦ put_key_lem x j e h | false ↦ refl ]

pub change_asc : (k j : ℕ) (e : CellEdit) (M : Table) → 1 ≤ j → AscFrom key 0 M → AscFrom key 0 (change_key k j e M)
change_asc k j e M h a = map_asc (put_key k j e) (λ x. put_key_key k j e x h) 0 M a

-- adds: one more row
pub add_asc : (r : Row) (M : Table) → AscFrom key 0 M → ((q : Row) → Mem q M → key q ≡ key r → ⊥) → AscFrom key 0 (add_key r M)
add_asc r M a h =
    pairs_asc key 0 (add_key r M)
    (pairs_insert row_before r M (λ x y z e f. lt-ltb (key x) (key z) (omega tests)) apart (asc_pairs key 0 M a))
    (λ q m. omega arith)
  where
    apart : (q : Row) → Mem q M → row_before q r ≡ false → row_before r q ≡ true
    apart q m e = lt-ltb (key r) (key q) (omega (tests, h q m))

-- the row of the key g after an edit by key
module _ (g : ℕ) where
  pub lookup_strike : (l : ℕ) (M : Table) → lookup g (strike_key l M) ≡ cond (eqb l g) missing (lookup g M)
  lookup_strike l [] = elim (eqb l g) as (λ t. missing ≡ cond t missing missing) [ true ↦ refl | false ↦ refl ]
  lookup_strike l (x ∷ M) = go (lookup_strike l M) (eqb (key x) l) refl (eqb l g) refl
    where
      go : lookup g (strike_key l M) ≡ cond (eqb l g) missing (lookup g M) → (u : Bool) → eqb (key x) l ≡ u → (t : Bool)
          → eqb l g ≡ t
          → lookup g (cond (not u) (x ∷ strike_key l M) (strike_key l M))
          ≡ cond t missing (cond (eqb (key x) g) (row x) (lookup g M))
      go ih true e true h = rw (h) at ih
      go ih true e false h = rw (ne_eqb (key x) g (λ z. omega tests)) (rw (h) at ih)
      go ih false e true h = rw (ne_eqb (key x) g (λ z. omega tests)) (rw (h) at ih)
      go ih false e false h = ap (cond (eqb (key x) g) (row x)) (rw (h) at ih)

  pub lookup_change : (l j : ℕ) (e : CellEdit) (M : Table) → 1 ≤ j
      → lookup g (change_key l j e M) ≡ cond (eqb l g) (change_found (change j e) (lookup g M)) (lookup g M)
  lookup_change l j e [] past = elim (eqb l g) as (λ t. missing ≡ cond t missing missing) [ true ↦ refl | false ↦ refl ]
  lookup_change l j e (x ∷ M) past =
      rw (put_key_key l j e x past) (go (lookup_change l j e M past) (eqb (key x) g) refl (eqb (key x) l) refl (eqb l g) refl)
    where
      go : lookup g (change_key l j e M) ≡ cond (eqb l g) (change_found (change j e) (lookup g M)) (lookup g M)
          → (w : Bool) → eqb (key x) g ≡ w → (u : Bool) → eqb (key x) l ≡ u → (t : Bool) → eqb l g ≡ t
          → cond w (row (cond u (put x j e) x)) (lookup g (change_key l j e M))
          ≡ cond t (change_found (change j e) (cond w (row x) (lookup g M))) (cond w (row x) (lookup g M))
      go ih false k u f t h = rw (← h) ih
      go ih true k true f true h = refl
      go ih true k true f false h = absurd (omega tests)
      go ih true k false f true h = absurd (omega tests)
      go ih true k false f false h = refl

  pub lookup_add : (r : Row) (M : Table) → lookup g (add_key r M) ≡ cond (eqb (key r) g) (row r) (lookup g M)
  lookup_add r [] = refl
  lookup_add r (x ∷ M) = go (lookup_add r M) (row_before x r) refl (eqb (key r) g) refl
    where
      go : lookup g (add_key r M) ≡ cond (eqb (key r) g) (row r) (lookup g M) → (u : Bool) → row_before x r ≡ u
          → (t : Bool) → eqb (key r) g ≡ t
          → lookup g (cond u (x ∷ add_key r M) (r ∷ x ∷ M)) ≡ cond t (row r) (cond (eqb (key x) g) (row x) (lookup g M))
      go ih true e true h = rw (ne_eqb (key x) g (λ z. omega tests)) (rw (h) at ih)
      go ih true e false h = ap (cond (eqb (key x) g) (row x)) (rw (h) at ih)
      go ih false e t h = rw (h)

  -- after a layer's strikes, its changes, its adds: what its deeds for g make of it
  module _ (K : List ℕ) (L : Layer) where
    pub lookup_strikes : (M : Table) → lookup g (redo_strikes L M) ≡ in_turn strike_found (meaning K L g) (lookup g M)
    unfolding meaning
    lookup_strikes M =
        turn_seen (lookup g) (do_strike on_table) (concerning K g) strike_found L M
        (by_kind (λ e. (N : Table) → lookup g (do_strike on_table e N) ≡ in_turn strike_found (concerning K g e) (lookup g N)) L
        (λ s r m N. done_not strike_found (eqb (key r) g) (add r) (lookup g N) refl)
        (λ s k m N. lookup_strike k N ∙ done_if strike_found (eqb k g) (strike k) (lookup g N))
        (λ s j e m N. done_not strike_found (eqb (get_or K s 0) g) (change j e) (lookup g N) refl))

    lookup_changes : KeyKept L → (M : Table) → lookup g (redo_changes K L M) ≡ in_turn change_found (meaning K L g) (lookup g M)
    unfolding meaning
    lookup_changes kept M =
        turn_seen (lookup g) (do_change on_table K) (concerning K g) change_found L M
        (by_kind (λ e. (N : Table) → lookup g (do_change on_table K e N) ≡ in_turn change_found (concerning K g e) (lookup g N)) L
        (λ s r m N. done_not change_found (eqb (key r) g) (add r) (lookup g N) refl)
        (λ s k m N. done_not change_found (eqb k g) (strike k) (lookup g N) refl)
        (λ s j e m N. lookup_change (get_or K s 0) j e N (kept s j e m)
        ∙ done_if change_found (eqb (get_or K s 0) g) (change j e) (lookup g N)))

    lookup_adds : (M : Table) → lookup g (redo_adds L M) ≡ in_turn add_found (meaning K L g) (lookup g M)
    unfolding meaning
    lookup_adds M =
        turn_seen (lookup g) (do_add on_table) (concerning K g) add_found L M
        (by_kind (λ e. (N : Table) → lookup g (do_add on_table e N) ≡ in_turn add_found (concerning K g e) (lookup g N)) L
        (λ s r m N. lookup_add r N ∙ done_if add_found (eqb (key r) g) (add r) (lookup g N))
        (λ s k m N. done_not add_found (eqb k g) (strike k) (lookup g N) refl)
        (λ s j e m N. done_not add_found (eqb (get_or K s 0) g) (change j e) (lookup g N) refl))

    -- before its adds, and whole
    module _ (kept : KeyKept L) (M : Table) where
      pub lookup_left : lookup g (redo_changes K L (redo_strikes L M))
          ≡ in_turn change_found (meaning K L g) (in_turn strike_found (meaning K L g) (lookup g M))
      lookup_left = lookup_changes kept (redo_strikes L M) ∙ ap (in_turn change_found (meaning K L g)) (lookup_strikes M)

      pub lookup_redo : lookup g (redo on_table K L M) ≡ given (meaning K L g) (lookup g M)
      unfolding given
      lookup_redo = lookup_adds (redo_changes K L (redo_strikes L M)) ∙ ap (in_turn add_found (meaning K L g)) lookup_left

-- a layer that fits T, redone by key on an ascending table that its strikes rid of the keys that it adds
module _ (T : Table) (L : Layer) (a : AscFrom key 0 T) (F : Fit T L) where
  -- its adds leave an ascending table, since no two are of one key
  adds_asc : (Z : Layer) → ((e : Edit) → Mem e Z → Mem e L) → AllPairs before Z → (N : Table) → AscFrom key 0 N
      → ((s : ℕ) (r : Row) → Mem (at s (add r)) Z → lookup (key r) N ≡ missing) → AscFrom key 0 (redo_adds Z N)
  adds_asc [] sub o N b free = b
  adds_asc (at s (strike k) ∷ Z) sub o N b free = adds_asc Z (λ e m. sub e (next m)) o.1 N b (λ t x m. free t x (next m))
  adds_asc (at s (change j f) ∷ Z) sub o N b free = adds_asc Z (λ e m. sub e (next m)) o.1 N b (λ t x m. free t x (next m))
  adds_asc (at s (add r) ∷ Z) sub o N b free =
      adds_asc Z (λ e m. sub e (next m)) o.1 (add_key r N)
      (add_asc r N b (lookup_missing N b (key r) (free s r (here refl)))) (λ t x m.
      lookup_add (key x) r N
      ∙ (ap (λ (u : Bool). cond u (row r) (lookup (key x) N)) (ne_eqb (key r) (key x) (other t x m)) ∙ free t x (next m)))
    where
      other : (t : ℕ) (x : Row) → Mem (at t (add x)) Z → key r ≡ key x → ⊥
      other t x m e =
          let st : s ≡ t =
          one_position T L a F s t (add r) (add x) (sub (at s (add r)) (here refl)) (sub (at t (add x)) (next m)) e in
          omega (tests, level s t (add r) (add x) st (o.0 (at t (add x)) m))

  module _ (M : Table) (b : AscFrom key 0 M)
      (free : (s : ℕ) (r : Row) → Mem (at s (add r)) L → in_turn strike_found (meaning (keys T) L (key r))
      (lookup (key r) M) ≡ missing) where
    strikes_asc : AscFrom key 0 (redo_strikes L M)
    strikes_asc =
        turn_keeps (AscFrom key 0) (do_strike on_table) L M
        (by_kind (λ e. (N : Table) → AscFrom key 0 N → AscFrom key 0 (do_strike on_table e N)) L
        (λ s r m N n. n) (λ s k m N n. strike_asc k N n) (λ s j e m N n. n)) b

    changes_asc : AscFrom key 0 (redo_changes (keys T) L (redo_strikes L M))
    changes_asc =
        turn_keeps (AscFrom key 0) (do_change on_table (keys T)) L (redo_strikes L M)
        (by_kind (λ e. (N : Table) → AscFrom key 0 N → AscFrom key 0 (do_change on_table (keys T) e N)) L
        (λ s r m N n. n) (λ s k m N n. n)
        (λ s j e m N n. change_asc (get_or (keys T) s 0) j e N (key_kept T L F s j e m) n)) strikes_asc

    pub redo_asc : AscFrom key 0 (redo on_table (keys T) L M)
    redo_asc =
        adds_asc L (λ e m. m) F.sorted (redo_changes (keys T) L (redo_strikes L M)) changes_asc (λ s r m.
        lookup_left (key r) (keys T) L (key_kept T L F) M
        ∙ (ap (in_turn change_found (meaning (keys T) L (key r))) (free s r m) ∙ changes_missing (meaning (keys T) L (key r))))

  -- reading through a fitting layer is redoing it by key
  pub read_redo : read T L ≡ redo on_table (keys T) L T
  read_redo =
      lookup_ext (read T L) (redo on_table (keys T) L T) (read_ascends T L a F)
      (redo_asc T a (λ s r m. added_free T L a F (key r) s r m refl))
      (λ g. one_layer T L a F g ∙ sym (lookup_redo g (keys T) L (key_kept T L F) T))
