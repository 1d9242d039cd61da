-- The row of a key after a layer is what the layer's deeds for that key make of the row that was.
-- Two ascending tables with the same row for each key are one table.
-- Assumes nothing.
use mathlib.Core.Path.{◌≡◌, refl, sym, ap, ◌∙◌}
use mathlib.Core.Logic.{inl, inr}
use mathlib.Core.Bool.{Bool, true, false, cond, true≢false}
use mathlib.Core.List.Memᴰ.{cast as mem_cast}
use mathlib.Core.List.Memᴰ.{head as here}
use mathlib.Core.List.Memᴰ.{tail as next}
use mathlib.Core.List.{
  List,
  [],
  ◌∷◌,
  Memᴰ as Mem,
}
use Prim.Native.Nat.{ℕ, suc}
use native.Mathlib.Omega.{arith}
use lib.ListN.{get_or}
use lib.Dec.{eqb}
use borrow.Author.Tests.{eqb-true, eq-eqb, ne_eqb}
use Rattle.order.specs.Lists.{in_turn}
use Rattle.order.proofs.Tests.{impossible, same_test}
use Rattle.order.proofs.Counts.{count_le}
use Rattle.order.proofs.Ascending.{AscFrom, At, below, mem_at, at_mem, at_same, asc_mem, asc_same, ext}
use Rattle.order.proofs.Edited.{turn_idle}
use Rattle.order.proofs.Gather.{turn_seen}
use Rattle.model.specs.Row.{Row, Table, key, keys}
use Rattle.model.specs.Cell.{CellEdit, put}
use Rattle.model.specs.Layer.{Deed, add, strike, change, at, Layer, change_row, struck, changed}
use Rattle.model.specs.Read.{read}
use Rattle.model.specs.Meaning.{
  concerning,
  meaning,
  Found,
  row,
  missing,
  lookup,
  strike_found,
  change_found,
  add_found,
  given,
}
use Rattle.theory.proofs.Layer.{by_kind, changed_key, of_struck, struck_of}
use Rattle.theory.proofs.Fit.{Fit, key_kept, key_of_lem}
use Rattle.theory.proofs.Read.{Shown, shown, shows_row, shows_add}
use Rattle.theory.proofs.Count.{read_ascends}
use Rattle.theory.proofs.Meaning.{meaning_mem, mem_meaning, by_deed, done_not}

-- lookup finds a member with the key, and in an ascending table the one that there is
lookup_from : (b : ℕ) (T : Table) → AscFrom key b T → (r : Row) → Mem r T → lookup (key r) T ≡ row r
lookup_from b [] a r x'' = elim x'' [ ]
lookup_from b (x ∷ T) a r (here e) = rw (eq-eqb (key x) (key r) (sym (ap key e))) (ap row (sym e))
lookup_from b (x ∷ T) a r (next m) =
    rw (ne_eqb (key x) (key r) (λ e. omega (arith, asc_mem key (suc (key x)) T a.1 r m)))
    (lookup_from (suc (key x)) T a.1 r m)

pub lookup_found : (T : Table) (k : ℕ) (r : Row) → lookup k T ≡ row r → Mem r T × (key r ≡ k)
lookup_found [] k r h = impossible (cc)
lookup_found (x ∷ T) k r h = go (lookup_found T k r) (eqb (key x) k) refl h
  where
    go : (lookup k T ≡ row r → Mem r T × (key r ≡ k)) → (t : Bool) → eqb (key x) k ≡ t → cond t (row x) (lookup k T) ≡ row r
        → Mem r (x ∷ T) × (key r ≡ k)
    go ih true e f = let rx : r ≡ x = cc in (here rx, ap key rx ∙ eqb-true (key x) k e)
    go ih false e f = let w = ih f in (next w.0, w.1)

module _ (T : Table) (a : AscFrom key 0 T) (k : ℕ) where
  pub lookup_mem : (r : Row) → Mem r T → key r ≡ k → lookup k T ≡ row r
  lookup_mem r m e = rw (← e) (lookup_from 0 T a r m)

  -- it is missing where no member has the key
  pub lookup_missing : lookup k T ≡ missing → (r : Row) → Mem r T → key r ≡ k → ⊥
  lookup_missing h r m e = impossible (cc (lookup_mem r m e))

-- the same row for each key, the same table
pub lookup_ext : (M N : Table) → AscFrom key 0 M → AscFrom key 0 N → ((k : ℕ) → lookup k M ≡ lookup k N) → M ≡ N
lookup_ext M N a b h = ext key M N a b (into M N a h) (into N M b (λ k. sym (h k)))
  where
    into : (M N : Table) → AscFrom key 0 M → ((k : ℕ) → lookup k M ≡ lookup k N) → (r : Row) → Mem r M → Mem r N
    into M N a h r m = (lookup_found N (key r) r (sym (h (key r)) ∙ lookup_mem M a (key r) r m refl)).0

-- what deeds make of a row, kind by kind
module _ (ds : List Deed) where
  adds_none : (f : Found) → ((r : Row) → Mem (add r) ds → ⊥) → in_turn add_found ds f ≡ f
  adds_none f h =
      turn_idle add_found ds f (by_deed (λ d. add_found d f ≡ f) ds (λ r m. absurd (h r m)) (λ k m. refl) (λ j e m. refl))

  pub strikes_none : (f : Found) → ((k : ℕ) → Mem (strike k) ds → ⊥) → in_turn strike_found ds f ≡ f
  strikes_none f h =
      turn_idle strike_found ds f (by_deed (λ d. strike_found d f ≡ f) ds (λ r m. refl) (λ k m. absurd (h k m)) (λ j e m. refl))

  -- once the row stands, further adds of the same row leave it
  adds_again : (r : Row) → ((q : Row) → Mem (add q) ds → q ≡ r) → in_turn add_found ds (row r) ≡ row r
  adds_again r h =
      turn_idle add_found ds (row r)
      (by_deed (λ d. add_found d (row r) ≡ row r) ds (λ q m. ap row (h q m)) (λ k m. refl) (λ j e m. refl))

  -- a missing row stays missing but for adds
  pub strikes_missing : in_turn strike_found ds missing ≡ missing
  strikes_missing =
      turn_idle strike_found ds missing
      (by_deed (λ d. strike_found d missing ≡ missing) ds (λ r m. refl) (λ k m. refl) (λ j e m. refl))

  pub changes_missing : in_turn change_found ds missing ≡ missing
  changes_missing =
      turn_idle change_found ds missing
      (by_deed (λ d. change_found d missing ≡ missing) ds (λ r m. refl) (λ k m. refl) (λ j e m. refl))

adds_one : (ds : List Deed) (f : Found) (r : Row) → Mem (add r) ds → ((q : Row) → Mem (add q) ds → q ≡ r)
    → in_turn add_found ds f ≡ row r
adds_one [] f r x'' h = elim x'' [ ]
adds_one (d ∷ ds) f r (here e) h = rw (← e) (adds_again ds r (λ q m. h q (next m)))
adds_one (d ∷ ds) f r (next m) h = adds_one ds (add_found d f) r m (λ q n. h q (next n))

pub strikes_one : (ds : List Deed) (f : Found) (k : ℕ) → Mem (strike k) ds → in_turn strike_found ds f ≡ missing
strikes_one [] f k x' = elim x' [ ]
strikes_one (d ∷ ds) f k (here e) = rw (← e) (strikes_missing ds)
strikes_one (d ∷ ds) f k (next m) = strikes_one ds (strike_found d f) k m

-- where a set strikes a group and adds it again, the added row stands
pub given_replaced : (r : Row) (k : ℕ) (f : Found) → given (add r ∷ strike k ∷ []) f ≡ row r
unfolding given
given_replaced r k f = refl

-- the three together: an added row takes the place of whatever was, a struck row is gone, else the changes are done
module _ (ds : List Deed) (f : Found) where
  pub given_added : (r : Row) → Mem (add r) ds → ((q : Row) → Mem (add q) ds → q ≡ r) → given ds f ≡ row r
  unfolding given
  given_added r m h = adds_one ds (in_turn change_found ds (in_turn strike_found ds f)) r m h

  pub given_gone : ((r : Row) → Mem (add r) ds → ⊥) → in_turn strike_found ds f ≡ missing → given ds f ≡ missing
  unfolding given
  given_gone h e =
      adds_none ds (in_turn change_found ds (in_turn strike_found ds f)) h ∙ (ap (in_turn change_found ds) e ∙ changes_missing ds)

  pub given_changed : ((r : Row) → Mem (add r) ds → ⊥) → ((k : ℕ) → Mem (strike k) ds → ⊥)
      → given ds f ≡ in_turn change_found ds f
  unfolding given
  given_changed h g =
      adds_none ds (in_turn change_found ds (in_turn strike_found ds f)) h ∙ ap (in_turn change_found ds) (strikes_none ds f g)

-- the changes of row p are those that the layer means for its key
changes_meant : (K : List ℕ) (L : Layer) (g p : ℕ) (q : Row)
    → ((s j : ℕ) (e : CellEdit) → Mem (at s (change j e)) L → eqb (get_or K s 0) g ≡ eqb p s)
    → row (changed p L q) ≡ in_turn change_found (meaning K L g) (row q)
unfolding meaning
changes_meant K L g p q h =
    turn_seen row (change_row p) (concerning K g) change_found L q
    (by_kind (λ e. (x : Row) → row (change_row p e x) ≡ in_turn change_found (concerning K g e) (row x)) L
    (λ s r m x. done_not change_found (eqb (key r) g) (add r) (row x) refl)
    (λ s k m x. done_not change_found (eqb k g) (strike k) (row x) refl)
    (λ s j e m x. rw (h s j e m) (elim (eqb p s)
    as (λ t. row (cond t (put x j e) x) ≡ in_turn change_found (cond t (change j e ∷ []) []) (row x)) [ true ↦ refl | false ↦ refl ])))

pub add_shown : (T : Table) (L : Layer) → Fit T L → (s : ℕ) (r : Row) → Mem (at s (add r)) L → Mem r (read T L)
add_shown T L F s r m = shows_add 0 T L s r m (omega arith) (omega (arith, F.sits s r m, count_le (below key (key r)) T))

-- one layer over an ascending table
module _ (T : Table) (L : Layer) (a : AscFrom key 0 T) (F : Fit T L) (g : ℕ) where
  -- an added row is shown
  pub added_shown : (r : Row) → Mem (add r) (meaning (keys T) L g) → Mem r (read T L) × (key r ≡ g)
  added_shown r m = let w = meaning_mem (keys T) L g (add r) m in (add_shown T L F w.0 r w.1, w.2)

  -- one row is added for a key
  pub added_once : (q r : Row) → Mem (add q) (meaning (keys T) L g) → Mem (add r) (meaning (keys T) L g) → q ≡ r
  added_once q r m n = cc (seen q m, seen r n)
    where
      seen : (x : Row) → Mem (add x) (meaning (keys T) L g) → lookup g (read T L) ≡ row x
      seen x l = let w = added_shown x l in lookup_mem (read T L) (read_ascends T L a F) g x w.0 w.1

  -- the base row of the group: the edits that concern the group stand at it
  module _ (p : ℕ) (q : Row) (n : At q p 0 T) (kq : key q ≡ g) where
    pub strike_here_lem : (k : ℕ) → Mem (strike k) (meaning (keys T) L g) → struck p L ≡ true
    strike_here_lem k m =
        let w = meaning_mem (keys T) L g (strike k) m in
        let z = F.strikes w.0 k w.1 in
        rw (asc_same key T a n z.1 (kq ∙ sym (z.2 ∙ w.2))) (struck_of w.0 k L w.1)

    pub here_strike : struck p L ≡ true → (k : ℕ) × Mem (strike k) (meaning (keys T) L g)
    here_strike u =
        let w = of_struck p L u in
        let z = F.strikes p w.0 w.1 in
        (w.0, mem_meaning (keys T) L g p (strike w.0) w.1 (sym z.2 ∙ (ap key (at_same z.1 n) ∙ kq)))

    pub add_struck : (r : Row) → Mem (add r) (meaning (keys T) L g) → struck p L ≡ true
    add_struck r m = let w = meaning_mem (keys T) L g (add r) m in F.fresh w.0 r w.1 p q n (kq ∙ sym w.2)

    change_here : (s j : ℕ) (e : CellEdit) → Mem (at s (change j e)) L → eqb (get_or (keys T) s 0) g ≡ eqb p s
    change_here s j e m =
        let w = F.changes s j e m in
        same_test (eqb (get_or (keys T) s 0) g) (eqb p s)
        (λ t. eq-eqb p s (asc_same key T a n w.1 (kq ∙ (sym (eqb-true (get_or (keys T) s 0) g t) ∙ key_of_lem w.1))))
        (λ t. eq-eqb (get_or (keys T) s 0) g (ap (λ (i : ℕ). get_or (keys T) i 0) (sym (eqb-true p s t)) ∙ (key_of_lem n ∙ kq)))

    pub change_at : (j : ℕ) (e : CellEdit) → Mem (change j e) (meaning (keys T) L g) → Mem (at p (change j e)) L
    change_at j e m =
        let w = meaning_mem (keys T) L g (change j e) m in
        let z = F.changes w.0 j e w.1 in
        mem_cast {b = at w.0 (change j e)} (ap (λ (t : ℕ). at t (change j e))
        (asc_same key T a n z.1 (kq ∙ (sym w.2 ∙ key_of_lem z.1)))) w.1

    pub at_change : (j : ℕ) (e : CellEdit) → Mem (at p (change j e)) L → Mem (change j e) (meaning (keys T) L g)
    at_change j e m = mem_meaning (keys T) L g p (change j e) m (key_of_lem n ∙ kq)

    -- not struck, a row in its place has its changes
    pub kept_given : struck p L ≡ false → (x : Row) → given (meaning (keys T) L g) (row x) ≡ row (changed p L x)
    kept_given u x =
        given_changed (meaning (keys T) L g) (row x)
        (λ r m. true≢false (sym (add_struck r m) ∙ u)) (λ k m. true≢false (sym (strike_here_lem k m) ∙ u))
        ∙ sym (changes_meant (keys T) L g p x change_here)

  -- what stands there is what the deeds for the group make of its row
  stands : (r : Row) → key r ≡ g → Shown 0 T L r → given (meaning (keys T) L g) (lookup g T) ≡ row r
  stands r e (inl w) =
      let m = mem_meaning (keys T) L g w.0 (add r) w.1 e in
      given_added (meaning (keys T) L g) (lookup g T) r m (λ q l. added_once q r l m)
  stands r e (inr w) =
      let kq : key w.1 ≡ g = sym (changed_key w.0 L w.1 (key_kept T L F)) ∙ (sym (ap key w.4) ∙ e) in
      ap (given (meaning (keys T) L g)) (lookup_mem T a g w.1 (at_mem w.2) kq)
      ∙ (kept_given w.0 w.1 w.2 kq w.3 w.1 ∙ ap row (sym w.4))

  -- strikes leave no row of a group that is added, or that is not shown
  strikes_leave : (f : Found) → lookup g T ≡ f → ((p : ℕ) (q : Row) → At q p 0 T → key q ≡ g → struck p L ≡ true)
      → in_turn strike_found (meaning (keys T) L g) f ≡ missing
  strikes_leave missing e h = strikes_missing (meaning (keys T) L g)
  strikes_leave (row q) e h =
      let w = lookup_found T g q e in
      let n = mem_at 0 T q w.0 in
      let z = here_strike n.0 q n.1 w.1 (h n.0 q n.1 w.1) in
      strikes_one (meaning (keys T) L g) (row q) z.0 z.1

  pub added_free : (s : ℕ) (r : Row) → Mem (at s (add r)) L → key r ≡ g
      → in_turn strike_found (meaning (keys T) L g) (lookup g T) ≡ missing
  added_free s r m e = strikes_leave (lookup g T) refl (λ p q n kq. F.fresh s r m p q n (kq ∙ sym e))

  -- where no row of the group is shown, its base row is struck, and the deeds leave nothing
  module _ (h : (r : Row) → Mem r (read T L) → key r ≡ g → ⊥) where
    pub hidden : (p : ℕ) (q : Row) → At q p 0 T → key q ≡ g → struck p L ≡ true
    hidden p q n e = go (struck p L) refl
      where
        go : (t : Bool) → struck p L ≡ t → t ≡ true
        go true u = refl
        go false u = absurd (h (changed p L q) (shows_row 0 T L p q n u) (changed_key p L q (key_kept T L F) ∙ e))

    gone : given (meaning (keys T) L g) (lookup g T) ≡ missing
    gone =
        given_gone (meaning (keys T) L g) (lookup g T) (λ r l. let z = added_shown r l in h r z.0 z.1)
        (strikes_leave (lookup g T) refl hidden)

  pub one_layer : lookup g (read T L) ≡ given (meaning (keys T) L g) (lookup g T)
  one_layer = go (lookup g (read T L)) refl
    where
      go : (f : Found) → lookup g (read T L) ≡ f → f ≡ given (meaning (keys T) L g) (lookup g T)
      go (row r) e = let w = lookup_found (read T L) g r e in sym (stands r w.1 (shown 0 T L r w.0))
      go missing e = sym (gone (lookup_missing (read T L) (read_ascends T L a F) g e))
