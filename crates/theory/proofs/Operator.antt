-- Which group gets my change: the row of a group after a layer is what the layer's deeds for that group make of it.
-- Assumes nothing.
use mathlib.Core.Path.{◌≡◌, refl, sym, ap, ◌∙◌}
use mathlib.Core.Bool.{Bool, true, false, cond}
use mathlib.Core.List.Memᴰ.{cast as mem_cast}
use mathlib.Core.List.Memᴰ.{head as here}
use mathlib.Core.List.Memᴰ.{not-nil}
use mathlib.Core.List.Memᴰ.{tail as next}
use mathlib.Core.List.{
  List,
  [],
  ◌∷◌,
  Memᴰ as Mem,
}
use Prim.Native.Nat.{ℕ, ◌<◌}
use native.Mathlib.Omega.{arith}
use lib.ListN.{length}
use lib.Dec.{eqb}
use borrow.Author.Tests.{eqb-true, eqb-false, eq-eqb}
use Rattle.order.specs.Lists.{ascending}
use Rattle.order.proofs.Tests.{tests, impossible, not_passed}
use Rattle.order.proofs.Pairs.{AllPairs}
use Rattle.order.proofs.Ascending.{AscFrom, At, mem_at, at_mem}
use Rattle.model.specs.Row.{Row, Table, cell, key, keys}
use Rattle.model.specs.Cell.{CellEdit, done, agree, put}
use Rattle.model.specs.Layer.{Deed, add, strike, change, Edit, at, Layer, struck, changed}
use Rattle.model.specs.Read.{read}
use Rattle.model.specs.Edits.{deed_before, before}
use Rattle.model.specs.Conflict.{conflict}
use Rattle.model.specs.Meaning.{meaning, row, lookup, given}
use Rattle.theory.proofs.Cell.{put_length, put_here, put_elsewhere}
use Rattle.theory.proofs.Edits.{level}
use Rattle.theory.proofs.Layer.{changed_keeps, changed_length}
use Rattle.theory.proofs.Fit.{Fit, key_of_lem}
use Rattle.theory.proofs.Conflict.{conflict_sym}
use Rattle.theory.proofs.Meaning.{meaning_mem, changed_kept}
use Rattle.theory.proofs.Lookup.{lookup_mem, lookup_found, here_strike, change_at, at_change, kept_given, one_layer}
use Rattle.theory.proofs.Move.{Beside}
use Rattle.theory.proofs.Moved.{together, after_both, kept_row, both_orders}
use Rattle.theory.proofs.Demand3.{Tested, beside}

-- a changed cell has its one change done, and every other cell of the row is as it was
cell_left : (s : ℕ) (L : Layer) (q : Row) (j : ℕ) → ((e : CellEdit) → Mem (at s (change j e)) L → ⊥)
    → cell j (changed s L q) ≡ cell j q
cell_left s L q j h = changed_keeps (λ x. cell j x ≡ cell j q) s L q (λ i f m x k.
    put_elsewhere x i j f (λ ji. h f (mem_cast {b = at s (change i f)} (ap (λ (t : ℕ). at s (change t f)) ji) m)) ∙ k) refl

-- in order, a change is of another column than an earlier one of its row
other_column : (p s i j : ℕ) (f e : CellEdit) → p ≡ s → before (at p (change i f)) (at s (change j e)) ≡ true → j ≡ i → ⊥
other_column p s i j f e ps h ji =
    let b : deed_before (change i f) (change j e) ≡ true = level p s (change i f) (change j e) ps h in omega tests

cell_done : (s : ℕ) (L : Layer) (q : Row) (j : ℕ) (e : CellEdit) → AllPairs before L → Mem (at s (change j e)) L → j < length q
    → cell j (changed s L q) ≡ done e (cell j q)
cell_done s [] q j e o x3 l = elim x3 [ ]
cell_done s (d ∷ L) q j e o (here h) l =
    rw (← h, eq-eqb s s refl) (cell_left s L (put q j e) j (λ f m.
    other_column s s j j e f refl (ap (λ (x : Edit). before x (at s (change j f))) h ∙ o.0 (at s (change j f)) m) refl)
    ∙ put_here q j e l)
cell_done s (at p (add r) ∷ L) q j e o (next m) l = cell_done s L q j e o.1 m l
cell_done s (at p (strike k) ∷ L) q j e o (next m) l = cell_done s L q j e o.1 m l
cell_done s (at p (change i f) ∷ L) q j e o (next m) l = go (λ x. cell_done s L x j e o.1 m) (eqb s p) refl
  where
    go : ((x : Row) → j < length x → cell j (changed s L x) ≡ done e (cell j x)) → (t : Bool) → eqb s p ≡ t
        → cell j (changed s L (cond t (put q i f) q)) ≡ done e (cell j q)
    go ih true g =
        ih (put q i f) (omega (arith, put_length q i f))
        ∙ ap (done e) (put_elsewhere q i j f (other_column p s i j f e (sym (eqb-true s p g)) (o.0 (at s (change j e)) m)))
    go ih false g = ih q l

-- deeds leave the cell j of their group alone, or one of them changes it
abbrev pub Leaves : ℕ → List Deed → Type 0
Leaves j ds = (e : CellEdit) → Mem (change j e) ds → ⊥

pub data OfCell (j : ℕ) (ds : List Deed) : Type 0 where
  changes : (e : CellEdit) → Mem (change j e) ds → OfCell j ds
  leaves : Leaves j ds → OfCell j ds

of_cell : (j : ℕ) (ds : List Deed) → OfCell j ds
of_cell j [] = leaves (λ e m. not-nil m)
of_cell j (d ∷ ds) = first d (of_cell j ds)
  where
    later : (d : Deed) → ((e : CellEdit) → d ≡ change j e → ⊥) → OfCell j ds → OfCell j (d ∷ ds)
    later d h (changes e m) = changes e (next m)
    later d h (leaves k) = leaves neither
      where
        neither : Leaves j (d ∷ ds)
        neither e (here g) = h e (sym g)
        neither e (next m) = k e m

    first : (d : Deed) → OfCell j ds → OfCell j (d ∷ ds)
    first (add r) w = later (add r) (λ e h. impossible (cc)) w
    first (strike k) w = later (strike k) (λ e h. impossible (cc)) w
    first (change i f) w = same (eqb i j) refl
      where
        same : (t : Bool) → eqb i j ≡ t → OfCell j (change i f ∷ ds)
        same true g = changes f (here (ap (λ (t : ℕ). change t f) (sym (eqb-true i j g))))
        same false g = later (change i f) (λ e h. eqb-false i j g (cc)) w

-- whose the cell j of a group's row is, where my deeds for the group are ds and theirs es
pub data Whose (ds es : List Deed) (j old new : ℕ) : Type 0 where
  mine : (e : CellEdit) → Mem (change j e) ds → Leaves j es → new ≡ done e old → Whose ds es j old new
  theirs : (f : CellEdit) → Mem (change j f) es → Leaves j ds → new ≡ done f old → Whose ds es j old new
  -- to one value
  ours : (e f : CellEdit) → Mem (change j e) ds → Mem (change j f) es → agree e f ≡ true → new ≡ done e (done f old)
      → Whose ds es j old new
  base : Leaves j ds → Leaves j es → new ≡ old → Whose ds es j old new

-- the base row of a group: its cells after a layer's changes
module _ (T : Table) (L : Layer) (a : AscFrom key 0 T) (F : Fit T L) (g p : ℕ) (q : Row) (n : At q p 0 T) (kq : key q ≡ g) where
  row_done : (x : Row) (j : ℕ) (e : CellEdit) → Mem (change j e) (meaning (keys T) L g) → j < length x
      → cell j (changed p L x) ≡ done e (cell j x)
  row_done x j e m l = cell_done p L x j e F.sorted (change_at T L a F g p q n kq j e m) l

  row_left : (x : Row) (j : ℕ) → Leaves j (meaning (keys T) L g) → cell j (changed p L x) ≡ cell j x
  row_left x j h = cell_left p L x j (λ e m. h e (at_change T L a F g p q n kq j e m))

-- and after the changes of two sets that are free of conflict
module _ (T : Table) (X Y : Layer) (B : Beside T X Y) (g p : ℕ) (q : Row) (n : At q p 0 T) (kq : key q ≡ g) (j : ℕ)
    (l : j < length q) where
  abbrev both : Row
  both = changed p X (changed p Y q)

  mine_done : (e : CellEdit) → Mem (change j e) (meaning (keys T) X g) → cell j both ≡ done e (cell j (changed p Y q))
  mine_done e m = row_done T X B.ascends B.mine g p q n kq (changed p Y q) j e m (omega (arith, changed_length p Y q))

  mine_left : Leaves j (meaning (keys T) X g) → cell j both ≡ cell j (changed p Y q)
  mine_left h = row_left T X B.ascends B.mine g p q n kq (changed p Y q) j h

  theirs_done : (f : CellEdit) → Mem (change j f) (meaning (keys T) Y g) → cell j (changed p Y q) ≡ done f (cell j q)
  theirs_done f m = row_done T Y B.ascends B.theirs g p q n kq q j f m l

  theirs_left : Leaves j (meaning (keys T) Y g) → cell j (changed p Y q) ≡ cell j q
  theirs_left h = row_left T Y B.ascends B.theirs g p q n kq q j h

  whose : OfCell j (meaning (keys T) X g) → OfCell j (meaning (keys T) Y g)
      → Whose (meaning (keys T) X g) (meaning (keys T) Y g) j (cell j q) (cell j both)
  whose (changes e m) (changes f k) =
      ours e f m k
      (B.apart.cells p j j e f (change_at T X B.ascends B.mine g p q n kq j e m)
      (change_at T Y B.ascends B.theirs g p q n kq j f k) refl)
      (mine_done e m ∙ ap (done e) (theirs_done f k))
  whose (changes e m) (leaves k) = mine e m k (mine_done e m ∙ ap (done e) (theirs_left k))
  whose (leaves h) (changes f k) = theirs f k h (mine_left h ∙ theirs_done f k)
  whose (leaves h) (leaves k) = base h k (mine_left h ∙ theirs_left k)

-- what becomes of the group g
pub record Answered (T : Table) (X Y : Layer) (g : ℕ) : Type 0 where
  -- its row is what both sets' deeds for it, and no other edit, make of its base row
  pub mine_last : lookup g (together T X Y) ≡ given (meaning (keys T) X g) (given (meaning (keys T) Y g) (lookup g T))
  -- whichever is done first
  pub mine_first : lookup g (together T X Y) ≡ given (meaning (keys T) Y g) (given (meaning (keys T) X g) (lookup g T))
  pub either_way : lookup g (together T X Y) ≡ lookup g (together T Y X)

-- two sets that pass the tests of the scope, free of conflict
module _ (c : ℕ) (T : Table) (X Y : Layer) (t : ascending (keys T) ≡ true) (GX : Tested c T X) (GY : Tested c T Y)
    (n : conflict X Y ≡ false) where
  side : Beside T X Y
  side = beside c T X Y t GX GY n

  other : Beside T Y X
  other = beside c T Y X t GY GX (sym (conflict_sym X Y) ∙ n)

  pub operators_question : (g : ℕ) → Answered T X Y g
  operators_question g =
      let alike : lookup g (together T X Y) ≡ lookup g (together T Y X) = ap (lookup g) (both_orders T X Y side other) in
      record { mine_last = after_both T X Y side g; mine_first = alike ∙ after_both T Y X other g; either_way = alike }

  -- a group that neither set touches has its base row, unchanged
  pub untouched : (g : ℕ) → meaning (keys T) X g ≡ [] → meaning (keys T) Y g ≡ [] → lookup g (together T X Y) ≡ lookup g T
  unfolding given
  untouched g e f = (operators_question g).mine_last ∙ rw (e, f)

  -- a group that only one set touches is as that set alone makes it
  pub mine_alone : (g : ℕ) → meaning (keys T) Y g ≡ [] → lookup g (together T X Y) ≡ lookup g (read T X)
  unfolding given
  mine_alone g f =
      (operators_question g).mine_first ∙ (rw (f) (sym (one_layer T X side.ascends side.mine g)))

  pub theirs_alone : (g : ℕ) → meaning (keys T) X g ≡ [] → lookup g (together T X Y) ≡ lookup g (read T Y)
  unfolding given
  theirs_alone g e =
      (operators_question g).mine_last ∙ (rw (e) (sym (one_layer T Y side.ascends side.theirs g)))

  -- a group that neither strikes keeps its row, and each cell of it is whose change it is
  pub whose_cell : (g : ℕ) (q : Row) → lookup g T ≡ row q
      → ((k : ℕ) → Mem (strike k) (meaning (keys T) X g) → ⊥) → ((k : ℕ) → Mem (strike k) (meaning (keys T) Y g) → ⊥)
      → (r : Row) × (lookup g (together T X Y) ≡ row r)
      × ((j : ℕ) → j < length q → Whose (meaning (keys T) X g) (meaning (keys T) Y g) j (cell j q) (cell j r))
  whose_cell g q h noX noY =
      let w = lookup_found T g q h in
      let p = mem_at 0 T q w.0 in (
        changed p.0 X (changed p.0 Y q),
        kept_row T X Y side g p.0 q p.1 w.1 (kept X side.mine p.0 p.1 w.1 noX)
            (kept Y side.theirs p.0 p.1 w.1 noY),
        λ j l. whose T X Y side g p.0 q p.1 w.1 j l (of_cell j (meaning (keys T) X g))
            (of_cell j (meaning (keys T) Y g)),
      )
    where
      kept : (L : Layer) → Fit T L → (p : ℕ) → At q p 0 T → key q ≡ g → ((k : ℕ) → Mem (strike k) (meaning (keys T) L g) → ⊥)
          → struck p L ≡ false
      kept L F p n kq none =
          not_passed (struck p L) (λ u. let w = here_strike T L side.ascends F g p q n kq u in none w.0 w.1)

  -- a cell that my set changes is what my change makes of it in the row that theirs leave
  pub mine_cell : (g j : ℕ) (e : CellEdit) → Mem (change j e) (meaning (keys T) X g)
      → (o : Row) × (r : Row) × (lookup g (read T Y) ≡ row o) × (lookup g (together T X Y) ≡ row r)
      × (j < length o → cell j r ≡ done e (cell j o))
  mine_cell g j e m =
      let w = meaning_mem (keys T) X g (change j e) m in
      let z = side.mine.changes w.0 j e w.1 in
      let kq : key z.0 ≡ g = sym (key_of_lem z.1) ∙ w.2 in
      let u : struck w.0 X ≡ false = changed_kept X side.mine.sorted w.0 j e w.1 in
      let v : struck w.0 Y ≡ false = side.apart.changes w.0 j e w.1 in (
        changed w.0 Y z.0,
        changed w.0 X (changed w.0 Y z.0),
        one_layer T Y side.ascends side.theirs g
            ∙ (ap (given (meaning (keys T) Y g)) (lookup_mem T side.ascends g z.0 (at_mem z.1) kq)
            ∙ kept_given T Y side.ascends side.theirs g w.0 z.0 z.1 kq v z.0),
        kept_row T X Y side g w.0 z.0 z.1 kq u v,
        λ l. mine_done T X Y side g w.0 z.0 z.1 kq j (omega (arith, changed_length w.0 Y z.0)) e m,
      )
