-- A column of what is read is that column read alone, from its base column and the layer; the key column is one of them.
-- Assumes nothing.
use mathlib.Core.Path.{◌≡◌, refl, sym, ap, ◌∙◌}
use mathlib.Core.Logic.{inl, inr}
use mathlib.Core.Bool.{Bool, true, false, cond, ◌&&◌}
use mathlib.Core.List.Memᴰ.{head as here}
use mathlib.Core.List.Memᴰ.{tail as next}
use mathlib.Core.List.{List, [], ◌∷◌, map, Memᴰ as Mem}
use Prim.Native.Nat.{ℕ, ◌<◌}
use native.Mathlib.Omega.{arith}
use lib.ListN.{length, length-map}
use lib.Dec.{leb, eqb}
use borrow.Author.Tests.{eqb-true, eqb-false, ne_eqb}
use Rattle.order.proofs.Tests.{and_r}
use Rattle.order.proofs.Ascending.{At, at_mem}
use Rattle.model.specs.Row.{Row, Table, cell, key, column, keys}
use Rattle.model.specs.Cell.{CellEdit, done, put}
use Rattle.model.specs.Layer.{add, strike, change, at, Layer, adds_at, struck, changed, changed_cell}
use Rattle.model.specs.Read.{unless, read, read_column, keys_after}
use Rattle.theory.proofs.Cell.{put_here, put_elsewhere, put_length}
use Rattle.theory.proofs.Layer.{KeyKept, changed_length}
use Rattle.theory.proofs.Through.{map_unless, through_same, through_map, through_over}
use Rattle.theory.proofs.Read.{Shown, shown}
use Rattle.theory.proofs.Fit.{Good}

-- the cell of a changed row is the changed cell
put_cell : (j i : ℕ) (e : CellEdit) (r : Row) → j < length r
    → cell j (put r i e) ≡ cond (eqb j i) (done e (cell j r)) (cell j r)
put_cell j i e r h = go (eqb j i) refl
  where
    go : (t : Bool) → eqb j i ≡ t → cell j (put r i e) ≡ cond t (done e (cell j r)) (cell j r)
    go true f = rw (← eqb-true j i f) (put_here r j e h)
    go false f = put_elsewhere r i j e (eqb-false j i f)

changed_by : (s j : ℕ) (L : Layer) (r : Row)
    → ((p i : ℕ) (e : CellEdit) → Mem (at p (change i e)) L → (x : Row) → length x ≡ length r
    → cell j (put x i e) ≡ cond (eqb j i) (done e (cell j x)) (cell j x))
    → cell j (changed s L r) ≡ changed_cell s j L (cell j r)
changed_by s j [] r h = refl
changed_by s j (at p (add q) ∷ L) r h = changed_by s j L r (λ p' i e m. h p' i e (next m))
changed_by s j (at p (strike k) ∷ L) r h = changed_by s j L r (λ p' i e m. h p' i e (next m))
changed_by s j (at p (change i e) ∷ L) r h =
    go (λ q g. changed_by s j L q (λ p' i' f m x k. h p' i' f (next m) x (k ∙ g))) (eqb s p)
  where
    go : ((q : Row) → length q ≡ length r → cell j (changed s L q) ≡ changed_cell s j L (cell j q)) → (t : Bool)
        → cell j (changed s L (cond t (put r i e) r)) ≡ changed_cell s j L (cond (t && eqb j i) (done e (cell j r)) (cell j r))
    go ih true = ih (put r i e) (put_length r i e) ∙ ap (changed_cell s j L) (h p i e (here refl) r refl)
    go ih false = ih r refl

changed_cell_lem : (s j : ℕ) (L : Layer) (r : Row) → j < length r → cell j (changed s L r) ≡ changed_cell s j L (cell j r)
changed_cell_lem s j L r h = changed_by s j L r (λ p i e m x k. put_cell j i e x (omega arith))

-- where changes leave the key alone, rows of any length will do
key_cell : (s : ℕ) (L : Layer) (r : Row) → KeyKept L → cell 0 (changed s L r) ≡ changed_cell s 0 L (cell 0 r)
key_cell s L r kk = changed_by s 0 L r (λ p i e m x k.
    let other : 0 ≡ i → ⊥ = λ g. omega (arith, kk p i e m) in rw (ne_eqb 0 i other) (put_elsewhere x i 0 e other))

-- a column where every base row's cell reads as the cell alone does
by_cell : (j : ℕ) (T : Table) (L : Layer)
    → ((p : ℕ) (r : Row) → At r p 0 T → cell j (changed p L r) ≡ changed_cell p j L (cell j r))
    → column j (read T L) ≡ read_column j (column j T) L
by_cell j T L h =
    through_map (cell j) (λ p. adds_at p L) (λ p r. unless (struck p L) (changed p L r)) 0 T
    ∙ (through_same (λ p. column j (adds_at p L)) (λ p. column j (adds_at p L)) _ _ 0 T (λ p. refl)
    (λ p r n. map_unless (cell j) (struck p L) (changed p L r) ∙ ap (unless (struck p L)) (h p r n))
    ∙ sym (through_over (cell j) (λ p. column j (adds_at p L)) (λ p v. unless (struck p L) (changed_cell p j L v)) 0 T))

-- every row has c values
abbrev pub Wide : ℕ → Table → Type 0
Wide c T = (r : Row) → Mem r T → length r ≡ c

-- Reading column j takes only that base column and the layer.
pub column_read : (c j : ℕ) (T : Table) (L : Layer) → Wide c T → j < c → column j (read T L) ≡ read_column j (column j T) L
column_read c j T L w h = by_cell j T L (λ p r n. changed_cell_lem p j L r (omega (arith, w r (at_mem n))))

-- the key column after the layer is that of the rows read
pub keys_read : (T : Table) (L : Layer) → KeyKept L → keys_after (keys T) L ≡ keys (read T L)
unfolding key
keys_read T L kk = sym (by_cell 0 T L (λ p r n. key_cell p L r kk))

-- and what is read has c columns again
pub read_wide : (c : ℕ) (T : Table) (L : Layer) → Wide c T → Good c T L → Wide c (read T L)
read_wide c T L w G r m = go (shown 0 T L r m)
  where
    go : Shown 0 T L r → length r ≡ c
    go (inl a) = eqb-true (length r) c (and_r (leb a.0 (length T)) (eqb (length r) c) (G.each (at a.0 (add r)) a.1))
    go (inr a) = ap length a.4 ∙ (changed_length a.0 L a.1 ∙ w a.1 (at_mem a.2))

-- a key column as a table of one column
abbrev pub singles : List ℕ → Table
singles K = map (λ k. k ∷ []) K

pub keys_singles : (K : List ℕ) → keys (singles K) ≡ K
unfolding key
keys_singles [] = refl
keys_singles (k ∷ K) = ap (λ (t : List ℕ). k ∷ t) (keys_singles K)

pub singles_length : (K : List ℕ) → length (singles K) ≡ length K
singles_length K = length-map K (λ k. k ∷ [])
