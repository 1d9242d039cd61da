-- Row number r of what is read is the row of what stands behind it: base row s with its changes, or the row of added entry i.
-- Assumes nothing.
use mathlib.Core.Path.{◌≡◌, refl, sym, ap, ◌∙◌}
use mathlib.Core.Bool.{Bool, true, false, cond}
use mathlib.Core.List.{List, [], ◌∷◌, ◌++◌, map, Memᴰ as Mem}
use Prim.Native.Nat.{ℕ, suc, ◌+◌, ◌<◌}
use lib.ListN.{length, get_or, replicate}
use lib.Dec.{eqb}
use Rattle.words.specs.declared.Origin.{Origin}
use Rattle.words.specs.declared.Origin.TheVariants.{Base as base, Added as added}
use Rattle.order.proofs.Tests.{impossible}
use Rattle.order.proofs.Ascending.{At, top, deep, at_mem, at_get_or, get_or_at}
use Rattle.order.proofs.Edited.{at_map}
use Rattle.model.specs.Row.{Row, Table}
use Rattle.model.specs.Layer.{add, strike, change, Edit, at, Layer, position, adds_at, struck, changed}
use Rattle.model.specs.Read.{unless, through, read}
use Rattle.model.specs.Position.{add_numbers, origins, back}
use Rattle.theory.proofs.Position.{entry_no, base_shown, add_at_lem, origins_mem}
use Rattle.theory.proofs.Through.{map_unless, through_same, through_map, through_over}

-- the row that an edit adds
abbrev pub added_row : Edit → Row
added_row (at s (add r)) = r
added_row (at s (strike k)) = []
added_row (at s (change j e)) = []

-- the row of an origin
abbrev pub origin_row : Table → Layer → Origin → Row
origin_row T L (base s) = changed s L (get_or T s [])
origin_row T L (added i) = added_row (get_or L i (at 0 (add [])))

-- the numbers of the entries that add at s give the rows added at s; Z is the layer from number i on
adds_rows : (T : Table) (L : Layer) (s i : ℕ) (Z : Layer) → ((e : Edit) (k : ℕ) → At e k i Z → At e k 0 L)
    → map (origin_row T L) (map added (add_numbers s i Z)) ≡ adds_at s Z
adds_rows T L s i [] sub = refl
adds_rows T L s i (at p (add r) ∷ Z) sub = go (adds_rows T L s (suc i) Z (λ d k n. sub d k (deep n))) (eqb s p)
  where
    row : added_row (get_or L i (at 0 (add []))) ≡ r
    row = ap added_row (at_get_or (at 0 (add [])) (sub (at p (add r)) i (top refl refl)))

    go : map (origin_row T L) (map added (add_numbers s (suc i) Z)) ≡ adds_at s Z → (t : Bool)
        → map (origin_row T L) (map added (cond t (i ∷ add_numbers s (suc i) Z) (add_numbers s (suc i) Z)))
        ≡ cond t (r ∷ []) [] ++ adds_at s Z
    go ih true = rw (row) (ap (λ (t : Table). r ∷ t) ih)
    go ih false = ih
adds_rows T L s i (at p (strike k) ∷ Z) sub = adds_rows T L s (suc i) Z (λ d k n. sub d k (deep n))
adds_rows T L s i (at p (change j e) ∷ Z) sub = adds_rows T L s (suc i) Z (λ d k n. sub d k (deep n))

zeros : (T : Table) → ◌≡◌ {A = List ℕ} (replicate (length T) 0) (map (λ r. 0) T)
zeros [] = refl
zeros (r ∷ T) = ap (λ (t : List ℕ). 0 ∷ t) (zeros T)

-- what is read is the rows of the origins, in order
pub read_origins : (T : Table) (L : Layer) → read T L ≡ map (origin_row T L) (origins (length T) L)
unfolding origins
read_origins T L =
    through_same (λ p. adds_at p L) (λ p. map (origin_row T L) (map added (add_numbers p 0 L))) _ _ 0 T
    (λ p. sym (adds_rows T L p 0 L (λ d k n. n)))
    (λ p r n. ap (λ (q : Row). unless (struck p L) (changed p L q)) (sym (at_get_or [] n))
    ∙ sym (map_unless (origin_row T L) (struck p L) (base p)))
    ∙ (sym (through_over (λ r. 0) (λ p. map (origin_row T L) (map added (add_numbers p 0 L)))
    (λ p x. map (origin_row T L) (unless (struck p L) (base p))) 0 T)
    ∙ (ap (through (λ p. map (origin_row T L) (map added (add_numbers p 0 L)))
    (λ p x. map (origin_row T L) (unless (struck p L) (base p))) 0)
    (sym (zeros T))
    ∙ sym (through_map (origin_row T L) (λ p. map added (add_numbers p 0 L)) (λ p x. unless (struck p L) (base p)) 0
    (replicate (length T) 0))))

-- what an origin is: a base row that is not struck, or an entry that adds
abbrev pub Stands : ℕ → Layer → Origin → Type 0
Stands n L (base s) = (s < n) × (struck s L ≡ false)
Stands n L (added i) = (p : ℕ) × (r : Row) × At (at p (add r)) i 0 L

stands_of : (n : ℕ) (L : Layer) (o : Origin) → Mem o (origins n L) → Stands n L o
stands_of n L (base s) m = base_shown n L s (origins_mem n L (base s) m)
stands_of n L (added i) m = let w = add_at_lem L i (origins_mem n L (added i) m) in (position (entry_no L i), w.0, w.1)

-- back from a row number: what stands there, and that the row is its row
pub record RowOrigin (T : Table) (L : Layer) (q : Row) (o : Origin) : Type 0 where
  pub stands : Stands (length T) L o
  pub row : q ≡ origin_row T L o

pub back_row : (T : Table) (L : Layer) (i : ℕ) (q : Row) → At q i 0 (read T L) → RowOrigin T L q (back (length T) L i)
back_row T L i q n =
    let w = at_map (origin_row T L) i (origins (length T) L) q (rw (read_origins T L) at n) in
    let o : w.0 ≡ back (length T) L i = sym (at_get_or (base (length T)) w.1) in
    rw (← o) (record { stands = stands_of (length T) L w.0 (at_mem w.1); row = w.2 })

-- the entry behind an added row adds it
pub added_at : (T : Table) (L : Layer) (q : Row) (i : ℕ) → RowOrigin T L q (added i) → (p : ℕ) × At (at p (add q)) i 0 L
added_at T L q i O =
    let w = O.stands in
    let r : q ≡ w.1 = O.row ∙ ap added_row (at_get_or (at 0 (add [])) w.2) in
    (w.0, rw (r) w.2)

-- and the row behind a base row is that with its changes
pub base_at : (T : Table) (L : Layer) (q : Row) (s : ℕ) → RowOrigin T L q (base s)
    → (b : Row) × At b s 0 T × (struck s L ≡ false) × (q ≡ changed s L b)
base_at T L q s O = (get_or T s [], get_or_at T s [] O.stands.0, O.stands.1, O.row)
