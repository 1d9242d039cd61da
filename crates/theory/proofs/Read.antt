-- What a reader sees through a layer: an added row, or a base row that is not struck, with its changes.
-- Assumes nothing.
use mathlib.Core.Path.{◌≡◌}
use mathlib.Core.Logic.{◌⊎◌, inl, inr}
use mathlib.Core.Bool.{false}
use mathlib.Core.List.{Memᴰ as Mem}
use Prim.Native.Nat.{ℕ, ◌+◌, ◌-◌, ◌≤◌}
use lib.ListN.{length}
use Rattle.order.proofs.Ascending.{At}
use Rattle.model.specs.Row.{Row, Table}
use Rattle.model.specs.Layer.{at, add, Layer, adds_at, struck, changed}
use Rattle.model.specs.Read.{unless, read_from}
use Rattle.theory.proofs.Layer.{adds_mem, mem_adds}
use Rattle.theory.proofs.Through.{unless_mem, mem_unless, Comes, through_mem, added_through, shown_through}

-- r is an added row, or row q at p is not struck and r is q with its changes
abbrev pub Shown : ℕ → Table → Layer → Row → Type 0
Shown s T L r =
    ((p : ℕ) × Mem (at p (add r)) L) ⊎ ((p : ℕ) × (q : Row) × At q p s T × (struck p L ≡ false) × (r ≡ changed p L q))

module _ (s : ℕ) (T : Table) (L : Layer) where
  abbrev adds : ℕ → Table
  adds p = adds_at p L

  abbrev rows : ℕ → Row → Table
  rows p q = unless (struck p L) (changed p L q)

  pub shown : (r : Row) → Mem r (read_from s T L) → Shown s T L r
  shown r m = go (through_mem adds rows r s T m)
    where
      go : Comes adds rows r s T → Shown s T L r
      go (inl (p, a, b, n)) = inl (p, adds_mem p L r n)
      go (inr (p, q, n, l)) = let w = unless_mem (struck p L) r (changed p L q) l in inr (p, q, n, w.0, w.1)

  pub shows_row : (p : ℕ) (q : Row) → At q p s T → struck p L ≡ false → Mem (changed p L q) (read_from s T L)
  shows_row p q n u = shown_through adds rows (changed p L q) s T p q n (mem_unless (struck p L) (changed p L q) u)

  pub shows_add : (p : ℕ) (r : Row) → Mem (at p (add r)) L → s ≤ p → p ≤ s + length T → Mem r (read_from s T L)
  shows_add p r m h l = added_through adds rows r s T p h l (mem_adds p L r m)
