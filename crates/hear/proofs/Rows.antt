-- The base table that a renumbering is lent: the program's columns, 512 numbers apart, are the base rows that stand.
-- Assumes nothing.
use mathlib.Core.Path.{◌≡◌, refl, sym, ap, ◌∙◌}
use mathlib.Core.Bool.{true, ◌&&◌}
use mathlib.Core.List.Memᴰ.{head as here}
use mathlib.Core.List.Memᴰ.{tail as next}
use mathlib.Core.List.{List, [], ◌∷◌}
use Prim.Native.Nat.{ℕ, ◌*◌, ◌≤◌, ◌<◌}
use native.Mathlib.Omega.{arith}
use lib.ListN.{length, take, drop}
use lib.Seq.{take-take}
use lib.Dec.{leb}
use borrow.Author.Tests.{le-leb}
use Rattle.model.specs.Row.{Row, Table, column, columnwise}
use Rattle.theory.proofs.Column.{Wide}
use Rattle.theory.proofs.Columnwise.{columnwise_wide, columnwise_column}
use Rattle.base.specs.Base.{most_base, column_of, rows_of, table_of}

-- a row of three values is its three cells
three_cells : (r : Row) (T : Table) → length r ≡ 3 → rows_of (column 0 T) (column 1 T) (column 2 T) ≡ T →
    rows_of (column 0 (r ∷ T)) (column 1 (r ∷ T)) (column 2 (r ∷ T)) ≡ r ∷ T
unfolding rows_of
three_cells [] T e ih = absurd (omega arith)
three_cells (a ∷ []) T e ih = absurd (omega arith)
three_cells (a ∷ b ∷ []) T e ih = absurd (omega arith)
three_cells (a ∷ b ∷ c ∷ []) T e ih = ap (λ (U : Table). (a ∷ b ∷ c ∷ []) ∷ U) ih
three_cells (a ∷ b ∷ c ∷ d ∷ r) T e ih = absurd (omega arith)

-- a table of three columns is their rows
pub rows_of_columns : (T : Table) → Wide 3 T → rows_of (column 0 T) (column 1 T) (column 2 T) ≡ T
unfolding rows_of
rows_of_columns [] w = refl
rows_of_columns (r ∷ T) w = three_cells r T (w r (here refl)) (rows_of_columns T (λ q m. w q (next m)))

module _ (n : ℕ) (table : List ℕ) (few : n ≤ most_base) (size : length table ≡ 1536) where
  column_is : (j : ℕ) → j < 3 → column j (columnwise 3 n most_base table) ≡ take n (column_of j table)
  column_is j h =
      let e : j * most_base ≡ most_base * j = omega arith in
      columnwise_column 3 n most_base table j h (omega arith)
      ∙ (ap (λ (o : ℕ). take n (drop o table)) e ∙ sym (take-take n most_base (drop (most_base * j) table) few))

  -- the table that lies in the program's numbers is the first n of its rows
  pub lent_rows : columnwise 3 n most_base table ≡ table_of n table
  lent_rows =
      sym (rows_of_columns (columnwise 3 n most_base table) (columnwise_wide 3 n most_base table))
      ∙ rw (column_is 0 (omega arith), column_is 1 (omega arith), column_is 2 (omega arith))

  -- and it is lent whole
  pub lent_whole : leb n most_base && leb (3 * most_base) (length table) ≡ true
  lent_whole = rw (le-leb n most_base few, le-leb (3 * most_base) (length table) (omega arith))
