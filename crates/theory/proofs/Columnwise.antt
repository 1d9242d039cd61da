-- A table that lies in one slice by columns: its rows, how wide they are, its columns and its keys.
-- Assumes nothing.
use mathlib.Core.Path.{◌≡◌, sym, ap, ◌∙◌}
use mathlib.Core.List.{List, []}
use Prim.Native.Nat.{ℕ, ◌+◌, ◌*◌, ◌≤◌, ◌<◌}
use native.Mathlib.Omega.{arith}
use native.Mathlib.Nat.{zero-add, zero-mul}
use lib.ListN.{length, get_or, take, drop, length-map, length-drop, get_or-map}
use lib.Seq.{length-take-le, get_or-take, get_or-drop, ext_get_or}
use Rattle.order.proofs.UpFrom.{up_length, up_get_or, up_mem}
use Rattle.model.specs.Row.{cell, key, column, keys, row_at, columnwise}
use Rattle.theory.proofs.Column.{Wide}

-- a row has c values, and its value j lies w numbers behind value j - 1
pub row_length : (c w s : ℕ) (xs : List ℕ) → length (row_at c w xs s) ≡ c
row_length c w s xs = up_length (λ j. get_or xs (j * w + s) 0) 0 c

pub row_cell : (c w s j : ℕ) (xs : List ℕ) → j < c → cell j (row_at c w xs s) ≡ get_or xs (j * w + s) 0
row_cell c w s j xs h = up_get_or (λ i. get_or xs (i * w + s) 0) 0 c j 0 h ∙ ap (λ (i : ℕ). get_or xs (i * w + s) 0) (zero-add j)

module _ (c n w : ℕ) (xs : List ℕ) where
  -- n rows
  pub columnwise_length : length (columnwise c n w xs) ≡ n
  unfolding columnwise
  columnwise_length = up_length (row_at c w xs) 0 n

  -- row s
  pub columnwise_row : (s : ℕ) → s < n → get_or (columnwise c n w xs) s [] ≡ row_at c w xs s
  unfolding columnwise
  columnwise_row s h = up_get_or (row_at c w xs) 0 n s [] h ∙ ap (row_at c w xs) (zero-add s)

  -- every row has c values
  pub columnwise_wide : Wide c (columnwise c n w xs)
  unfolding columnwise
  columnwise_wide r m =
      let u = up_mem (row_at c w xs) 0 n r m in
      ap length u.1 ∙ row_length c w u.0 xs

  -- column j is the n numbers from j * w on
  pub columnwise_column : (j : ℕ) → j < c → j * w + n ≤ length xs
      → column j (columnwise c n w xs) ≡ take n (drop (j * w) xs)
  columnwise_column j h l = ext_get_or 0 (column j (columnwise c n w xs)) (take n (drop (j * w) xs)) (long ∙ sym short) each
    where
      long : length (column j (columnwise c n w xs)) ≡ n
      long = length-map (columnwise c n w xs) (cell j) ∙ columnwise_length

      short : length (take n (drop (j * w) xs)) ≡ n
      short = length-take-le n (drop (j * w) xs) (omega (arith, length-drop (j * w) xs))

      each : (i : ℕ) → i < length (column j (columnwise c n w xs))
          → get_or (column j (columnwise c n w xs)) i 0 ≡ get_or (take n (drop (j * w) xs)) i 0
      each i g =
          let k : i < n = omega (arith, long) in
          get_or-map (cell j) (columnwise c n w xs) i []
          ∙ (ap (cell j) (columnwise_row i k)
          ∙ (row_cell c w i j xs h
          ∙ sym (get_or-take n (drop (j * w) xs) i 0 k ∙ get_or-drop (j * w) xs i 0)))

  -- the keys are the first n numbers
  pub columnwise_keys : 1 ≤ c → n ≤ length xs → keys (columnwise c n w xs) ≡ take n xs
  unfolding key
  columnwise_keys h l = columnwise_column 0 h (omega arith) ∙ ap (λ (k : ℕ). take n (drop k xs)) (zero-mul w)
