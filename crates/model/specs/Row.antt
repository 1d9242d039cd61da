-- A table is its rows; a row is its c numbers; column 0 is the key, strictly ascending down the table.
use Rattle.std.specs.Prelude.{List, map, ℕ, ◌+◌, ◌*◌, get_or, set}
use Rattle.order.specs.Lists.{up_from}

abbrev pub Row : Type 0
Row = List ℕ

abbrev pub Table : Type 0
Table = List Row

-- column j of a row
abbrev pub cell : ℕ → Row → ℕ
cell j r = get_or r j 0

-- the key of a row, its group number
unfoldable pub key : Row → ℕ
key r = cell 0 r

-- a row with the key g, its other values as they are
abbrev pub with_key : ℕ → Row → Row
with_key g r = set r 0 g

-- one column of a table, and its key column
abbrev pub column : ℕ → Table → List ℕ
column j T = map (cell j) T

abbrev pub keys : Table → List ℕ
keys T = map key T

-- A table as it lies in one slice, by columns that start w numbers apart: row s, and the first n rows.
abbrev pub row_at : ℕ → ℕ → List ℕ → ℕ → Row
row_at c w xs s = up_from (λ j. get_or xs (j * w + s) 0) 0 c

unfoldable pub columnwise : ℕ → ℕ → ℕ → List ℕ → Table
columnwise c n w xs = up_from (row_at c w xs) 0 n
