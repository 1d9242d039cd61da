-- A table with room for 512 base rows in three columns, the rows that stand in it, and what a base row does to it and says.
use Rattle.words.specs.declared.Cause.TheVariants.{KeysUnordered}
use Rattle.std.specs.Prelude.{◌≡◌, Option, Some, None, Bool, true, false, not, cond, ◌||◌, List, [], ◌∷◌, ℕ, ◌+◌, ◌-◌, ◌*◌, ◌≤◌, length, get_or, take, drop, set, leb, eqb}
use Rattle.model.specs.Row.{Table}
use Rattle.text.specs.declared.Said.{Said}
use Rattle.text.specs.declared.Said.TheVariants.{Unread, Refused}
use Rattle.base.specs.declared.Counts.{Counts}
use Rattle.base.specs.declared.Reply.{Reply}

-- the base rows that the program holds at most
abbrev pub most_base : ℕ
most_base = 512

-- the lent numbers: three columns, of which the counts say how many rows stand, and the layer's slice
pub record Sheet : Type 0 where
  pub keys : List ℕ
  pub sources : List ℕ
  pub masks : List ℕ
  pub layer : List ℕ

-- column j of a table whose columns stand end to end, with room for 512 rows each
abbrev pub column_of : ℕ → List ℕ → List ℕ
column_of j table = take most_base (drop (most_base * j) table)

abbrev pub sheet_of : List ℕ → List ℕ → Sheet
sheet_of table layer =
    record { keys = column_of 0 table; sources = column_of 1 table; masks = column_of 2 table; layer = layer }

-- the base key column
abbrev pub base_keys : Counts → Sheet → List ℕ
base_keys d x = take d.rows x.keys

-- three columns as rows
unfoldable pub rows_of : List ℕ → List ℕ → List ℕ → Table
rows_of [] S M = []
rows_of (g ∷ K) [] M = []
rows_of (g ∷ K) (s ∷ S) [] = []
rows_of (g ∷ K) (s ∷ S) (m ∷ M) = (g ∷ s ∷ m ∷ []) ∷ rows_of K S M

-- the first n rows of a table whose columns stand end to end
abbrev pub table_of : ℕ → List ℕ → Table
table_of n table = rows_of (take n (column_of 0 table)) (take n (column_of 1 table)) (take n (column_of 2 table))

-- the base table that stands
abbrev pub base_table : Counts → Sheet → Table
base_table d x = rows_of (take d.rows x.keys) (take d.rows x.sources) (take d.rows x.masks)

-- g is not above the last of the first n keys
abbrev pub below_last : ℕ → ℕ → List ℕ → Bool
below_last g n keys = cond (eqb n 0) false (leb g (get_or keys (n - 1) 0))

-- no base row is taken any more: an edit line was read, or 512 rows stand
abbrev pub shut : Counts → Bool
shut d = d.edited || leb most_base d.rows

-- one line more was read, and nothing else changed
abbrev pub stay : Counts → Said → Reply
stay d said = record {
  counts = record { rows = d.rows; entries = d.entries; edited = d.edited; lines = d.lines + 1 };
  said = Some said;
}

-- a base row more
abbrev pub grown : Counts → Reply
grown d = record {
  counts = record { rows = d.rows + 1; entries = d.entries; edited = d.edited; lines = d.lines + 1 };
  said = None;
}

-- the reply to a base row with key g, and whether the row is taken
abbrev pub base_reply : ℕ → Counts → List ℕ → Reply
base_reply g d keys = cond (shut d) (stay d Unread) (cond (below_last g d.rows keys) (stay d (Refused KeysUnordered)) (grown d))

abbrev pub base_taken : ℕ → Counts → List ℕ → Bool
base_taken g d keys = not (shut d || below_last g d.rows keys)

-- a column with v at row n, where the row is taken
abbrev pub column : Bool → ℕ → ℕ → List ℕ → List ℕ
column true n v xs = set xs n v
column false n v xs = xs

-- the sheet with a base row, where it is taken
abbrev pub with_row : Bool → ℕ → Sheet → ℕ → ℕ → ℕ → Sheet
with_row taken n x g s m = record {
  keys = column taken n g x.keys;
  sources = column taken n s x.sources;
  masks = column taken n m x.masks;
  layer = x.layer;
}

-- the rows that stand are within the room of 512, and the columns hold the room
pub record Roomy (d : Counts) (x : Sheet) : Type 0 where
  pub standing : d.rows ≤ most_base
  pub in_keys : length x.keys ≡ most_base
  pub in_sources : length x.sources ≡ most_base
  pub in_masks : length x.masks ≡ most_base

-- what is owed for a base row: the reply, and the lent numbers afterwards
pub record Based (g s m : ℕ) (d : Counts) (x : Sheet) (r : Reply) (x' : Sheet) : Type 0 where
  pub reply : r ≡ base_reply g d x.keys
  pub sheet : x' ≡ with_row (base_taken g d x.keys) d.rows x g s m
