-- A layer as it lies in a slice: c + 2 numbers an entry, position, kind, then c values; and the same as edits.
use Rattle.std.specs.Prelude.{cond, List, [], ◌∷◌, map, ℕ, zero, suc, ◌+◌, ◌-◌, ◌*◌, ◌≤◌, min, ◌/◌, length, get_or, take, drop, replicate, eqb}
use Rattle.order.specs.Lists.{gather}
use Rattle.words.specs.declared.Entry.{Entry}
use Rattle.words.specs.Entry.{ADD, STRIKE}
use Rattle.model.specs.Limits.{most_columns, most_entries}
use Rattle.model.specs.Cell.{to}
use Rattle.model.specs.Layer.{Deed, add, strike, change, Edit, at, Layer}

-- the entry whose first number stands at `from`
abbrev pub entry_at : ℕ → ℕ → List ℕ → Entry
entry_at c from xs = record { pos = get_or xs from 0; kind = get_or xs (from + 1) 0; vals = take c (drop (from + 2) xs) }

-- the k entries that stand one after the other from `from` on
unfoldable pub entries_at : ℕ → ℕ → ℕ → List ℕ → List Entry
entries_at c zero from xs = []
entries_at c (suc k) from xs = entry_at c from xs ∷ entries_at c k (from + (c + 2)) xs

-- stands for no entry, past the end of a list
abbrev pub none : Entry
none = record { pos = 0; kind = 0; vals = [] }

-- what is known of a layer's slice once its arguments pass: 1 to 8 columns, at most 512 entries, all of them within the slice
pub record Held (c m : ℕ) (xs : List ℕ) : Type 0 where
  pub some : 1 ≤ c
  pub columns : c ≤ most_columns
  pub entries : m ≤ most_entries
  pub room : m * (c + 2) ≤ length xs

-- the m entries of a layer
abbrev pub entries_of : ℕ → ℕ → List ℕ → List Entry
entries_of c m xs = entries_at c m 0 xs

-- a change's kind is its column
abbrev pub column_of : ℕ → ℕ
column_of k = k

-- kinds: 65,535 add (values: the row); 65,534 strike (the struck key); else change of that column (the new value)
abbrev pub deed_of : ℕ → List ℕ → Deed
deed_of k vs =
    cond (eqb k ADD) (add vs) (cond (eqb k STRIKE) (strike (get_or vs 0 0)) (change (column_of k) (to (get_or vs 0 0))))

abbrev pub edit_of : Entry → Edit
edit_of e = at e.pos (deed_of e.kind e.vals)

-- the layer that the first m entries of a slice are
unfoldable pub layer_of : ℕ → ℕ → List ℕ → Layer
layer_of c m xs = map edit_of (entries_of c m xs)

-- the c + 2 numbers of an edit: a strike and a change have zeros behind their one value
abbrev pub numbers_of : ℕ → Edit → List ℕ
numbers_of c (at s (add r)) = s ∷ ADD ∷ r
numbers_of c (at s (strike k)) = s ∷ STRIKE ∷ k ∷ replicate (c - 1) 0
numbers_of c (at s (change j (to v))) = s ∷ j ∷ v ∷ replicate (c - 1) 0

-- the numbers of a layer, entry after entry
unfoldable pub flat : ℕ → Layer → List ℕ
flat c L = gather (numbers_of c) L

-- the room of a slice: the smaller of 512 and the whole entries that it can hold
unfoldable pub room : ℕ → ℕ → ℕ
room c len = min most_entries (len / (c + 2))
