-- The reading rule: for s from 0 to n the added rows at s, then row s, if s < n and it isn't struck, with its changes.
use Rattle.std.specs.Prelude.{Bool, true, false, cond, ◌||◌, List, [], ◌∷◌, ◌++◌, ℕ, suc, eqb}
use Rattle.order.specs.Lists.{any}
use Rattle.model.specs.Row.{Row, Table, column}
use Rattle.model.specs.Layer.{Edit, at, add, strike, change, Layer, adds_at, struck, changed, changed_cell}

module _ {A : Type 0} where
  -- nothing where the row is struck, else what it shows
  abbrev pub unless : Bool → A → List A
  unless true x = []
  unless false x = x ∷ []

module _ {A B : Type 0} where
  -- for each s: what is added at s, then what row s shows; after the last row, what is added there
  abbrev pub through : (ℕ → List B) → (ℕ → A → List B) → ℕ → List A → List B
  through added shown s [] = added s
  through added shown s (x ∷ xs) = added s ++ (shown s x ++ through added shown (suc s) xs)

-- a table read through a layer
abbrev pub read_from : ℕ → Table → Layer → Table
read_from s T L = through (λ p. adds_at p L) (λ p r. unless (struck p L) (changed p L r)) s T

abbrev pub read : Table → Layer → Table
read T L = read_from 0 T L

-- column j read through a layer, from that base column alone
abbrev pub read_column_from : ℕ → ℕ → List ℕ → Layer → List ℕ
read_column_from j s xs L = through (λ p. column j (adds_at p L)) (λ p v. unless (struck p L) (changed_cell p j L v)) s xs

abbrev pub read_column : ℕ → List ℕ → Layer → List ℕ
read_column j xs L = read_column_from j 0 xs L

-- the key column after the layer
abbrev pub keys_after : List ℕ → Layer → List ℕ
keys_after K L = read_column 0 K L

-- the edit shows in column j: an add, a strike, a change of column j
abbrev pub touches : ℕ → Edit → Bool
touches j (at s (add r)) = true
touches j (at s (strike k)) = true
touches j (at s (change i e)) = eqb j i

-- what the viewer gets: the base column itself, the front of the work buffer, or an empty part of the base column
pub data Part : Type 0 where
  whole_base : Part
  buffer_front : ℕ → Part
  empty_base : Part

-- where reading is not refused, and shows so many rows
abbrev pub viewed : ℕ → Layer → ℕ → Part
viewed j L rows = cond (any (touches j) L) (buffer_front rows) whole_base
