-- The edits as new layers: an entry goes where its position, kind, key or column puts it.
use Rattle.words.specs.declared.Origin.{Origin}
use Rattle.words.specs.declared.Origin.TheVariants.{Base as base, Added as added}
use Rattle.std.specs.Prelude.{Bool, true, false, not, cond, ◌&&◌, ◌||◌, List, [], ◌∷◌, ℕ, zero, suc, length, get_or, ltb, eqb}
use Rattle.order.specs.Lists.{filter, insert, without}
use Rattle.model.specs.Row.{Row, Table, key, keys, with_key}
use Rattle.model.specs.Cell.{CellEdit, over, put}
use Rattle.model.specs.Layer.{Deed, add, strike, change, Edit, at, Layer, changes_row, changes_cell}
use Rattle.model.specs.Fit.{keys_below}
use Rattle.model.specs.Read.{read, keys_after}
use Rattle.model.specs.Position.{back}

-- at one position adds stand first, in key order; then a strike, or changes in column order
abbrev pub deed_before : Deed → Deed → Bool
deed_before (add q) (add r) = ltb (key q) (key r)
deed_before (add q) (strike k) = true
deed_before (add q) (change j e) = true
deed_before (strike k) d = false
deed_before (change i f) (add r) = false
deed_before (change i f) (strike k) = false
deed_before (change i f) (change j e) = ltb i j

abbrev pub before : Edit → Edit → Bool
before (at p d) (at s e) = ltb p s || (eqb p s && deed_before d e)

-- an edit entered at its place
abbrev pub enter : Edit → Layer → Layer
enter e L = insert before e L

-- add a row: an add entry at the number of base keys below its key, in key order among the adds there
unfoldable pub add_row : List ℕ → Row → Layer → Layer
add_row K r L = enter (at (keys_below (key r) K) (add r)) L

-- strike base row s: it loses its changes and gains a strike with its key
unfoldable pub strike_base : List ℕ → ℕ → Layer → Layer
strike_base K s L = enter (at s (strike (get_or K s 0))) (filter (λ e. not (changes_row s e)) L)

-- an edit of column j over what a deed does to that column; over all that a layer does to it in base row s
abbrev pub over_deed : ℕ → CellEdit → Deed → CellEdit
over_deed j e (add r) = e
over_deed j e (strike k) = e
over_deed j e (change i f) = cond (eqb j i) (over e f) e

abbrev pub composed : ℕ → ℕ → CellEdit → Layer → CellEdit
composed s j e [] = e
composed s j e (at p d ∷ L) = cond (eqb s p) (over_deed j (composed s j e L) d) (composed s j e L)

-- change column j of base row s: over its change of j, in that one's place, or entered in column order
unfoldable pub change_base : ℕ → ℕ → CellEdit → Layer → Layer
change_base s j e L = enter (at s (change j (composed s j e L))) (filter (λ d. not (changes_cell s j d)) L)

-- change column j of the added entry number i: its value is replaced
abbrev pub change_added_row : ℕ → CellEdit → Edit → Edit
change_added_row j e (at s (add r)) = at s (add (put r j e))
change_added_row j e (at s (strike k)) = at s (strike k)
change_added_row j e (at s (change i f)) = at s (change i f)

abbrev pub change_added : ℕ → ℕ → CellEdit → Layer → Layer
change_added i j e [] = []
change_added zero j e (d ∷ L) = change_added_row j e d ∷ L
change_added (suc i) j e (d ∷ L) = d ∷ change_added i j e L

-- strike row number r: an added row's entry disappears
abbrev pub strike_origin : List ℕ → Layer → Origin → Layer
strike_origin K L (base s) = strike_base K s L
strike_origin K L (added i) = without i L

unfoldable pub strike_row : List ℕ → ℕ → Layer → Layer
strike_row K r L = strike_origin K L (back (length K) L r)

-- change column j of row number r
abbrev pub change_origin : ℕ → CellEdit → Layer → Origin → Layer
change_origin j e L (base s) = change_base s j e L
change_origin j e L (added i) = change_added i j e L

unfoldable pub change_row_no : List ℕ → ℕ → ℕ → CellEdit → Layer → Layer
change_row_no K r j e L = change_origin j e L (back (length K) L r)

-- renumber row number r of the table read through the layer to g: where the row has that number, the layer as it is; else
-- the row is struck, and added with g as its key and its other values as they are shown
unfoldable pub renumber_row : Table → ℕ → ℕ → Layer → Layer
renumber_row T r g L =
    let row = get_or (read T L) r [] in
    cond (eqb (key row) g) L (add_row (keys T) (with_key g row) (strike_row (keys T) r L))

-- the row number of a shown key: the number of shown keys below it
abbrev pub row_of_key : List ℕ → Layer → ℕ → ℕ
row_of_key K L k = keys_below k (keys_after K L)
