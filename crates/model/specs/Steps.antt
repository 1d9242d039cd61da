-- A run of edits by an operator, each by row number: what it leaves in a layer, and what it makes of a table done by key.
use Rattle.std.specs.Prelude.{◌≡◌, ℕ, ◌≤◌, ◌<◌, length, get_or}
use mathlib.Core.List.{List, [], ◌∷◌, Memᴰ as Mem}
use Rattle.order.specs.Lists.{without}
use Rattle.model.specs.Row.{Row, Table, key, keys, with_key}
use Rattle.model.specs.Cell.{CellEdit}
use Rattle.model.specs.Layer.{Layer}
use Rattle.model.specs.Edits.{add_row, strike_row, change_row_no, renumber_row}
use Rattle.model.specs.Redo.{strike_key, change_key, add_key}

-- add a row; strike row number i; change column j of row number i; give row number i the number g
pub data Step : Type 0 where
  adding : Row → Step
  striking : ℕ → Step
  changing : ℕ → ℕ → CellEdit → Step
  renumbering : ℕ → ℕ → Step

-- the layer over the table T after a step
abbrev pub step_on : Table → Step → Layer → Layer
step_on T (adding r) L = add_row (keys T) r L
step_on T (striking i) L = strike_row (keys T) i L
step_on T (changing i j e) L = change_row_no (keys T) i j e L
step_on T (renumbering i g) L = renumber_row T i g L

-- the table after a step, done by the key of the row that the operator saw
abbrev pub key_at : ℕ → Table → ℕ
key_at i M = key (get_or M i [])

abbrev pub step_by : Step → Table → Table
step_by (adding r) M = add_key r M
step_by (striking i) M = strike_key (key_at i M) M
step_by (changing i j e) M = change_key (key_at i M) j e M
step_by (renumbering i g) M = add_key (with_key g (get_or M i [])) (strike_key (key_at i M) M)

-- the step is not refused on the table of c columns that is shown
abbrev pub Allowed : ℕ → Step → Table → Type 0
Allowed c (adding r) M = (length r ≡ c) × ((q : Row) → Mem q M → key q ≡ key r → ⊥)
Allowed c (striking i) M = i < length M
Allowed c (changing i j e) M = (i < length M) × (1 ≤ j) × (j < c)
Allowed c (renumbering i g) M =
    (i < length M) × (1 ≤ c) × (length (get_or M i []) ≡ c) × ((q : Row) → Mem q (without i M) → key q ≡ g → ⊥)

abbrev pub AllAllowed : ℕ → List Step → Table → Type 0
AllAllowed c [] M = Unit {0}
AllAllowed c (x ∷ xs) M = Allowed c x M × AllAllowed c xs (step_by x M)
