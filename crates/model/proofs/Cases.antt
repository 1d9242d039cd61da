-- Cases that E1 to E12 leave out, one definition each: antt computes what it gives.
-- Assumes nothing.
use mathlib.Core.Path.{◌≡◌, refl}
use mathlib.Core.Bool.{true, false}
use mathlib.Core.List.{List, [], ◌∷◌}
use Prim.Native.Nat.{ℕ}
use Rattle.model.specs.Row.{Table, key, with_key, columnwise}
use Rattle.model.specs.Cell.{to, put}
use Rattle.model.specs.Layer.{Layer, at, add, strike, change}
use Rattle.model.specs.Fit.{fit_place, fits}
use Rattle.model.specs.Read.{read_column}
use Rattle.model.specs.Position.{origins}
use Rattle.model.specs.Edits.{before, add_row, strike_base, change_base, strike_row, change_row_no, renumber_row}
use Rattle.model.specs.Redo.{combine}
use Rattle.model.specs.Steps.{renumbering, step_by}
use Rattle.std.specs.Prelude.{Some, None}
use Rattle.words.specs.declared.Rule.TheVariants.{SameCell as same_cell}
use Rattle.model.specs.Conflict.{clash}
use Rattle.model.specs.Meaning.{meaning, row, given}

-- three base groups
abbrev K : List ℕ
K = 10 ∷ 20 ∷ 30 ∷ []

-- base row 1 with both of its cells changed
abbrev twice : Layer
twice = at 1 (change 1 (to 5)) ∷ at 1 (change 2 (to 6)) ∷ []

-- a strike takes all changes of its row with it
pub changes_struck : strike_base K 1 twice ≡ at 1 (strike 20) ∷ []
unfolding strike_base
changes_struck = refl

-- a change takes the place of the one of its own cell, and the later one stands
pub cell_replaced : change_base 1 1 (to 7) twice ≡ at 1 (change 1 (to 7)) ∷ at 1 (change 2 (to 6)) ∷ []
unfolding change_base
cell_replaced = refl

-- a column shows its own changes
pub own_column : read_column 1 (1 ∷ 2 ∷ 3 ∷ []) twice ≡ 1 ∷ 5 ∷ 3 ∷ []
own_column = refl

-- a group is added beside its row only where that row is struck, and then in front of the strike
pub beside_its_row : fits K (at 1 (add (20 ∷ 0 ∷ 0 ∷ [])) ∷ []) ≡ false
unfolding fits fit_place key
beside_its_row = refl

pub before_its_strike : before (at 1 (add (20 ∷ 0 ∷ 0 ∷ []))) (at 1 (strike 20)) ≡ true
before_its_strike = refl

-- a change concerns the group at its position; a group struck and added again shows the added row
pub group_of_change : meaning K twice 20 ≡ change 1 (to 5) ∷ change 2 (to 6) ∷ []
unfolding meaning
group_of_change = refl

pub struck_and_added : given (add (20 ∷ 0 ∷ 0 ∷ []) ∷ strike 20 ∷ []) (row (20 ∷ 1 ∷ 1 ∷ [])) ≡ row (20 ∷ 0 ∷ 0 ∷ [])
unfolding given
struck_and_added = refl

-- the upper layer's row 1 is what the lower shows there
pub upper_row : combine K (at 0 (add (5 ∷ 0 ∷ 0 ∷ [])) ∷ []) (at 1 (change 1 (to 5)) ∷ [])
    ≡ at 0 (add (5 ∷ 0 ∷ 0 ∷ [])) ∷ at 0 (change 1 (to 5)) ∷ []
unfolding combine change_row_no change_base origins key
upper_row = refl

-- one cell: to one value nothing is met, to two values rule 2 is, and two columns of a row are two cells
pub one_value : clash (at 1 (change 1 (to 5))) (at 1 (change 1 (to 5))) ≡ None
one_value = refl

pub two_values : clash (at 1 (change 1 (to 5))) (at 1 (change 1 (to 6))) ≡ Some same_cell
two_values = refl

pub two_columns : clash (at 1 (change 1 (to 5))) (at 1 (change 2 (to 6))) ≡ None
two_columns = refl

-- a table in one slice by columns, end to end and two numbers further apart than its rows are
pub by_columns : columnwise 3 2 2 (10 ∷ 20 ∷ 1 ∷ 2 ∷ 3 ∷ 4 ∷ []) ≡ (10 ∷ 1 ∷ 3 ∷ []) ∷ (20 ∷ 2 ∷ 4 ∷ []) ∷ []
unfolding columnwise
by_columns = refl

pub columns_apart : columnwise 2 2 4 (10 ∷ 20 ∷ 0 ∷ 0 ∷ 1 ∷ 2 ∷ 0 ∷ 0 ∷ []) ≡ (10 ∷ 1 ∷ []) ∷ (20 ∷ 2 ∷ []) ∷ []
unfolding columnwise
columns_apart = refl

-- another number leaves the other values
pub another_number : with_key 25 (20 ∷ 1 ∷ 2 ∷ []) ≡ 25 ∷ 1 ∷ 2 ∷ []
another_number = refl

-- the three groups with their two other columns
abbrev T : Table
T = (10 ∷ 1 ∷ 2 ∷ []) ∷ (20 ∷ 3 ∷ 4 ∷ []) ∷ (30 ∷ 5 ∷ 6 ∷ []) ∷ []

-- a renumbered base row is struck, its changes go, and it is added as it was shown
pub shown_row_moved : renumber_row T 1 35 (at 1 (change 2 (to 9)) ∷ []) ≡ at 1 (strike 20) ∷ at 3 (add (35 ∷ 3 ∷ 9 ∷ [])) ∷ []
unfolding renumber_row add_row strike_row strike_base origins key put
shown_row_moved = refl

-- its own number leaves the layer as it is
pub number_kept : renumber_row T 1 20 twice ≡ twice
unfolding renumber_row add_row strike_row strike_base origins key put
number_kept = refl

-- an added row's entry moves
pub entry_moved : renumber_row T 1 25 (at 1 (add (15 ∷ 7 ∷ 8 ∷ [])) ∷ []) ≡ at 2 (add (25 ∷ 7 ∷ 8 ∷ [])) ∷ []
unfolding renumber_row add_row strike_row strike_base origins key put
entry_moved = refl

-- by key: the row that is seen, with another number in its place
pub moved_by_key : step_by (renumbering 2 5) T ≡ (5 ∷ 5 ∷ 6 ∷ []) ∷ (10 ∷ 1 ∷ 2 ∷ []) ∷ (20 ∷ 3 ∷ 4 ∷ []) ∷ []
unfolding key
moved_by_key = refl
