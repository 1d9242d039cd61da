-- What a change does to one cell, and which two changes of one cell do not conflict.
use Rattle.std.specs.Prelude.{Bool, ℕ, set, eqb}
use Rattle.model.specs.Row.{Row, cell}

-- an edit of a cell: it becomes v
pub data CellEdit : Type 0 where
  to : ℕ → CellEdit

-- the cell after the edit
abbrev pub done : CellEdit → ℕ → ℕ
done (to v) old = v

-- the later edit done after the earlier, as one edit
abbrev pub over : CellEdit → CellEdit → CellEdit
over (to v) f = to v

-- two edits of one cell that pass each other: those to one value
abbrev pub agree : CellEdit → CellEdit → Bool
agree (to v) (to w) = eqb v w

-- a row with the edit done to its column j
unfoldable pub put : Row → ℕ → CellEdit → Row
put r j e = set r j (done e (cell j r))
