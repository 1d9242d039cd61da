-- An entry by its head: position, kind and first value, which order and conflict go by.
use Rattle.std.specs.Prelude.{[], ◌∷◌, ℕ, get_or}
use Rattle.words.specs.declared.Entry.{Entry}
use Rattle.model.specs.Cell.{CellEdit, to}
use Rattle.model.specs.Layer.{Edit, at}
use Rattle.model.specs.Raw.{deed_of}
use Rattle.head.specs.declared.Head.{Head}

-- the head of an entry at a position, of a kind, with a first value
abbrev pub headed : ℕ → ℕ → ℕ → Head
headed pos kind first = record { pos = pos; kind = kind; first = first }

abbrev pub head_of : Entry → Head
head_of e = record { pos = e.pos; kind = e.kind; first = get_or e.vals 0 0 }

-- the edit, as far as its head tells
abbrev pub seen : Head → Edit
seen h = at h.pos (deed_of h.kind (h.first ∷ []))

-- what it does to a cell, where it is a change
abbrev pub cell_of : Head → CellEdit
cell_of h = to h.first
