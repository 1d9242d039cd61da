-- Where an edit lands in a layer in order: how many edits stand before it; and two tests of what stands there.
use Rattle.std.specs.Prelude.{Bool, false, not, ◌&&◌, List, [], ◌∷◌, ℕ, length, get_or, ltb, eqb}
use Rattle.order.specs.Lists.{first_at}
use Rattle.model.specs.Layer.{Edit, Layer, changes_cell}
use Rattle.model.specs.Edits.{before}
use Rattle.head.specs.Head.{seen}

-- what the order looks at of an edit: its position, its kind, and the key of an added row
abbrev pub aim : ℕ → ℕ → ℕ → Edit
aim s kind v = seen (record { pos = s; kind = kind; first = v })

-- how many edits stand before e
unfoldable pub landing : Edit → Layer → ℕ
landing e L = first_at (λ d. not (before d e)) L

-- the first edit is there and changes column j of base row s
abbrev pub changes_first : ℕ → ℕ → Layer → Bool
changes_first s j [] = false
changes_first s j (e ∷ L) = changes_cell s j e

-- key number p is there and is k
abbrev pub key_is : ℕ → ℕ → List ℕ → Bool
key_is p k K = ltb p (length K) && eqb (get_or K p 0) k
