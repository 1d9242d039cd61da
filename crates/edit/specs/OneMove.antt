-- Which move of a layer's slice an edit is; what an accepted one leaves; and when that is one value alone.
use Rattle.words.specs.declared.Origin.{Origin}
use Rattle.words.specs.declared.Origin.TheVariants.{Base as base, Added as added}
use Rattle.std.specs.Prelude.{◌≡◌, Bool, true, List, ℕ, ◌+◌, ◌*◌, ◌≤◌, ◌<◌, length, set}
use Rattle.order.specs.Lists.{any}
use Rattle.model.specs.Row.{Table, keys}
use Rattle.model.specs.Cell.{to}
use Rattle.model.specs.Layer.{Layer, changes_cell}
use Rattle.model.specs.Position.{back}
use Rattle.model.specs.Steps.{Step, adding, striking, changing, renumbering}
use Rattle.enter.specs.declared.Move.{Move}
use Rattle.enter.specs.declared.Move.TheVariants.{Entries as entries}
use Rattle.enter.specs.Move.{number_at, Within, entered, count_after}
use Rattle.plan.specs.Moves.{add_splice, strike_splice, change_move, renumber_move}

-- the move that an edit of a layer over this table is
abbrev pub move_for : Table → Layer → Step → Move
move_for T L (adding row) = entries (add_splice (keys T) L row)
move_for T L (striking r) = entries (strike_splice (keys T) L (back (length (keys T)) L r))
move_for T L (changing r j (to v)) = change_move L j v (back (length (keys T)) L r)
move_for T L (renumbering r g) = renumber_move T L r g

-- a move within the layer's m entries and its slice's room, after which there are k, and the slice is `new`
pub record OneMove (c m : ℕ) (raw : List ℕ) (p : Move) (k : ℕ) (new : List ℕ) : Type 0 where
  pub within : Within c m p
  pub room : count_after m p * (c + 2) ≤ length raw
  pub count : k ≡ count_after m p
  pub slice : new ≡ entered c m p raw

-- the layer holds a value of column j of what stands there: an added row has one, a base row if a change of it is there
abbrev pub holds_cell : ℕ → Layer → Origin → Bool
holds_cell j L (base s) = any (changes_cell s j) L
holds_cell j L (added i) = true

-- an edit that stores v as value j of entry i, and no other number: there are as many entries as before
pub record OneNumber (c m : ℕ) (raw : List ℕ) (v k : ℕ) (new : List ℕ) : Type 0 where
  pub i : ℕ
  pub j : ℕ
  pub entry : i < m
  pub column : j < c
  pub count : k ≡ m
  pub slice : new ≡ set raw (number_at c i j) v
