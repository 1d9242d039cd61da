-- A layer as a list of edits, each at its position: an added row, a struck key, a changed cell.
use Rattle.std.specs.Prelude.{Bool, true, false, cond, ◌&&◌, ◌||◌, List, [], ◌∷◌, ℕ, ◌+◌, ◌-◌, eqb}
use Rattle.order.specs.Lists.{any, count, gather, in_turn}
use Rattle.model.specs.Row.{Row}
use Rattle.model.specs.Cell.{CellEdit, done, put}

-- add a row; strike the row of a key; change a column
pub data Deed : Type 0 where
  add : Row → Deed
  strike : ℕ → Deed
  change : ℕ → CellEdit → Deed

-- a deed at a position
pub data Edit : Type 0 where
  at : ℕ → Deed → Edit

abbrev pub Layer : Type 0
Layer = List Edit

abbrev pub position : Edit → ℕ
position (at s d) = s

-- tests on edits of one kind: an add by its position and row, a strike by its position and key, a change by its position and column
abbrev pub on_add : (ℕ → Row → Bool) → Edit → Bool
on_add f (at s (add r)) = f s r
on_add f (at s (strike k)) = false
on_add f (at s (change j e)) = false

abbrev pub on_strike : (ℕ → ℕ → Bool) → Edit → Bool
on_strike f (at s (add r)) = false
on_strike f (at s (strike k)) = f s k
on_strike f (at s (change j e)) = false

abbrev pub on_change : (ℕ → ℕ → Bool) → Edit → Bool
on_change f (at s (add r)) = false
on_change f (at s (strike k)) = false
on_change f (at s (change j e)) = f s j

abbrev pub is_add : Edit → Bool
is_add = on_add (λ s r. true)

abbrev pub is_strike : Edit → Bool
is_strike = on_strike (λ s k. true)

abbrev pub is_add_or_strike : Edit → Bool
is_add_or_strike e = is_add e || is_strike e

-- rows after the layer: n + adds - strikes
abbrev pub rows_after : ℕ → Layer → ℕ
rows_after n L = (n + count is_add L) - count is_strike L

-- the row that an edit adds at s, if it does
abbrev pub added_by : ℕ → Edit → List Row
added_by s (at p (add r)) = cond (eqb s p) (r ∷ []) []
added_by s (at p (strike k)) = []
added_by s (at p (change j e)) = []

-- the edit strikes base row s
abbrev pub strikes_row : ℕ → Edit → Bool
strikes_row s = on_strike (λ p k. eqb s p)

-- the edit changes base row s, and column j of base row s
abbrev pub changes_row : ℕ → Edit → Bool
changes_row s = on_change (λ p j. eqb s p)

abbrev pub changes_cell : ℕ → ℕ → Edit → Bool
changes_cell s j = on_change (λ p i. eqb s p && eqb j i)

-- base row s once the edit is done to it, and its column j
abbrev pub change_row : ℕ → Edit → Row → Row
change_row s (at p (add q)) r = r
change_row s (at p (strike k)) r = r
change_row s (at p (change j e)) r = cond (eqb s p) (put r j e) r

abbrev pub change_cell : ℕ → ℕ → Edit → ℕ → ℕ
change_cell s j (at p (add q)) v = v
change_cell s j (at p (strike k)) v = v
change_cell s j (at p (change i e)) v = cond (eqb s p && eqb j i) (done e v) v

-- the added rows at s, in order
abbrev pub adds_at : ℕ → Layer → List Row
adds_at s L = gather (added_by s) L

-- row s is struck
abbrev pub struck : ℕ → Layer → Bool
struck s L = any (strikes_row s) L

-- row s with its changes, and its column j
abbrev pub changed : ℕ → Layer → Row → Row
changed s L r = in_turn (change_row s) L r

abbrev pub changed_cell : ℕ → ℕ → Layer → ℕ → ℕ
changed_cell s j L v = in_turn (change_cell s j) L v
