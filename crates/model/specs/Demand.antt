-- Demand 3's three cases of conflict, as the demand words them, over sets of edits.
use Rattle.std.specs.Prelude.{◌≡◌, Bool, true, false, ◌||◌, ℕ, eqb}
use mathlib.Core.List.{Memᴰ as Mem}
use Rattle.order.specs.Lists.{any}
use Rattle.model.specs.Row.{key}
use Rattle.model.specs.Cell.{CellEdit, agree}
use Rattle.model.specs.Layer.{Edit, at, change, Layer, on_add, struck, changes_row}

-- the set changes base row s
abbrev pub row_changed : ℕ → Layer → Bool
row_changed s L = any (changes_row s) L

-- the set adds key k
abbrev pub adds_key : ℕ → Edit → Bool
adds_key k = on_add (λ s r. eqb k (key r))

abbrev pub key_added : ℕ → Layer → Bool
key_added k L = any (adds_key k) L

pub data Conflicting (X Y : Layer) : Type 0 where
  -- one strikes a base row that the other strikes or changes
  mine_strikes : (s : ℕ) → struck s X ≡ true → struck s Y || row_changed s Y ≡ true → Conflicting X Y
  theirs_strikes : (s : ℕ) → struck s Y ≡ true → struck s X || row_changed s X ≡ true → Conflicting X Y
  -- both change one cell of a base row to different values
  both_change : (s j : ℕ) (e f : CellEdit) → Mem (at s (change j e)) X → Mem (at s (change j f)) Y → agree e f ≡ false
      → Conflicting X Y
  -- both add one key
  both_add : (k : ℕ) → key_added k X ≡ true → key_added k Y ≡ true → Conflicting X Y
