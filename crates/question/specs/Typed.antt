-- What an operator typed against the rows of a screen, and what is promised of it once both sets are done.
use Rattle.std.specs.Prelude.{◌≡◌, cond, ℕ, get_or, eqb}
use mathlib.Core.List.{List, [], ◌∷◌, Memᴰ as Mem}
use Rattle.model.specs.Row.{Row, Table, cell, key, keys, with_key}
use Rattle.model.specs.Cell.{to}
use Rattle.model.specs.Layer.{at, add, Layer}
use Rattle.model.specs.Read.{read}
use Rattle.model.specs.Meaning.{row, missing, lookup, meaning, given}
use Rattle.model.specs.Steps.{Step, adding, striking, changing, renumbering, key_at}

-- the groups that a step concerns: the added row's own; that of the row which was seen at the number typed; of a row that
-- gets another number both, and none where it has that number already
abbrev pub groups_of : Step → Table → List ℕ
groups_of (adding r) M = key r ∷ []
groups_of (striking i) M = key_at i M ∷ []
groups_of (changing i j e) M = key_at i M ∷ []
groups_of (renumbering i g) M = cond (eqb (key_at i M) g) [] (key_at i M ∷ g ∷ [])

-- a group that I struck: it shows no row, or the one that theirs, Y, add for it
pub data Gone (g : ℕ) (Y : Layer) (U : Table) : Type 0 where
  nothing : lookup g U ≡ missing → Gone g Y U
  theirs : (s : ℕ) (r : Row) → Mem (at s (add r)) Y → lookup g U ≡ row r → Gone g Y U

-- what the step's groups show in the table U, where it was typed against the rows M and theirs is Y
abbrev pub Shows : Layer → Table → Table → Step → Type 0
Shows Y M U (adding r) = lookup (key r) U ≡ row r
Shows Y M U (striking i) = Gone (key_at i M) Y U
Shows Y M U (changing i j (to v)) = (r : Row) × (lookup (key_at i M) U ≡ row r) × (cell j r ≡ v)
Shows Y M U (renumbering i g) =
    (key_at i M ≡ g → ⊥) → (lookup g U ≡ row (with_key g (get_or M i []))) × Gone (key_at i M) Y U

-- the step reached its own groups in U, and no other: every other group's row is what my other edits, L, make of theirs
pub record Reached (T : Table) (L Y : Layer) (x : Step) (U : Table) : Type 0 where
  pub own : Shows Y (read T L) U x
  pub others : (h : ℕ) → (Mem h (groups_of x (read T L)) → ⊥) → lookup h U ≡ given (meaning (keys T) L h) (lookup h (read T Y))
