-- An accepted edit in stores: they leave what the edit leaves; no number is stored twice, none in front of its place,
-- none behind the entries.
-- Assumes nothing.
use Prim.Native.Nat.{ℕ}
use mathlib.Core.Path.{◌≡◌, refl}
use mathlib.Core.List.{List}
use Rattle.std.specs.Prelude.{Ok}
use Rattle.model.specs.Row.{Table}
use Rattle.model.specs.Raw.{layer_of}
use Rattle.model.specs.Steps.{Step}
use Rattle.edit.specs.Runs.{step_answer, Lent, step_slice, Allows}
use Rattle.edit.specs.OneMove.{move_for}
use Rattle.edit.specs.Stores.{InStores}
use Rattle.edit.proofs.Laws.{accepted_outcome}
use Rattle.edit.proofs.Splices.{whole_move}
use Rattle.edit.proofs.Stores.{in_stores}

-- an accepted edit in stores
pub edit_stores : (c m : ℕ) (raw : List ℕ) (T : Table) (x : Step) (k : ℕ) → Lent c T x → step_answer c m raw T x ≡ Ok k
    → InStores c m raw (move_for T (layer_of c m raw) x) k (step_slice c m raw T x k)
edit_stores c m raw T x k l h =
    let w = whole_move c m raw T x k l h in
    in_stores c m raw (move_for T (layer_of c m raw) x) k (step_slice c m raw T x k) w.0 w.1 w.2

-- the same of what its contract allows
pub allowed_stores : (c m : ℕ) (raw : List ℕ) (T : Table) (x : Step) (k : ℕ) (new : List ℕ) → Lent c T x
    → Allows c m raw T x (Ok k) new → InStores c m raw (move_for T (layer_of c m raw) x) k new
allowed_stores c m raw T x k new l o =
    let w = accepted_outcome c m raw T x (Ok k) new o k refl in
    rw w.1 (edit_stores c m raw T x k l w.0)
