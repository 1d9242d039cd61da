-- One step of an operator as a call, and a run of calls that are all accepted.
use Rattle.words.specs.Answer.{Answer}
use Rattle.std.specs.Prelude.{◌≡◌, true, List, [], ◌∷◌, ℕ, Ok}
use Rattle.model.specs.Row.{Table, keys}
use Rattle.model.specs.Cell.{to}
use Rattle.model.specs.Raw.{layer_of}
use Rattle.model.specs.Steps.{Step, adding, striking, changing, renumbering, step_on}
use Rattle.model.specs.Calls.{edited, add_answer, strike_answer, change_answer, renumber_over}
use Rattle.theory.proofs.Column.{Wide}

-- what the call answers: three of them are lent the table's keys, a renumbering the whole table
abbrev pub step_answer : ℕ → ℕ → List ℕ → Table → Step → Answer
step_answer c m raw T (adding row) = add_answer c m raw (keys T) row
step_answer c m raw T (striking r) = strike_answer c m raw (keys T) r
step_answer c m raw T (changing r j (to v)) = change_answer c m raw (keys T) r j v
step_answer c m raw T (renumbering r g) = renumber_over true c m raw T r g

-- what the call reads of the table has c columns: of a table lent whole every row, of its keys nothing is asked
abbrev pub Lent : ℕ → Table → Step → Type 0
Lent c T (adding row) = Unit {0}
Lent c T (striking r) = Unit {0}
Lent c T (changing r j e) = Unit {0}
Lent c T (renumbering r g) = Wide c T

-- what its contract allows: the answer, and what the layer's slice holds afterwards
abbrev pub Allows : ℕ → ℕ → List ℕ → Table → Step → Answer → List ℕ → Type 0
Allows c m raw T x r new =
    (r ≡ step_answer c m raw T x) × (new ≡ edited c m (step_answer c m raw T x) (step_on T x (layer_of c m raw)) raw)

-- what the slice holds after it was accepted
abbrev pub step_slice : ℕ → ℕ → List ℕ → Table → Step → ℕ → List ℕ
step_slice c m raw T x k = edited c m (Ok k) (step_on T x (layer_of c m raw)) raw

-- a run of accepted calls takes m entries in one slice to m' in another
pub data Ran (c : ℕ) (T : Table) : List Step → ℕ → List ℕ → ℕ → List ℕ → Type 0 where
  still : {m : ℕ} {raw : List ℕ} → Ran c T [] m raw m raw
  first : {x : Step} {xs : List Step} {m k m' : ℕ} {raw raw' : List ℕ} → Lent c T x → step_answer c m raw T x ≡ Ok k
      → Ran c T xs k (step_slice c m raw T x k) m' raw' → Ran c T (x ∷ xs) m raw m' raw'
