-- What is promised of combining, over every outcome that the call's contract allows.
use Rattle.words.specs.Answer.{Answer}
use Rattle.std.specs.Prelude.{◌≡◌, true, List, [], ◌∷◌, ◌++◌, ℕ, ◌*◌, ◌+◌, ◌≤◌, ◌<◌, length, drop, Ok}
use Rattle.model.specs.Row.{Table, column, keys}
use Rattle.model.specs.Layer.{Layer}
use Rattle.model.specs.Raw.{layer_of, flat}
use Rattle.model.specs.Form.{keeps_form}
use Rattle.model.specs.Fit.{fits}
use Rattle.model.specs.Read.{read, read_column}
use Rattle.model.specs.Redo.{combine}
use Rattle.model.specs.Calls.{fit_answer, combine_answer, combine_slice}
use Rattle.model.specs.Examples.{four, Example, edits, shifts, passes, refuses, combines}

-- the contract of `combine`: the answer a, and what the third slice holds afterwards
abbrev pub Combined : ℕ → List ℕ → ℕ → List ℕ → ℕ → List ℕ → List ℕ → Answer → List ℕ → Type 0
Combined c K mR rawR mW rawW out a out' =
    (a ≡ combine_answer c K mR rawR mW rawW (length out)) × (out' ≡ combine_slice c K mR rawR mW rawW out)

-- the m entries at the front of the third slice are the combination of R and W: it keeps form and fits, the fit call
-- accepts it, and it reads as R and then W in turn; what stands behind it is as it was
pub record Left (c : ℕ) (T : Table) (R W : Layer) (m : ℕ) (out out' : List ℕ) : Type 0 where
  pub holds : layer_of c m out' ≡ combine (keys T) R W
  pub formed : keeps_form c (length T) (layer_of c m out') ≡ true
  pub fitted : fits (keys T) (layer_of c m out') ≡ true
  pub again : fit_answer c m out' (keys T) ≡ Ok 0
  pub reads : read T (layer_of c m out') ≡ read (read T R) W
  pub behind : drop (m * (c + 2)) out' ≡ drop (m * (c + 2)) out

-- and so does each column
abbrev pub ColumnReads : ℕ → ℕ → Table → Layer → Layer → List ℕ → Type 0
ColumnReads c m T R W out' =
    (j : ℕ) → j < c → read_column j (column j T) (layer_of c m out') ≡ read_column j (read_column j (column j T) R) W

-- in the base of the examples R and W are combined into L, wherever there is room for it
abbrev pub CombinesTo : Layer → Layer → Layer → Type 0
CombinesTo R W L = (out : List ℕ) (a : Answer) (out' : List ℕ) → length L * 4 ≤ length out
    → Combined 2 (keys four) (length R) (flat 2 R) (length W) (flat 2 W) out a out'
    → (a ≡ Ok (length L)) × (out' ≡ flat 2 L ++ drop (length (flat 2 L)) out)

-- what the lines of a table of examples say of the call; E12 and one of request 2's are the lines of the last kind
abbrev pub EachOfCall : List Example → Type 0
EachOfCall [] = Unit {0}
EachOfCall (edits steps L T ∷ es) = EachOfCall es
EachOfCall (shifts L ss zs ∷ es) = EachOfCall es
EachOfCall (passes X Y ps qs T ∷ es) = EachOfCall es
EachOfCall (refuses X Y place ∷ es) = EachOfCall es
EachOfCall (combines R W L ∷ es) = CombinesTo R W L × EachOfCall es
