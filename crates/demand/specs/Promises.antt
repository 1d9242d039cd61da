-- What is promised of a move, over every outcome that the call's contract allows.
use Rattle.words.specs.declared.Cause.TheVariants.{InConflict}
use Rattle.std.specs.Prelude.{◌≡◌, true, false, List, [], ◌∷◌, map, ℕ, ◌<◌, length, get_or, Ok, Err}
use Rattle.model.specs.Row.{Table, keys}
use Rattle.model.specs.Layer.{at, strike, Layer, position}
use Rattle.model.specs.Raw.{layer_of, flat}
use Rattle.model.specs.Form.{keeps_form}
use Rattle.model.specs.Fit.{fits}
use Rattle.model.specs.Read.{read}
use Rattle.model.specs.Redo.{redo, on_table}
use Rattle.model.specs.Conflict.{clashes_with}
use Rattle.model.specs.Move.{move}
use Rattle.model.specs.Refusals.{first_met}
use Rattle.words.specs.Answer.{refusal, Answer}
use Rattle.model.specs.Examples.{four, Example, edits, shifts, passes, refuses, combines}
use Rattle.pass.specs.Outcome.{Outcome}
use Rattle.pair.specs.Pair.{pair_rows}

-- the input passes refusals 1 to 4
abbrev pub PassesFour : ℕ → List ℕ → ℕ → List ℕ → ℕ → List ℕ → Type 0
PassesFour c K mx x my y = first_met {A = Answer} Err (pair_rows c K mx x my y) (Ok 0) ≡ Ok 0

-- p is the lowest entry number of X in any conflict
pub record Lowest (X Y : Layer) (p : ℕ) : Type 0 where
  pub within : p < length X
  pub clashes : clashes_with Y (get_or X p (at 0 (strike 0))) ≡ true
  pub least : (i : ℕ) → i < p → clashes_with Y (get_or X i (at 0 (strike 0))) ≡ false

-- X's slice holds X moved past Y, which keeps form and fits what is read through Y, and reads there as X redone by key
pub record MovedPast (c : ℕ) (T : Table) (X Y : Layer) (mx : ℕ) (x' : List ℕ) : Type 0 where
  pub holds : layer_of c mx x' ≡ move X Y
  pub formed : keeps_form c (length (read T Y)) (layer_of c mx x') ≡ true
  pub fitted : fits (keys (read T Y)) (layer_of c mx x') ≡ true
  pub redone : read (read T Y) (layer_of c mx x') ≡ redo on_table (keys T) X (read T Y)

-- where neither way is refused, both orders are one table
pub record BothOrders (c : ℕ) (T : Table) (mx : ℕ) (x x' : List ℕ) (my : ℕ) (y y' : List ℕ) : Type 0 where
  pub mine : MovedPast c T (layer_of c mx x) (layer_of c my y) mx x'
  pub theirs : MovedPast c T (layer_of c my y) (layer_of c mx x) my y'
  pub alike : read (read T (layer_of c my y)) (layer_of c mx x') ≡ read (read T (layer_of c mx x)) (layer_of c my y')

-- X past Y in the base of the examples: accepted, to these positions, and it reads as this table
abbrev pub MovesTo : Layer → Layer → List ℕ → Table → Type 0
MovesTo X Y ps T = (r : Answer) (x' : List ℕ) → Outcome 2 (keys four) (length X) (flat 2 X) (length Y) (flat 2 Y) r x'
    → (r ≡ Ok (length X)) × (map position (layer_of 2 (length X) x') ≡ ps)
    × (read (read four Y) (layer_of 2 (length X) x') ≡ T)

-- or refused at this place, and the slice is as it was
abbrev pub StaysAt : Layer → Layer → ℕ → Type 0
StaysAt X Y place = (r : Answer) (x' : List ℕ) → Outcome 2 (keys four) (length X) (flat 2 X) (length Y) (flat 2 Y) r x'
    → (r ≡ Err (refusal InConflict place)) × (x' ≡ flat 2 X)

-- what the lines of a table of examples say of the call; E7 to E11 and two of request 2's are lines of the last two kinds
abbrev pub EachOfCall : List Example → Type 0
EachOfCall [] = Unit {0}
EachOfCall (edits steps L T ∷ es) = EachOfCall es
EachOfCall (shifts L ss zs ∷ es) = EachOfCall es
EachOfCall (combines R W L ∷ es) = EachOfCall es
EachOfCall (passes X Y ps qs T ∷ es) = (MovesTo X Y ps T × MovesTo Y X qs T) × EachOfCall es
EachOfCall (refuses X Y place ∷ es) = StaysAt X Y place × EachOfCall es
