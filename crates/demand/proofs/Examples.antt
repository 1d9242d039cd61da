-- E7 to E11, and request 2's examples, hold of the call, by its contract.
-- Assumes nothing.
use Prim.Native.Nat.{ℕ}
use mathlib.Core.Path.{◌≡◌, refl, ap, ◌∙◌}
use mathlib.Core.List.{List, [], ◌∷◌, map}
use lib.ListN.{length}
use Rattle.words.specs.declared.Cause.TheVariants.{InConflict}
use Rattle.std.specs.Prelude.{Ok, Err}
use Rattle.model.specs.Row.{Table, key, keys}
use Rattle.model.specs.Cell.{put}
use Rattle.model.specs.Layer.{Layer, position}
use Rattle.model.specs.Raw.{entries_at, layer_of, flat}
use Rattle.model.specs.Form.{form_place, args_ok}
use Rattle.model.specs.Fit.{fit_place}
use Rattle.model.specs.Read.{read}
use Rattle.model.specs.Position.{row_of}
use Rattle.model.specs.Conflict.{conflict, conflict_place}
use Rattle.model.specs.Move.{add_position}
use Rattle.model.specs.Refusals.{breaks_form}
use Rattle.words.specs.Answer.{refusal, Answer}
use Rattle.model.specs.Calls.{move_answer, move_slice}
use Rattle.model.specs.Examples.{four, Example, edits, shifts, passes, refuses, combines, examples}
use Rattle.demand.specs.Promises.{MovesTo, StaysAt, EachOfCall}

-- the one outcome of moving X past Y in the base of the examples
abbrev answer_of : Layer → Layer → Answer
answer_of X Y = move_answer 2 (keys four) (length X) (flat 2 X) (length Y) (flat 2 Y)

abbrev slice_of : Layer → Layer → List ℕ
slice_of X Y = move_slice 2 (keys four) (length X) (flat 2 X) (length Y) (flat 2 Y)

abbrev Goes : Layer → Layer → List ℕ → Table → Type 0
Goes X Y ps T =
    (answer_of X Y ≡ Ok (length X))
    × (map position (layer_of 2 (length X) (slice_of X Y)) ≡ ps)
    × (read (read four Y) (layer_of 2 (length X) (slice_of X Y)) ≡ T)

abbrev Stays : Layer → Layer → ℕ → Type 0
Stays X Y place = (answer_of X Y ≡ Err (refusal InConflict place)) × (slice_of X Y ≡ flat 2 X)

moves_to : (X Y : Layer) (ps : List ℕ) (T : Table) → Goes X Y ps T → MovesTo X Y ps T
moves_to X Y ps T g r x' o = (
  o.0 ∙ g.0,
  ap (λ (z : List ℕ). map position (layer_of 2 (length X) z)) o.1 ∙ g.1,
  ap (λ (z : List ℕ). read (read four Y) (layer_of 2 (length X) z)) o.1 ∙ g.2,
)

stays_at : (X Y : Layer) (place : ℕ) → Stays X Y place → StaysAt X Y place
stays_at X Y place g r x' o = (o.0 ∙ g.0, o.1 ∙ g.1)

-- what is computed for the lines of a table
abbrev Computed : List Example → Type 0
Computed [] = Unit {0}
Computed (edits steps L T ∷ es) = Computed es
Computed (shifts L ss zs ∷ es) = Computed es
Computed (combines R W L ∷ es) = Computed es
Computed (passes X Y ps qs T ∷ es) = (Goes X Y ps T × Goes Y X qs T) × Computed es
Computed (refuses X Y place ∷ es) = Stays X Y place × Computed es

each_of_call : (es : List Example) → Computed es → EachOfCall es
each_of_call [] g = tt
each_of_call (edits steps L T ∷ es) g = each_of_call es g
each_of_call (shifts L ss zs ∷ es) g = each_of_call es g
each_of_call (combines R W L ∷ es) g = each_of_call es g
each_of_call (passes X Y ps qs T ∷ es) g =
    ((moves_to X Y ps T g.0.0, moves_to Y X qs T g.0.1), each_of_call es g.1)
each_of_call (refuses X Y place ∷ es) g = (stays_at X Y place g.0, each_of_call es g.1)

pub examples_of_call : EachOfCall examples
unfolding examples move_answer args_ok breaks_form form_place fit_place layer_of entries_at flat conflict conflict_place row_of add_position key put
examples_of_call =
    each_of_call examples (
      ((refl, refl, refl), (refl, refl, refl)),
      (
        (refl, refl),
        (
          (refl, refl),
          (
            ((refl, refl, refl), (refl, refl, refl)),
            (((refl, refl, refl), (refl, refl, refl)), (((refl, refl, refl), (refl, refl, refl)), ((refl, refl), tt))),
          ),
        ),
      ),
    )
