-- E12, and request 2's example, hold of the call, by its contract.
-- Assumes nothing.
use mathlib.Core.Path.{◌≡◌, refl, ap, ◌∙◌}
use mathlib.Core.Bool.{false}
use mathlib.Core.List.{List, [], ◌∷◌, ◌++◌}
use Prim.Native.Nat.{ℕ, ◌+◌, ◌*◌, ◌/◌, ◌≤◌, min}
use native.Mathlib.Omega.{arith}
use lib.ListN.{length, drop}
use lib.Dec.{ltb}
use borrow.Author.Tests.{le-ltb}
use Rattle.words.specs.Answer.{Answer}
use Rattle.std.specs.Prelude.{Ok}
use Rattle.model.specs.Row.{key, keys}
use Rattle.model.specs.Cell.{put}
use Rattle.model.specs.Layer.{Layer}
use Rattle.model.specs.Raw.{entries_at, layer_of, flat, room}
use Rattle.model.specs.Form.{form_place, args_ok}
use Rattle.model.specs.Fit.{fit_place}
use Rattle.model.specs.Position.{origins}
use Rattle.model.specs.Edits.{add_row, strike_base, change_base, strike_row, change_row_no}
use Rattle.model.specs.Redo.{combine}
use Rattle.model.specs.Refusals.{breaks_form}
use Rattle.model.specs.Calls.{combine_answer, combined_layer, written}
use Rattle.model.specs.Examples.{four, Example, edits, shifts, passes, refuses, combines, examples}
use Rattle.joined.specs.Promises.{CombinesTo, EachOfCall}

-- the one outcome of combining R and W in the base of the examples
abbrev answer_of : Layer → Layer → ℕ → Answer
answer_of R W len = combine_answer 2 (keys four) (length R) (flat 2 R) (length W) (flat 2 W) len

abbrev layer_from : Layer → Layer → Layer
layer_from R W = combined_layer 2 (keys four) (length R) (flat 2 R) (length W) (flat 2 W)

abbrev Goes : Layer → Layer → Layer → Type 0
Goes R W L = (length L ≤ 512) × ((len : ℕ) → ltb (room 2 len) (length L) ≡ false → answer_of R W len ≡ Ok (length L))
    × (layer_from R W ≡ L)

-- a slice of so many numbers has room for the entries
has_room : (m len : ℕ) → m ≤ 512 → m * 4 ≤ len → ltb (room 2 len) m ≡ false
unfolding room
has_room m len h l = le-ltb (min 512 (len / 4)) m (omega arith)

combines_to : (R W L : Layer) → Goes R W L → CombinesTo R W L
combines_to R W L g out a out' h o =
    let e = g.1 (length out) (has_room (length L) (length out) g.0 h) in (
      o.0 ∙ e,
      o.1 ∙ (ap (λ (t : Answer). written t (flat 2 (layer_from R W)) out) e
          ∙ ap (λ (M : Layer). flat 2 M ++ drop (length (flat 2 M)) out) g.2),
    )

-- what is computed for the lines of a table
abbrev Computed : List Example → Type 0
Computed [] = Unit {0}
Computed (edits steps L T ∷ es) = Computed es
Computed (shifts L ss zs ∷ es) = Computed es
Computed (passes X Y ps qs T ∷ es) = Computed es
Computed (refuses X Y place ∷ es) = Computed es
Computed (combines R W L ∷ es) = Goes R W L × Computed es

each_of_call : (es : List Example) → Computed es → EachOfCall es
each_of_call [] g = tt
each_of_call (edits steps L T ∷ es) g = each_of_call es g
each_of_call (shifts L ss zs ∷ es) g = each_of_call es g
each_of_call (passes X Y ps qs T ∷ es) g = each_of_call es g
each_of_call (refuses X Y place ∷ es) g = each_of_call es g
each_of_call (combines R W L ∷ es) g = (combines_to R W L g.0, each_of_call es g.1)

pub examples_of_call : EachOfCall examples
unfolding examples combine_answer args_ok breaks_form form_place fit_place layer_of entries_at flat combine origins add_row
    strike_base change_base strike_row change_row_no key put
examples_of_call =
    each_of_call examples (
      (omega arith, λ len h. rw (h), refl),
      ((omega arith, λ len h. rw (h), refl), ((omega arith, λ len h. rw (h), refl), tt)),
    )
