-- The bounds of the refusal table: antt computes the answers at them and past them.
-- Assumes nothing.
use mathlib.Core.Path.{◌≡◌, refl}
use mathlib.Core.List.{List, [], ◌∷◌, ◌++◌}
use Prim.Native.Nat.{ℕ}
use Rattle.words.specs.declared.Cause.TheVariants.{BadArguments, BadFit, NoSuchRow, KeyShown, NoRoom}
use Rattle.std.specs.Prelude.{Ok, Err}
use Rattle.words.specs.Answer.{refusal}
use Rattle.model.specs.Row.{key, columnwise}
use Rattle.model.specs.Raw.{layer_of, entries_at, flat, room}
use Rattle.model.specs.Form.{args_ok, form_place}
use Rattle.model.specs.Fit.{fit_place}
use Rattle.model.specs.Position.{origins}
use Rattle.model.specs.Edits.{add_row, strike_base, strike_row, renumber_row}
use Rattle.model.specs.Refusals.{breaks_form}
use Rattle.model.specs.Calls.{form_answer, strike_answer, renumber_over, renumber_answer, renumber_slice}

-- a table may have 4,096 rows
pub rows_within : form_answer 1 4096 0 [] ≡ Ok 4096
unfolding form_answer args_ok breaks_form form_place layer_of entries_at
rows_within = refl

pub rows_past : form_answer 1 4097 0 [] ≡ Err (refusal BadArguments 0)
unfolding form_answer args_ok breaks_form form_place layer_of entries_at
rows_past = refl

-- a row that is shown can be struck, and the layer may fill its slice
pub slice_filled : strike_answer 1 0 (0 ∷ 0 ∷ 0 ∷ []) (10 ∷ []) 0 ≡ Ok 1
unfolding strike_answer args_ok breaks_form form_place fit_place layer_of entries_at room origins strike_base strike_row
slice_filled = refl

pub slice_too_short : strike_answer 1 0 (0 ∷ 0 ∷ []) (10 ∷ []) 0 ≡ Err (refusal NoRoom 0)
unfolding strike_answer args_ok breaks_form form_place fit_place layer_of entries_at room origins strike_base strike_row
slice_too_short = refl

-- a row past those shown cannot; where the layer does not fit either, that is said first
pub row_past : strike_answer 1 0 (0 ∷ 0 ∷ 0 ∷ []) (10 ∷ []) 1 ≡ Err (refusal NoSuchRow 0)
unfolding strike_answer args_ok breaks_form form_place fit_place layer_of entries_at room origins strike_base strike_row
row_past = refl

pub fit_first : strike_answer 1 1 (0 ∷ 65534 ∷ 11 ∷ []) (10 ∷ []) 1 ≡ Err (refusal BadFit 0)
unfolding strike_answer args_ok breaks_form form_place fit_place layer_of entries_at room origins strike_base strike_row
fit_first = refl

-- a base row's other number needs two entries, an added row's none, its own none
abbrev zeros : List ℕ
zeros = 0 ∷ 0 ∷ 0 ∷ 0 ∷ 0 ∷ []

pub two_entries : (renumber_answer 1 1 0 (0 ∷ zeros) (10 ∷ []) 0 11 ≡ Ok 2)
    × (renumber_slice 1 1 0 (0 ∷ zeros) (10 ∷ []) 0 11 ≡ 0 ∷ 65534 ∷ 10 ∷ 1 ∷ 65535 ∷ 11 ∷ [])
    × (renumber_answer 1 1 0 zeros (10 ∷ []) 0 11 ≡ Err (refusal NoRoom 0))
    × (renumber_slice 1 1 0 zeros (10 ∷ []) 0 11 ≡ zeros)
unfolding renumber_over args_ok breaks_form form_place fit_place layer_of entries_at room origins add_row strike_base strike_row renumber_row
    columnwise key flat
two_entries = (refl, refl, refl, refl)

pub no_entry : (renumber_answer 1 1 1 (1 ∷ 65535 ∷ 20 ∷ []) (10 ∷ []) 1 5 ≡ Ok 1)
    × (renumber_slice 1 1 1 (1 ∷ 65535 ∷ 20 ∷ []) (10 ∷ []) 1 5 ≡ 0 ∷ 65535 ∷ 5 ∷ [])
    × (renumber_answer 1 1 1 (1 ∷ 65535 ∷ 20 ∷ []) (10 ∷ []) 0 10 ≡ Ok 1)
    × (renumber_slice 1 1 1 (1 ∷ 65535 ∷ 20 ∷ []) (10 ∷ []) 0 10 ≡ 1 ∷ 65535 ∷ 20 ∷ [])
unfolding renumber_over args_ok breaks_form form_place fit_place layer_of entries_at room origins add_row strike_base strike_row renumber_row
    columnwise key flat
no_entry = (refl, refl, refl, refl)

-- a number that another row shows is refused before the room, and after a row that is not shown; a short table first of all
pub number_shown : (renumber_answer 1 1 1 (1 ∷ 65535 ∷ 20 ∷ []) (10 ∷ []) 0 20 ≡ Err (refusal KeyShown 0))
    × (renumber_answer 1 1 1 (1 ∷ 65535 ∷ 20 ∷ []) (10 ∷ []) 2 20 ≡ Err (refusal NoSuchRow 0))
    × (renumber_answer 1 1 1 (1 ∷ 65535 ∷ 20 ∷ []) [] 0 20 ≡ Err (refusal BadArguments 0))
    × (renumber_answer 2 2 0 (zeros ++ (0 ∷ 0 ∷ 0 ∷ [])) (10 ∷ 20 ∷ 1 ∷ []) 0 15 ≡ Err (refusal BadArguments 0))
    × (renumber_answer 2 2 0 (zeros ++ (0 ∷ 0 ∷ 0 ∷ [])) (10 ∷ 20 ∷ 1 ∷ 2 ∷ []) 0 15 ≡ Ok 2)
unfolding renumber_over args_ok breaks_form form_place fit_place layer_of entries_at room origins add_row strike_base strike_row renumber_row
    columnwise key flat
number_shown = (refl, refl, refl, refl, refl)
