-- Files of literal bytes: an empty layer's, one entry's, with a note and without, and each refusal.
-- Assumes nothing.
use Prim.Native.Nat.{ℕ}
use mathlib.Core.Path.{◌≡◌, refl}
use mathlib.Core.List.{List, [], ◌∷◌, ◌++◌}
use lib.ListN.{take, replicate}
use Rattle.words.specs.declared.Cause.TheVariants.{BadArguments, BadForm, ShortBuffer, BadFile}
use Rattle.std.specs.Prelude.{Ok, Err}
use Rattle.words.specs.Answer.{refusal}
use Rattle.little.specs.Little.{number_at, numbers_at, eights}
use Rattle.model.specs.Layer.{add, at, Layer}
use Rattle.model.specs.Raw.{entries_at, layer_of, flat}
use Rattle.model.specs.Form.{form_place, args_ok}
use Rattle.model.specs.Refusals.{breaks_form}
use Rattle.format.specs.File.{
  saved,
  layer_numbers,
  misfits,
  file_answer,
  load_answer,
  load_slice,
  save_answer,
  save_slice,
  columns_in,
  rows_in,
  note_in,
}

-- the row (25, 7) added at 2, over four rows of two columns
abbrev one : Layer
one = at 2 (add (25 ∷ 7 ∷ [])) ∷ []

abbrev numbers : List ℕ
numbers = 2 ∷ 65535 ∷ 25 ∷ 7 ∷ []

abbrev file : List ℕ
file =
    2 ∷ 0 ∷ 0 ∷ 0 ∷ 0 ∷ 0 ∷ 0 ∷ 0
    ∷ 255 ∷ 255 ∷ 0 ∷ 0 ∷ 0 ∷ 0 ∷ 0 ∷ 0
    ∷ 25 ∷ 0 ∷ 0 ∷ 0 ∷ 0 ∷ 0 ∷ 0 ∷ 0
    ∷ 7 ∷ 0 ∷ 0 ∷ 0 ∷ 0 ∷ 0 ∷ 0 ∷ 0
    ∷ 64 ∷ 0 ∷ 0 ∷ 0 ∷ 0 ∷ 0 ∷ 0 ∷ 0
    ∷ 1 ∷ 0 ∷ 0 ∷ 0 ∷ 0 ∷ 0 ∷ 0 ∷ 0
    ∷ 2 ∷ 0 ∷ 0 ∷ 0 ∷ 0 ∷ 0 ∷ 0 ∷ 0
    ∷ 4 ∷ 0 ∷ 0 ∷ 0 ∷ 0 ∷ 0 ∷ 0 ∷ 0
    ∷ []

pub writes : saved 2 4 one ≡ file
unfolding saved flat eights
writes = refl

pub save_call : (save_answer 2 4 1 numbers 70 ≡ Ok 64) × (save_slice 2 4 1 numbers (replicate 70 9) ≡ file ++ replicate 6 9)
    × (save_answer 2 4 1 numbers 63 ≡ Err (refusal ShortBuffer 0))
unfolding save_answer saved flat eights args_ok breaks_form form_place layer_of entries_at
save_call = (refl, refl, refl)

pub checked : (file_answer file ≡ Ok 1) × (columns_in file ≡ 2) × (rows_in file ≡ 4) × (note_in file ≡ 0)
unfolding file_answer misfits layer_numbers number_at numbers_at args_ok breaks_form form_place layer_of entries_at
checked = (refl, refl, refl, refl)

pub load_call : (load_slice file (replicate 6 9) ≡ numbers ++ (9 ∷ 9 ∷ [])) × (load_answer file 4 ≡ Ok 1)
    × (load_answer file 3 ≡ Err (refusal ShortBuffer 0)) × (load_slice file (replicate 3 9) ≡ replicate 3 9)
unfolding load_answer misfits layer_numbers number_at numbers_at args_ok breaks_form form_place layer_of entries_at
load_call = (refl, refl, refl, refl)

-- a note of one byte, of 256, of 257
pub noted : (file_answer (77 ∷ file) ≡ Ok 1) × (note_in (77 ∷ file) ≡ 1) × (layer_numbers (77 ∷ file) ≡ numbers)
    × (file_answer (replicate 256 77 ++ file) ≡ Ok 1) × (file_answer (replicate 257 77 ++ file) ≡ Err (refusal BadFile 0))
unfolding file_answer misfits layer_numbers number_at numbers_at args_ok breaks_form form_place layer_of entries_at
noted = (refl, refl, refl, refl, refl)

-- an empty layer's file is its trailer: reach, entries, columns, base rows
abbrev ends : ℕ → ℕ → ℕ → ℕ → List ℕ
ends b m c n = eights (b ∷ m ∷ c ∷ n ∷ [])

pub empty : (saved 1 0 [] ≡ ends 32 0 1 0) × (file_answer (ends 32 0 1 0) ≡ Ok 0) × (file_answer (ends 32 0 8 4096) ≡ Ok 0)
unfolding saved flat file_answer misfits layer_numbers number_at numbers_at eights args_ok breaks_form form_place layer_of entries_at
empty = (refl, refl, refl)

-- 12 for a short file; then 1 for each number past its limit; then 12 for a wrong reach
pub short : (file_answer [] ≡ Err (refusal BadFile 0)) × (file_answer (take 31 (ends 32 0 9 0)) ≡ Err (refusal BadFile 0))
unfolding file_answer eights
short = (refl, refl)

pub past_limits : (file_answer (ends 31 0 0 0) ≡ Err (refusal BadArguments 0)) × (file_answer (ends 31 0 9 0) ≡ Err (refusal BadArguments 0))
    × (file_answer (ends 31 0 1 4097) ≡ Err (refusal BadArguments 0)) × (file_answer (ends 31 513 1 0) ≡ Err (refusal BadArguments 0))
    × (file_answer (ends 31 18446744073709551615 1 0) ≡ Err (refusal BadArguments 0))
unfolding file_answer number_at eights args_ok
past_limits = (refl, refl, refl, refl, refl)

pub wrong_reach : (file_answer (ends 31 0 1 0) ≡ Err (refusal BadFile 0)) × (file_answer (ends 56 1 1 0) ≡ Err (refusal BadFile 0))
unfolding file_answer misfits number_at eights args_ok
wrong_reach = (refl, refl)

-- 2 with its place: a strike at row 4 of four
pub breaks : file_answer (eights (2 ∷ 65535 ∷ 25 ∷ 7 ∷ 4 ∷ 65534 ∷ 40 ∷ 0 ∷ 96 ∷ 2 ∷ 2 ∷ 4 ∷ [])) ≡ Err (refusal BadForm 1)
unfolding file_answer misfits layer_numbers number_at numbers_at eights args_ok breaks_form form_place layer_of entries_at
breaks = refl
