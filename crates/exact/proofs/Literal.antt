-- Slices of literal numbers: the layer of E4 and a change as they lie in a slice, and E1 to E12 as calls, with what each
-- slice holds afterwards.
-- Assumes nothing.
use Prim.Native.Nat.{ℕ}
use mathlib.Core.Path.{◌≡◌, refl}
use mathlib.Core.List.{List, [], ◌∷◌, ◌++◌}
use lib.ListN.{replicate}
use lib.IntN.{pos, negsuc}
use Rattle.words.specs.declared.Origin.TheVariants.{Base as base, Added as added}
use Rattle.words.specs.declared.Cause.TheVariants.{BadArguments, BadForm, KeysUnordered, BadFit, NoSuchRow, KeyColumn, KeyShown, InConflict, NoRoom, ShortBuffer}
use Rattle.std.specs.Prelude.{Ok, Err}
use Rattle.model.specs.Row.{key, columnwise}
use Rattle.model.specs.Cell.{put, to}
use Rattle.model.specs.Layer.{add, strike, change, at, Layer}
use Rattle.model.specs.Raw.{entries_at, layer_of, flat, room}
use Rattle.model.specs.Form.{form_place, args_ok}
use Rattle.model.specs.Fit.{fit_place}
use Rattle.model.specs.Read.{whole_base, buffer_front, empty_base}
use Rattle.model.specs.Position.{shift, row_of, origins}
use Rattle.model.specs.Edits.{add_row, strike_base, change_base, strike_row, change_row_no, renumber_row}
use Rattle.model.specs.Redo.{combine}
use Rattle.model.specs.Conflict.{rule_number, clash, conflict, conflict_place}
use Rattle.model.specs.Move.{add_position}
use Rattle.model.specs.Refusals.{breaks_form}
use Rattle.words.specs.Answer.{refusal}
use Rattle.model.specs.Calls.{
  form_answer,
  ready_answer,
  fit_answer,
  read_answer,
  read_slice,
  view_part,
  shift_answer,
  row_answer,
  back_answer,
  add_answer,
  add_slice,
  strike_answer,
  strike_slice,
  change_answer,
  change_slice,
  renumber_over,
  renumber_answer,
  renumber_slice,
  combine_answer,
  combine_slice,
  move_answer,
  move_slice,
}

-- the keys of the scope's base, and column 1
abbrev K4 : List ℕ
K4 = 10 ∷ 20 ∷ 30 ∷ 40 ∷ []

abbrev ones : List ℕ
ones = 1 ∷ 2 ∷ 4 ∷ 8 ∷ []

-- E4: position, kind and two values an entry
abbrev slice4 : List ℕ
slice4 =
    2 ∷ 65535 ∷ 25 ∷ 7
    ∷ 2 ∷ 65535 ∷ 27 ∷ 9
    ∷ 2 ∷ 65534 ∷ 30 ∷ 0
    ∷ 3 ∷ 65535 ∷ 33 ∷ 5
    ∷ []

abbrev layer4 : Layer
layer4 = at 2 (add (25 ∷ 7 ∷ [])) ∷ at 2 (add (27 ∷ 9 ∷ [])) ∷ at 2 (strike 30) ∷ at 3 (add (33 ∷ 5 ∷ [])) ∷ []

pub slice_read : layer_of 2 4 slice4 ≡ layer4
unfolding layer_of entries_at
slice_read = refl

pub slice_written : flat 2 layer4 ≡ slice4
unfolding flat
slice_written = refl

pub change_read : layer_of 2 1 (3 ∷ 1 ∷ 9 ∷ 0 ∷ []) ≡ at 3 (change 1 (to 9)) ∷ []
unfolding layer_of entries_at
change_read = refl

pub change_written : flat 2 (at 3 (change 1 (to 9)) ∷ []) ≡ 3 ∷ 1 ∷ 9 ∷ 0 ∷ []
unfolding flat
change_written = refl

-- E1 to E4 as calls, on a slice of 18 numbers: the last two are past any layer
abbrev tail : List ℕ
tail = 77 ∷ 78 ∷ []

abbrev slice0 : List ℕ
slice0 = replicate 16 0 ++ tail

abbrev slice2 : List ℕ
slice2 = 2 ∷ 65535 ∷ 25 ∷ 7 ∷ (replicate 12 0 ++ tail)

abbrev slice3 : List ℕ
slice3 = 2 ∷ 65535 ∷ 25 ∷ 7 ∷ 2 ∷ 65534 ∷ 30 ∷ 0 ∷ (replicate 8 0 ++ tail)

abbrev slice27 : List ℕ
slice27 = 2 ∷ 65535 ∷ 25 ∷ 7 ∷ 2 ∷ 65535 ∷ 27 ∷ 9 ∷ 2 ∷ 65534 ∷ 30 ∷ 0 ∷ (replicate 4 0 ++ tail)

-- E1: through an empty layer both columns read as the base, to the front of the buffer
pub e1_call : (read_answer 2 0 slice0 K4 0 6 ≡ Ok 4) × (read_slice 2 0 slice0 K4 0 (replicate 4 0 ++ tail) ≡ K4 ++ tail)
    × (read_answer 2 0 slice0 ones 1 6 ≡ Ok 4) × (read_slice 2 0 slice0 ones 1 (replicate 4 0 ++ tail) ≡ ones ++ tail)
unfolding read_answer args_ok breaks_form form_place layer_of entries_at
e1_call = (refl, refl, refl, refl)

pub e2_call : (add_answer 2 0 slice0 K4 (25 ∷ 7 ∷ []) ≡ Ok 1) × (add_slice 2 0 slice0 K4 (25 ∷ 7 ∷ []) ≡ slice2)
unfolding add_answer args_ok breaks_form form_place layer_of entries_at fit_place key add_row room flat
e2_call = (refl, refl)

pub e3_call : (strike_answer 2 1 slice2 K4 3 ≡ Ok 2) × (strike_slice 2 1 slice2 K4 3 ≡ slice3)
unfolding strike_answer args_ok breaks_form form_place layer_of entries_at fit_place key strike_row strike_base origins room flat
e3_call = (refl, refl)

pub e4_call : (add_answer 2 2 slice3 K4 (27 ∷ 9 ∷ []) ≡ Ok 3) × (add_slice 2 2 slice3 K4 (27 ∷ 9 ∷ []) ≡ slice27)
    × (add_answer 2 3 slice27 K4 (33 ∷ 5 ∷ []) ≡ Ok 4) × (add_slice 2 3 slice27 K4 (33 ∷ 5 ∷ []) ≡ slice4 ++ tail)
unfolding add_answer args_ok breaks_form form_place layer_of entries_at fit_place key add_row room flat
e4_call = (refl, refl, refl, refl)

-- the slice is full: another entry gives 9; a key that is shown gives 7
pub no_room_call : (add_answer 2 4 (slice4 ++ tail) K4 (50 ∷ 1 ∷ []) ≡ Err (refusal NoRoom 0))
    × (add_slice 2 4 (slice4 ++ tail) K4 (50 ∷ 1 ∷ []) ≡ slice4 ++ tail)
    × (add_answer 2 4 (slice4 ++ tail) K4 (40 ∷ 1 ∷ []) ≡ Err (refusal KeyShown 0))
unfolding add_answer args_ok breaks_form form_place layer_of entries_at fit_place key add_row room flat
no_room_call = (refl, refl, refl)

-- an added row that is struck frees its entry, and leaves zeros
pub freed_call : (strike_answer 2 2 slice3 K4 2 ≡ Ok 1)
    × (strike_slice 2 2 slice3 K4 2 ≡ 2 ∷ 65534 ∷ 30 ∷ 0 ∷ (replicate 12 0 ++ tail))
unfolding strike_answer args_ok breaks_form form_place layer_of entries_at fit_place key strike_row strike_base origins room flat
freed_call = (refl, refl)

-- a change of an added row's value, and of a base row's; of column 0 it gives 6, past the rows 5, past the columns 1
pub change_call : (change_answer 2 1 slice2 K4 2 1 9 ≡ Ok 1)
    × (change_slice 2 1 slice2 K4 2 1 9 ≡ 2 ∷ 65535 ∷ 25 ∷ 9 ∷ (replicate 12 0 ++ tail))
    × (change_answer 2 1 slice2 K4 3 1 9 ≡ Ok 2)
    × (change_slice 2 1 slice2 K4 3 1 9 ≡ 2 ∷ 65535 ∷ 25 ∷ 7 ∷ 2 ∷ 1 ∷ 9 ∷ 0 ∷ (replicate 8 0 ++ tail))
    × (change_answer 2 1 slice2 K4 3 0 9 ≡ Err (refusal KeyColumn 0))
    × (change_answer 2 1 slice2 K4 5 0 9 ≡ Err (refusal NoSuchRow 0))
    × (change_answer 2 1 slice2 K4 5 2 9 ≡ Err (refusal BadArguments 0))
unfolding change_answer args_ok breaks_form form_place layer_of entries_at fit_place key put change_row_no change_base origins room flat
change_call = (refl, refl, refl, refl, refl, refl, refl)

-- The base as one slice, column 0 and then column 1. A base row with another number: a strike, and an add at the number's
-- place; the change of a changed row goes, and its value with the row.
abbrev table4 : List ℕ
table4 = K4 ++ ones

pub renumber_base_call : (renumber_answer 2 4 0 slice0 table4 0 25 ≡ Ok 2)
    × (renumber_slice 2 4 0 slice0 table4 0 25 ≡ 0 ∷ 65534 ∷ 10 ∷ 0 ∷ 2 ∷ 65535 ∷ 25 ∷ 1 ∷ (replicate 8 0 ++ tail))
    × (renumber_answer 2 4 1 (3 ∷ 1 ∷ 9 ∷ 0 ∷ slice0) table4 3 15 ≡ Ok 2)
    × (renumber_slice 2 4 1 (3 ∷ 1 ∷ 9 ∷ 0 ∷ slice0) table4 3 15
    ≡ 1 ∷ 65535 ∷ 15 ∷ 9 ∷ 3 ∷ 65534 ∷ 40 ∷ 0 ∷ (replicate 12 0 ++ tail))
unfolding renumber_over renumber_row columnwise args_ok breaks_form form_place layer_of entries_at fit_place key put add_row strike_row
    strike_base origins room flat
renumber_base_call = (refl, refl, refl, refl)

-- three changes of one row give way to a strike and an add: an entry is freed, and leaves zeros
pub renumber_freed_call : (renumber_answer 4 1 3 (0 ∷ 1 ∷ 5 ∷ 0 ∷ 0 ∷ 0 ∷ 0 ∷ 2 ∷ 6 ∷ 0 ∷ 0 ∷ 0 ∷ 0 ∷ 3 ∷ 7 ∷ 0 ∷ 0 ∷ 0 ∷ tail)
    (10 ∷ 1 ∷ 2 ∷ 3 ∷ []) 0 5 ≡ Ok 2)
    × (renumber_slice 4 1 3 (0 ∷ 1 ∷ 5 ∷ 0 ∷ 0 ∷ 0 ∷ 0 ∷ 2 ∷ 6 ∷ 0 ∷ 0 ∷ 0 ∷ 0 ∷ 3 ∷ 7 ∷ 0 ∷ 0 ∷ 0 ∷ tail)
    (10 ∷ 1 ∷ 2 ∷ 3 ∷ []) 0 5 ≡ 0 ∷ 65535 ∷ 5 ∷ 5 ∷ 6 ∷ 7 ∷ 0 ∷ 65534 ∷ 10 ∷ 0 ∷ 0 ∷ 0 ∷ (replicate 6 0 ++ tail))
unfolding renumber_over renumber_row columnwise args_ok breaks_form form_place layer_of entries_at fit_place key put add_row strike_row
    strike_base origins room flat
renumber_freed_call = (refl, refl)

-- E4 fills its slice: an added row may have another number, also that of a struck row; and a row its own
pub renumber_full_call : (renumber_answer 2 4 4 (slice4 ++ tail) table4 2 35 ≡ Ok 4)
    × (renumber_slice 2 4 4 (slice4 ++ tail) table4 2 35
    ≡ 2 ∷ 65535 ∷ 27 ∷ 9 ∷ 2 ∷ 65534 ∷ 30 ∷ 0 ∷ 3 ∷ 65535 ∷ 33 ∷ 5 ∷ 3 ∷ 65535 ∷ 35 ∷ 7 ∷ tail)
    × (renumber_slice 2 4 4 (slice4 ++ tail) table4 2 30
    ≡ 2 ∷ 65535 ∷ 27 ∷ 9 ∷ 2 ∷ 65535 ∷ 30 ∷ 7 ∷ 2 ∷ 65534 ∷ 30 ∷ 0 ∷ 3 ∷ 65535 ∷ 33 ∷ 5 ∷ tail)
    × (renumber_answer 2 4 4 (slice4 ++ tail) table4 2 25 ≡ Ok 4)
    × (renumber_slice 2 4 4 (slice4 ++ tail) table4 2 25 ≡ slice4 ++ tail)
    × (renumber_answer 2 4 4 (slice4 ++ tail) table4 5 40 ≡ Ok 4)
    × (renumber_slice 2 4 4 (slice4 ++ tail) table4 5 40 ≡ slice4 ++ tail)
unfolding renumber_over renumber_row columnwise args_ok breaks_form form_place layer_of entries_at fit_place key add_row strike_row
    strike_base origins room flat
renumber_full_call = (refl, refl, refl, refl, refl, refl, refl)

-- a base row has no room there for two more entries, 9; a number that another row shows gives 7, a row that is not shown 5;
-- a table one number short gives 1, one number over nothing
pub renumber_refused_call : (renumber_answer 2 4 4 (slice4 ++ tail) table4 5 45 ≡ Err (refusal NoRoom 0))
    × (renumber_slice 2 4 4 (slice4 ++ tail) table4 5 45 ≡ slice4 ++ tail)
    × (renumber_answer 2 4 1 (3 ∷ 1 ∷ 9 ∷ 0 ∷ tail) table4 3 45 ≡ Err (refusal NoRoom 0))
    × (renumber_answer 2 4 4 (slice4 ++ tail) table4 5 27 ≡ Err (refusal KeyShown 0))
    × (renumber_answer 2 4 4 (slice4 ++ tail) table4 6 27 ≡ Err (refusal NoSuchRow 0))
    × (renumber_answer 2 4 0 slice0 (10 ∷ 20 ∷ 30 ∷ 40 ∷ 1 ∷ 2 ∷ 4 ∷ []) 0 25 ≡ Err (refusal BadArguments 0))
    × (renumber_slice 2 4 0 slice0 (10 ∷ 20 ∷ 30 ∷ 40 ∷ 1 ∷ 2 ∷ 4 ∷ []) 0 25 ≡ slice0)
    × (renumber_answer 2 4 0 slice0 (table4 ++ tail) 0 25 ≡ Ok 2)
unfolding renumber_over renumber_row columnwise args_ok breaks_form form_place layer_of entries_at fit_place key put add_row strike_row
    strike_base origins room flat
renumber_refused_call = (refl, refl, refl, refl, refl, refl, refl, refl)

-- E5: shifts of E4 at 0, 2, 3, 4: 0, 2, 2, 2; past n it gives 1
pub e5_call : (shift_answer 2 4 4 slice4 0 ≡ Ok (pos 0)) × (shift_answer 2 4 4 slice4 2 ≡ Ok (pos 2))
    × (shift_answer 2 4 4 slice4 3 ≡ Ok (pos 2)) × (shift_answer 2 4 4 slice4 4 ≡ Ok (pos 2))
    × (shift_answer 2 4 4 slice4 5 ≡ Err (refusal BadArguments 0))
    × (row_answer 2 4 4 slice4 3 ≡ Ok 5)
unfolding shift_answer row_answer args_ok breaks_form form_place layer_of entries_at key shift row_of
e5_call = (refl, refl, refl, refl, refl, refl)

-- E6: strike row 0 twice; shifts at 1, 2, 4: -1, -2, -2
abbrev slice6 : List ℕ
slice6 = 0 ∷ 65534 ∷ 10 ∷ 0 ∷ 1 ∷ 65534 ∷ 20 ∷ 0 ∷ (replicate 8 0 ++ tail)

pub e6_call : (strike_slice 2 1 (strike_slice 2 0 slice0 K4 0) K4 0 ≡ slice6)
    × (shift_answer 2 4 2 slice6 1 ≡ Ok (negsuc 0)) × (shift_answer 2 4 2 slice6 2 ≡ Ok (negsuc 1))
    × (shift_answer 2 4 2 slice6 4 ≡ Ok (negsuc 1))
unfolding strike_answer shift_answer args_ok breaks_form form_place layer_of entries_at fit_place key strike_row strike_base origins shift room flat
e6_call = (refl, refl, refl, refl)

-- back from the rows of E4: base rows 0 and 1, added entries 0, 1 and 3, base row 3; there is no row 6
pub back_call : (back_answer 2 4 4 slice4 1 ≡ Ok (base 1)) × (back_answer 2 4 4 slice4 3 ≡ Ok (added 1))
    × (back_answer 2 4 4 slice4 4 ≡ Ok (added 3)) × (back_answer 2 4 4 slice4 5 ≡ Ok (base 3))
    × (back_answer 2 4 4 slice4 6 ≡ Err (refusal NoSuchRow 0))
unfolding back_answer args_ok breaks_form form_place layer_of entries_at key origins
back_call = (refl, refl, refl, refl, refl)

-- reading column 1 through E4 into seven numbers, what is seen, and a buffer that is too short
abbrev nines : List ℕ
nines = replicate 7 99

pub read_call : (read_answer 2 4 slice4 ones 1 7 ≡ Ok 6)
    × (read_slice 2 4 slice4 ones 1 nines ≡ 1 ∷ 2 ∷ 7 ∷ 9 ∷ 5 ∷ 8 ∷ 99 ∷ [])
    × (view_part 2 4 slice4 ones 1 7 ≡ buffer_front 6)
    × (read_answer 2 4 slice4 ones 1 5 ≡ Err (refusal ShortBuffer 0))
    × (view_part 2 4 slice4 ones 1 5 ≡ empty_base)
    × (read_answer 2 4 slice4 ones 2 7 ≡ Err (refusal BadArguments 0))
    × (view_part 2 1 (3 ∷ 1 ∷ 9 ∷ 0 ∷ []) K4 0 4 ≡ whole_base)
    × (view_part 2 1 (3 ∷ 1 ∷ 9 ∷ 0 ∷ []) ones 1 4 ≡ buffer_front 4)
unfolding read_answer view_part args_ok breaks_form form_place layer_of entries_at key
read_call = (refl, refl, refl, refl, refl, refl, refl, refl)

-- E7, E10 and E11 as moves, and E8 and E9 as refusals; a conflict of X's entry 1 alone has its place
abbrev slice7 : List ℕ
slice7 = 2 ∷ 65535 ∷ 25 ∷ 7 ∷ 3 ∷ 1 ∷ 9 ∷ 0 ∷ tail

abbrev slice10 : List ℕ
slice10 = 2 ∷ 65535 ∷ 26 ∷ 0 ∷ 2 ∷ 65535 ∷ 28 ∷ 0 ∷ 3 ∷ 1 ∷ 9 ∷ 0 ∷ tail

abbrev struck30 : List ℕ
struck30 = 2 ∷ 65534 ∷ 30 ∷ 0 ∷ []

pub move_call : (move_answer 2 K4 2 slice7 2 (0 ∷ 65534 ∷ 10 ∷ 0 ∷ 2 ∷ 65535 ∷ 22 ∷ 3 ∷ []) ≡ Ok 2)
    × (move_slice 2 K4 2 slice7 2 (0 ∷ 65534 ∷ 10 ∷ 0 ∷ 2 ∷ 65535 ∷ 22 ∷ 3 ∷ []) ≡ slice7)
    × (move_slice 2 K4 3 slice10 2 (1 ∷ 65534 ∷ 20 ∷ 0 ∷ 2 ∷ 65534 ∷ 30 ∷ 0 ∷ [])
    ≡ 1 ∷ 65535 ∷ 26 ∷ 0 ∷ 1 ∷ 65535 ∷ 28 ∷ 0 ∷ 1 ∷ 1 ∷ 9 ∷ 0 ∷ tail)
    × (move_slice 2 K4 1 struck30 1 (2 ∷ 65535 ∷ 25 ∷ 0 ∷ []) ≡ 3 ∷ 65534 ∷ 30 ∷ 0 ∷ [])
unfolding move_answer args_ok breaks_form form_place layer_of entries_at fit_place key conflict conflict_place row_of add_position flat
move_call = (refl, refl, refl, refl)

pub conflict_call : (move_answer 2 K4 1 struck30 1 (2 ∷ 1 ∷ 5 ∷ 0 ∷ []) ≡ Err (refusal InConflict 0))
    × (move_answer 2 K4 1 (2 ∷ 65535 ∷ 25 ∷ 7 ∷ []) 1 (2 ∷ 65535 ∷ 25 ∷ 7 ∷ []) ≡ Err (refusal InConflict 0))
    × (move_answer 2 K4 2 (2 ∷ 65535 ∷ 26 ∷ 0 ∷ struck30) 1 struck30 ≡ Err (refusal InConflict 1))
    × (move_answer 2 K4 1 (2 ∷ 1 ∷ 5 ∷ 0 ∷ []) 1 (2 ∷ 1 ∷ 6 ∷ 0 ∷ []) ≡ Err (refusal InConflict 0))
    × (move_answer 2 K4 1 struck30 1 (2 ∷ 2 ∷ 5 ∷ 0 ∷ []) ≡ Err (refusal BadForm 1000))
    × (move_answer 2 K4 1 struck30 1 (2 ∷ 65534 ∷ 40 ∷ 0 ∷ []) ≡ Err (refusal BadFit 1000))
    × (move_slice 2 K4 1 struck30 1 (2 ∷ 65534 ∷ 40 ∷ 0 ∷ []) ≡ struck30)
unfolding move_answer args_ok breaks_form form_place layer_of entries_at fit_place key conflict conflict_place row_of add_position flat
conflict_call = (refl, refl, refl, refl, refl, refl, refl)

-- one cell set to one value by both: each passes and stays, and combined they are one entry
pub same_value_call : (move_answer 2 K4 1 (2 ∷ 1 ∷ 5 ∷ 0 ∷ []) 1 (2 ∷ 1 ∷ 5 ∷ 0 ∷ []) ≡ Ok 1)
    × (move_slice 2 K4 1 (2 ∷ 1 ∷ 5 ∷ 0 ∷ []) 1 (2 ∷ 1 ∷ 5 ∷ 0 ∷ []) ≡ 2 ∷ 1 ∷ 5 ∷ 0 ∷ [])
    × (combine_answer 2 K4 1 (2 ∷ 1 ∷ 5 ∷ 0 ∷ []) 1 (2 ∷ 1 ∷ 5 ∷ 0 ∷ []) 4 ≡ Ok 1)
    × (combine_slice 2 K4 1 (2 ∷ 1 ∷ 5 ∷ 0 ∷ []) 1 (2 ∷ 1 ∷ 5 ∷ 0 ∷ []) (replicate 6 99) ≡ 2 ∷ 1 ∷ 5 ∷ 0 ∷ 99 ∷ 99 ∷ [])
unfolding move_answer combine_answer args_ok breaks_form form_place layer_of entries_at fit_place key conflict conflict_place row_of add_position flat put
    combine change_row_no change_base origins room
same_value_call = (refl, refl, refl, refl)

-- E12 as a combination into ten numbers; into seven it gives 9
pub e12_call : (combine_answer 2 K4 1 struck30 1 (2 ∷ 65535 ∷ 35 ∷ 0 ∷ []) 10 ≡ Ok 2)
    × (combine_slice 2 K4 1 struck30 1 (2 ∷ 65535 ∷ 35 ∷ 0 ∷ []) (replicate 10 99)
    ≡ 2 ∷ 65534 ∷ 30 ∷ 0 ∷ 3 ∷ 65535 ∷ 35 ∷ 0 ∷ 99 ∷ 99 ∷ [])
    × (combine_slice 2 K4 1 struck30 1 (2 ∷ 65535 ∷ 27 ∷ 0 ∷ []) (replicate 8 99)
    ≡ 2 ∷ 65535 ∷ 27 ∷ 0 ∷ 2 ∷ 65534 ∷ 30 ∷ 0 ∷ [])
    × (combine_answer 2 K4 1 struck30 1 (2 ∷ 65535 ∷ 35 ∷ 0 ∷ []) 7 ≡ Err (refusal NoRoom 0))
    × (combine_slice 2 K4 1 struck30 1 (2 ∷ 65535 ∷ 35 ∷ 0 ∷ []) nines ≡ nines)
unfolding combine_answer args_ok breaks_form form_place layer_of entries_at fit_place key combine add_row strike_row strike_base change_row_no change_base origins room flat
e12_call = (refl, refl, refl, refl, refl)

-- the checks alone: rows after E4, 0 where it fits; a falling position, a row total, falling keys, a wrong key
pub check_call : (form_answer 2 4 4 slice4 ≡ Ok 6) × (ready_answer 2 4 slice4 K4 ≡ Ok 6)
    × (fit_answer 2 4 slice4 K4 ≡ Ok 0)
    × (form_answer 2 4 4 (2 ∷ 65535 ∷ 25 ∷ 7 ∷ 1 ∷ 65535 ∷ 15 ∷ 7 ∷ slice4) ≡ Err (refusal BadForm 1))
    × (form_answer 2 4096 1 (2 ∷ 65535 ∷ 25 ∷ 7 ∷ []) ≡ Err (refusal BadForm 1))
    × (fit_answer 2 4 slice4 (10 ∷ 20 ∷ 30 ∷ 30 ∷ []) ≡ Err (refusal KeysUnordered 0))
    × (fit_answer 2 4 slice4 (10 ∷ 20 ∷ 31 ∷ 40 ∷ []) ≡ Err (refusal BadFit 2))
unfolding form_answer ready_answer fit_answer args_ok breaks_form form_place layer_of entries_at fit_place key
check_call = (refl, refl, refl, refl, refl, refl, refl)

-- the rules of conflict by their numbers: a struck row, one cell to two values, one key; and none, also for one cell to one value
pub rule_call : (rule_number (clash (at 2 (strike 30)) (at 2 (change 1 (to 5)))) ≡ 1)
    × (rule_number (clash (at 2 (change 1 (to 5))) (at 2 (change 1 (to 6)))) ≡ 2)
    × (rule_number (clash (at 2 (add (25 ∷ 7 ∷ []))) (at 2 (add (25 ∷ 7 ∷ [])))) ≡ 3)
    × (rule_number (clash (at 2 (strike 30)) (at 2 (add (25 ∷ 0 ∷ [])))) ≡ 0)
    × (rule_number (clash (at 2 (change 1 (to 5))) (at 2 (change 1 (to 5)))) ≡ 0)
    × (rule_number (clash (at 2 (change 1 (to 5))) (at 2 (change 2 (to 6)))) ≡ 0)
unfolding key
rule_call = (refl, refl, refl, refl, refl, refl)

-- where two lines are met the first answers: form before keys, fit before the row, the first layer before the second
abbrev bad_kind : List ℕ
bad_kind = 2 ∷ 2 ∷ 5 ∷ 0 ∷ []

abbrev bad_key : List ℕ
bad_key = 2 ∷ 65534 ∷ 40 ∷ 0 ∷ []

pub order_call : (fit_answer 2 1 bad_kind (10 ∷ 10 ∷ 10 ∷ []) ≡ Err (refusal BadForm 0))
    × (strike_answer 2 1 bad_key K4 9 ≡ Err (refusal BadFit 0))
    × (move_answer 2 K4 1 bad_kind 1 bad_kind ≡ Err (refusal BadForm 0))
    × (move_answer 2 K4 1 bad_key 1 bad_key ≡ Err (refusal BadFit 0))
unfolding fit_answer strike_answer move_answer args_ok breaks_form form_place layer_of entries_at fit_place key
order_call = (refl, refl, refl, refl)
