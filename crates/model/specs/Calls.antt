-- The calls: each answer is the rows of the refusal table, one after the other, then the result; and what each lent slice holds afterwards.
use Rattle.words.specs.declared.Cause.TheVariants.{KeyColumn, KeyShown, InConflict, ShortBuffer}
use Rattle.words.specs.Answer.{Answer, Back, Shifted}
use Rattle.std.specs.Prelude.{Bool, ◌&&◌, List, [], ◌∷◌, ◌++◌, ℕ, ◌+◌, ◌-◌, ◌*◌, max, length, take, drop, replicate, leb, ltb, eqb, Ok, Err}
use Rattle.order.specs.Lists.{without}
use Rattle.model.specs.Row.{Row, Table, key, keys, columnwise}
use Rattle.model.specs.Cell.{CellEdit, to}
use Rattle.model.specs.Layer.{Layer, rows_after}
use Rattle.model.specs.Raw.{layer_of, flat}
use Rattle.model.specs.Form.{args_ok}
use Rattle.model.specs.Read.{read_column, keys_after, Part, whole_base, buffer_front, empty_base, viewed}
use Rattle.model.specs.Position.{shift, row_of, back}
use Rattle.model.specs.Edits.{add_row, strike_row, change_row_no, renumber_row}
use Rattle.model.specs.Redo.{combine}
use Rattle.model.specs.Conflict.{conflict, conflict_place}
use Rattle.model.specs.Move.{move}
use Rattle.model.specs.Refusals.{
  Test,
  refuse,
  first_met,
  bad_args,
  bad_form,
  bad_keys,
  bad_fit,
  bad_row,
  no_room,
  too_many_rows,
  shown_key,
}

-- a slice after a call that writes to its front: the new numbers, then what stood there before; after a refusal, what it was
abbrev pub written : Answer → List ℕ → List ℕ → List ℕ
written (Ok k) new old = new ++ drop (length new) old
written (Err x) new old = old

-- a layer's slice after an edit: the new layer, zeros where entries were freed, then what stood there before
abbrev pub edited : ℕ → ℕ → Answer → Layer → List ℕ → List ℕ
edited c m (Ok k) L old =
    flat c L ++ (replicate ((m - length L) * (c + 2)) 0 ++ drop (max m (length L) * (c + 2)) old)
edited c m (Err x) L old = old

-- The rows of the refusal table that calls share: 1 and 2 of a layer over n rows, where `ok` says that the arguments pass; 3 and 4.
abbrev pub form_rows : Bool → ℕ → ℕ → ℕ → List ℕ → List Test
form_rows ok c n m raw = bad_args ok ∷ bad_form 0 c n m raw ∷ []

abbrev pub fit_rows : List ℕ → Layer → List Test
fit_rows K L = bad_keys K ∷ bad_fit 0 K L ∷ []

-- the same of two layers, the first over n rows with the keys K, the second over p rows with the keys N
abbrev pub both_form_rows : Bool → ℕ → ℕ → ℕ → List ℕ → ℕ → ℕ → List ℕ → List Test
both_form_rows ok c n m raw p k other = bad_args ok ∷ bad_form 0 c n m raw ∷ bad_form 1000 c p k other ∷ []

abbrev pub both_fit_rows : List ℕ → Layer → List ℕ → Layer → List Test
both_fit_rows K L N M = bad_keys K ∷ bad_fit 0 K L ∷ bad_fit 1000 N M ∷ []

-- the check behind every call: arguments and form; the result is the number of rows after the layer
unfoldable pub form_answer : ℕ → ℕ → ℕ → List ℕ → Answer
form_answer c n m raw =
    first_met Err (form_rows (args_ok c n m (length raw)) c n m raw) (Ok (rows_after n (layer_of c m raw)))

-- the check behind every edit: fit besides; the result is the same
unfoldable pub ready_answer : ℕ → ℕ → List ℕ → List ℕ → Answer
ready_answer c m raw K =
    let n = length K in
    let L = layer_of c m raw in
    first_met Err (form_rows (args_ok c n m (length raw)) c n m raw ++ fit_rows K L) (Ok (rows_after n L))

-- fit
unfoldable pub fit_answer : ℕ → ℕ → List ℕ → List ℕ → Answer
fit_answer c m raw K =
    let n = length K in
    first_met Err (form_rows (args_ok c n m (length raw)) c n m raw ++ fit_rows K (layer_of c m raw)) (Ok 0)

-- read column j, from the base column xs, into a buffer of len numbers
abbrev pub shown_column : ℕ → ℕ → List ℕ → List ℕ → ℕ → List ℕ
shown_column c m raw xs j = read_column j xs (layer_of c m raw)

unfoldable pub read_answer : ℕ → ℕ → List ℕ → List ℕ → ℕ → ℕ → Answer
read_answer c m raw xs j len =
    let n = length xs in
    let shown = shown_column c m raw xs j in
    first_met Err (form_rows (args_ok c n m (length raw) && ltb j c) c n m raw
    ++ (refuse ShortBuffer 0 (ltb len (length shown)) ∷ [])) (Ok (length shown))

abbrev pub read_slice : ℕ → ℕ → List ℕ → List ℕ → ℕ → List ℕ → List ℕ
read_slice c m raw xs j out = written (read_answer c m raw xs j (length out)) (shown_column c m raw xs j) out

-- what the viewer gets after the read, and the numbers of that part
abbrev pub seen : Answer → ℕ → Layer → Part
seen (Ok rows) j L = viewed j L rows
seen (Err x) j L = empty_base

unfoldable pub view_part : ℕ → ℕ → List ℕ → List ℕ → ℕ → ℕ → Part
view_part c m raw xs j len = seen (read_answer c m raw xs j len) j (layer_of c m raw)

abbrev pub part_numbers : List ℕ → List ℕ → Part → List ℕ
part_numbers xs out whole_base = xs
part_numbers xs out (buffer_front rows) = take rows out
part_numbers xs out empty_base = []

-- shift, row number and back
unfoldable pub shift_answer : ℕ → ℕ → ℕ → List ℕ → ℕ → Shifted
shift_answer c n m raw s =
    first_met Err (form_rows (args_ok c n m (length raw) && leb s n) c n m raw)
    (Ok (shift (layer_of c m raw) s))

unfoldable pub row_answer : ℕ → ℕ → ℕ → List ℕ → ℕ → Answer
row_answer c n m raw s =
    first_met Err (form_rows (args_ok c n m (length raw) && leb s n) c n m raw) (Ok (row_of (layer_of c m raw) s))

unfoldable pub back_answer : ℕ → ℕ → ℕ → List ℕ → ℕ → Back
back_answer c n m raw r =
    let L = layer_of c m raw in
    first_met Err (form_rows (args_ok c n m (length raw)) c n m raw ++ (bad_row n L r ∷ []))
    (Ok (back n L r))

-- add a row
abbrev pub added_layer : ℕ → ℕ → List ℕ → List ℕ → Row → Layer
added_layer c m raw K row = add_row K row (layer_of c m raw)

abbrev pub add_rows : ℕ → ℕ → List ℕ → Layer → Row → List Test
add_rows c len K L row =
    let M = add_row K row L in
    refuse KeyShown 0 (shown_key (key row) (keys_after K L)) ∷ no_room c len M ∷ too_many_rows (rows_after (length K) M) ∷ []

unfoldable pub add_answer : ℕ → ℕ → List ℕ → List ℕ → Row → Answer
add_answer c m raw K row =
    let n = length K in
    let L = layer_of c m raw in
    first_met Err (form_rows (args_ok c n m (length raw) && eqb (length row) c) c n m raw
    ++ (fit_rows K L ++ add_rows c (length raw) K L row)) (Ok (length (added_layer c m raw K row)))

abbrev pub add_slice : ℕ → ℕ → List ℕ → List ℕ → Row → List ℕ
add_slice c m raw K row = edited c m (add_answer c m raw K row) (added_layer c m raw K row) raw

-- strike row number r
abbrev pub struck_layer : ℕ → ℕ → List ℕ → List ℕ → ℕ → Layer
struck_layer c m raw K r = strike_row K r (layer_of c m raw)

abbrev pub strike_rows : ℕ → ℕ → List ℕ → Layer → ℕ → List Test
strike_rows c len K L r = bad_row (length K) L r ∷ no_room c len (strike_row K r L) ∷ []

unfoldable pub strike_answer : ℕ → ℕ → List ℕ → List ℕ → ℕ → Answer
strike_answer c m raw K r =
    let n = length K in
    let L = layer_of c m raw in
    first_met Err (form_rows (args_ok c n m (length raw)) c n m raw ++ (fit_rows K L ++ strike_rows c (length raw) K L r))
    (Ok (length (struck_layer c m raw K r)))

abbrev pub strike_slice : ℕ → ℕ → List ℕ → List ℕ → ℕ → List ℕ
strike_slice c m raw K r = edited c m (strike_answer c m raw K r) (struck_layer c m raw K r) raw

-- change column j of row number r to v
abbrev pub changed_layer : ℕ → ℕ → List ℕ → List ℕ → ℕ → ℕ → ℕ → Layer
changed_layer c m raw K r j v = change_row_no K r j (to v) (layer_of c m raw)

abbrev pub change_rows : ℕ → ℕ → List ℕ → Layer → ℕ → ℕ → CellEdit → List Test
change_rows c len K L r j e =
    bad_row (length K) L r ∷ refuse KeyColumn 0 (eqb j 0) ∷ no_room c len (change_row_no K r j e L) ∷ []

unfoldable pub change_answer : ℕ → ℕ → List ℕ → List ℕ → ℕ → ℕ → ℕ → Answer
change_answer c m raw K r j v =
    let n = length K in
    let L = layer_of c m raw in
    first_met Err (form_rows (args_ok c n m (length raw) && ltb j c) c n m raw
    ++ (fit_rows K L ++ change_rows c (length raw) K L r j (to v))) (Ok (length (changed_layer c m raw K r j v)))

abbrev pub change_slice : ℕ → ℕ → List ℕ → List ℕ → ℕ → ℕ → ℕ → List ℕ
change_slice c m raw K r j v = edited c m (change_answer c m raw K r j v) (changed_layer c m raw K r j v) raw

-- renumber row number r to g, over a table that `ok` says is lent whole
abbrev pub renumber_rows : ℕ → ℕ → Table → Layer → ℕ → ℕ → List Test
renumber_rows c len T L r g =
    let K = keys T in
    bad_row (length K) L r ∷ refuse KeyShown 0 (shown_key g (without r (keys_after K L))) ∷ no_room c len (renumber_row T r g L) ∷ []

unfoldable pub renumber_over : Bool → ℕ → ℕ → List ℕ → Table → ℕ → ℕ → Answer
renumber_over ok c m raw T r g =
    let K = keys T in
    let n = length K in
    let L = layer_of c m raw in
    first_met Err (form_rows (args_ok c n m (length raw) && ok) c n m raw
    ++ (fit_rows K L ++ renumber_rows c (length raw) T L r g)) (Ok (length (renumber_row T r g L)))

-- the table of n rows lies in the slice `table`, its columns end to end: c·n numbers at least
abbrev pub renumbered_layer : ℕ → ℕ → ℕ → List ℕ → List ℕ → ℕ → ℕ → Layer
renumbered_layer c n m raw table r g = renumber_row (columnwise c n n table) r g (layer_of c m raw)

abbrev pub renumber_answer : ℕ → ℕ → ℕ → List ℕ → List ℕ → ℕ → ℕ → Answer
renumber_answer c n m raw table r g = renumber_over (leb (c * n) (length table)) c m raw (columnwise c n n table) r g

abbrev pub renumber_slice : ℕ → ℕ → ℕ → List ℕ → List ℕ → ℕ → ℕ → List ℕ
renumber_slice c n m raw table r g =
    edited c m (renumber_answer c n m raw table r g) (renumbered_layer c n m raw table r g) raw

-- combine the lower layer R and the upper W into a buffer of len numbers
abbrev pub combined_layer : ℕ → List ℕ → ℕ → List ℕ → ℕ → List ℕ → Layer
combined_layer c K mR rawR mW rawW = combine K (layer_of c mR rawR) (layer_of c mW rawW)

abbrev pub combine_rows : ℕ → ℕ → List ℕ → Layer → Layer → List Test
combine_rows c len K R W =
    let M = combine K R W in
    no_room c len M ∷ too_many_rows (rows_after (length K) M) ∷ []

unfoldable pub combine_answer : ℕ → List ℕ → ℕ → List ℕ → ℕ → List ℕ → ℕ → Answer
combine_answer c K mR rawR mW rawW len =
    let n = length K in
    let R = layer_of c mR rawR in
    let W = layer_of c mW rawW in
    first_met Err (both_form_rows (args_ok c n mR (length rawR) && args_ok c n mW (length rawW)) c n mR rawR
    (rows_after n R) mW rawW
    ++ (both_fit_rows K R (keys_after K R) W ++ combine_rows c len K R W))
    (Ok (length (combined_layer c K mR rawR mW rawW)))

abbrev pub combine_slice : ℕ → List ℕ → ℕ → List ℕ → ℕ → List ℕ → List ℕ → List ℕ
combine_slice c K mR rawR mW rawW out =
    written (combine_answer c K mR rawR mW rawW (length out)) (flat c (combined_layer c K mR rawR mW rawW)) out

-- move X past Y
abbrev pub moved_layer : ℕ → ℕ → List ℕ → ℕ → List ℕ → Layer
moved_layer c mX rawX mY rawY = move (layer_of c mX rawX) (layer_of c mY rawY)

abbrev pub move_rows : ℕ → Layer → Layer → List Test
move_rows n X Y = refuse InConflict (conflict_place X Y) (conflict X Y) ∷ too_many_rows (rows_after (rows_after n Y) X) ∷ []

unfoldable pub move_answer : ℕ → List ℕ → ℕ → List ℕ → ℕ → List ℕ → Answer
move_answer c K mX rawX mY rawY =
    let n = length K in
    let X = layer_of c mX rawX in
    let Y = layer_of c mY rawY in
    first_met Err (both_form_rows (args_ok c n mX (length rawX) && args_ok c n mY (length rawY)) c n mX rawX n mY rawY
    ++ (both_fit_rows K X K Y ++ move_rows n X Y)) (Ok mX)

abbrev pub move_slice : ℕ → List ℕ → ℕ → List ℕ → ℕ → List ℕ → List ℕ
move_slice c K mX rawX mY rawY = written (move_answer c K mX rawX mY rawY) (flat c (moved_layer c mX rawX mY rawY)) rawX
