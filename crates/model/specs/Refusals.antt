-- Refusals as an ordered list of tests: the first that is met is the answer, else the call is done.
use Rattle.words.specs.declared.Cause.TheVariants.{BadArguments, BadForm, KeysUnordered, BadFit, NoSuchRow, NoRoom, TooManyRows}
use Rattle.std.specs.Prelude.{Bool, true, false, not, cond, ◌&&◌, ◌||◌, List, [], ◌∷◌, ℕ, ◌+◌, length, ltb, leb, eqb}
use Rattle.order.specs.Lists.{ascending, any}
use Rattle.words.specs.declared.Cause.{Cause}
use Rattle.words.specs.declared.Refusal.{Refusal}
use Rattle.words.specs.Answer.{refusal}
use Rattle.model.specs.Limits.{most_rows}
use Rattle.model.specs.Layer.{Layer, rows_after}
use Rattle.model.specs.Raw.{entries_of, layer_of, room}
use Rattle.model.specs.Form.{form_place}
use Rattle.model.specs.Fit.{fit_place}

-- refuse for this cause, at this place, where the test is met
pub data Test : Type 0 where
  refuse : Cause → ℕ → Bool → Test

module _ {A : Type 0} where
  -- the first refusal that is met, in the order of the list, else the result
  abbrev pub first_met : (Refusal → A) → List Test → A → A
  first_met refused [] result = result
  first_met refused (refuse cause place test ∷ tests) result =
      cond test (refused (refusal cause place)) (first_met refused tests result)

-- 1: the arguments pass their limits
abbrev pub bad_args : Bool → Test
bad_args ok = refuse BadArguments 0 (not ok)

-- 2: the layer breaks form, at the least entry that breaks a rule, or m for the row total; `more` is 1,000 for W or Y
unfoldable pub breaks_form : ℕ → ℕ → ℕ → List ℕ → Bool
breaks_form c n m raw = ltb (form_place c n (entries_of c m raw)) m || ltb most_rows (rows_after n (layer_of c m raw))

abbrev pub bad_form : ℕ → ℕ → ℕ → ℕ → List ℕ → Test
bad_form more c n m raw = refuse BadForm (more + form_place c n (entries_of c m raw)) (breaks_form c n m raw)

-- 3: the key column is not strictly ascending
abbrev pub bad_keys : List ℕ → Test
bad_keys K = refuse KeysUnordered 0 (not (ascending K))

-- 4: the layer breaks fit, at the least entry that does
abbrev pub bad_fit : ℕ → List ℕ → Layer → Test
bad_fit more K L = refuse BadFit (more + fit_place K L) (ltb (fit_place K L) (length L))

-- 5: the row number is not below the shown rows
abbrev pub bad_row : ℕ → Layer → ℕ → Test
bad_row n L r = refuse NoSuchRow 0 (leb (rows_after n L) r)

-- 9: the result needs more entries than the room of a slice of len numbers
abbrev pub no_room : ℕ → ℕ → Layer → Test
no_room c len L = refuse NoRoom 0 (ltb (room c len) (length L))

-- 10: the result passes 4,096 rows
abbrev pub too_many_rows : ℕ → Test
too_many_rows rows = refuse TooManyRows 0 (ltb most_rows rows)

-- k is one of the keys
abbrev pub shown_key : ℕ → List ℕ → Bool
shown_key k K = any (eqb k) K
