-- What a renumbering answers of a row that is shown: 7 if another row has the number, then 9, else the entries there
-- are then.
use Rattle.words.specs.declared.Cause.TheVariants.{KeyShown}
use Rattle.words.specs.Answer.{Answer}
use Rattle.std.specs.Prelude.{List, [], ◌∷◌, ℕ, ◌≤◌, ◌<◌, ◌*◌, ◌≡◌, length, take, Ok, Err}
use Rattle.order.specs.Lists.{without}
use Rattle.model.specs.Row.{Table, keys}
use Rattle.model.specs.Layer.{Layer, rows_after}
use Rattle.model.specs.Raw.{layer_of}
use Rattle.model.specs.Read.{keys_after}
use Rattle.model.specs.Edits.{renumber_row}
use Rattle.model.specs.Refusals.{refuse, first_met, no_room, shown_key}
use Rattle.fit.specs.Ready.{Ready}

abbrev pub renumber_rest : ℕ → ℕ → Table → Layer → ℕ → ℕ → Answer
renumber_rest c len T L r g =
    (let M = renumber_row T r g L in
    first_met Err (refuse KeyShown 0 (shown_key g (without r (keys_after (keys T) L))) ∷ no_room c len M ∷ [])
    (Ok (length M)))

-- what is asked: the layer is ready over the keys K, row r is shown, and the table in columns w apart begins with those
-- keys
pub record Asked (c w m : ℕ) (raw K table : List ℕ) (r : ℕ) : Type 0 where
  pub ready : Ready c m raw K
  pub shown : r < rows_after (length K) (layer_of c m raw)
  pub own : K ≡ take (length K) table
  pub apart : length K ≤ w
  pub whole : c * w ≤ length table
