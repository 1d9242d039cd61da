-- E1 to E12 hold of the definitions: antt computes every line of the table.
-- Assumes nothing.
use mathlib.Core.Path.{◌≡◌, refl}
use mathlib.Core.Bool.{true}
use Rattle.order.specs.Lists.{all}
use Rattle.model.specs.Row.{key}
use Rattle.model.specs.Cell.{put}
use Rattle.model.specs.Raw.{flat}
use Rattle.model.specs.Form.{in_order}
use Rattle.model.specs.Fit.{fits, fit_place}
use Rattle.model.specs.Position.{shift, row_of, origins}
use Rattle.model.specs.Edits.{add_row, strike_base, change_base, strike_row, change_row_no, renumber_row}
use Rattle.model.specs.Redo.{combine}
use Rattle.model.specs.Conflict.{conflict, conflict_place}
use Rattle.model.specs.Move.{add_position}
use Rattle.model.specs.Examples.{examples, holds}

pub examples_hold : all holds examples ≡ true
unfolding examples key put flat in_order fits fit_place shift row_of origins add_row strike_base change_base strike_row change_row_no renumber_row combine conflict conflict_place add_position
examples_hold = refl
