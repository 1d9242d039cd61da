-- The scope's example of a printed table, and one of a group given another number: antt computes what is printed, and the table
-- that the lines make.
-- Assumes nothing.
use mathlib.Core.Path.{◌≡◌, refl}
use mathlib.Core.List.{[], ◌∷◌}
use Rattle.model.specs.Row.{key}
use Rattle.model.specs.Cell.{put}
use Rattle.model.specs.Raw.{entries_at, layer_of, flat, room}
use Rattle.model.specs.Form.{form_place, args_ok}
use Rattle.model.specs.Fit.{fit_place}
use Rattle.model.specs.Position.{origins}
use Rattle.model.specs.Edits.{add_row, strike_base, strike_row, change_base, change_row_no, renumber_row}
use Rattle.model.specs.Refusals.{breaks_form}
use Rattle.model.specs.Calls.{form_answer, add_answer, strike_answer, change_answer, renumber_over}
use Rattle.decimal.specs.Number.{is_number}
use Rattle.line.specs.Line.{fields, line_of}
use Rattle.decimal.specs.Decimal.{digits_within, digits, decimal}
use Rattle.text.specs.Text.{message, row_text, table_text}
use Rattle.base.specs.Base.{rows_of}
use Rattle.hear.specs.Heard.{heard, after}
use Rattle.intake.specs.Reading.{bytes_in}
use Rattle.feed.specs.Input.{nothing_read, input_ends, lines_from, lines_of}
use Rattle.show.specs.Shown.{ending}
use Rattle.console.specs.Told.{
  table_in,
  closing,
  printed,
  zeros,
  example_input,
  example_output,
  renumber_input,
  renumber_output,
}

pub example_printed : printed example_input zeros ≡ example_output
unfolding key entries_at layer_of flat room form_place args_ok fit_place origins add_row strike_base strike_row breaks_form form_answer add_answer strike_answer is_number fields line_of digits_within digits decimal message row_text table_text heard after bytes_in input_ends rows_of ending closing printed
example_printed = refl

pub example_told : table_in (lines_of example_input) (nothing_read zeros) [] ≡ (15 ∷ 2 ∷ 4 ∷ []) ∷ (20 ∷ 1 ∷ 2 ∷ []) ∷ []
unfolding key entries_at layer_of flat room form_place args_ok fit_place origins add_row strike_base strike_row breaks_form add_answer strike_answer is_number fields line_of heard after lines_from table_in
example_told = refl

-- the row keeps its changed value, and a number that another row has is refused
pub renumber_printed : printed renumber_input zeros ≡ renumber_output
unfolding key put entries_at layer_of flat room form_place args_ok fit_place origins add_row strike_base strike_row change_base change_row_no renumber_row breaks_form form_answer change_answer renumber_over is_number fields line_of digits_within digits decimal message row_text table_text heard after bytes_in input_ends rows_of ending closing printed
renumber_printed = refl

pub renumber_told : table_in (lines_of renumber_input) (nothing_read zeros) [] ≡ (20 ∷ 1 ∷ 2 ∷ []) ∷ (30 ∷ 1 ∷ 7 ∷ []) ∷ []
unfolding key put entries_at layer_of flat room form_place args_ok fit_place origins add_row strike_base strike_row change_base change_row_no renumber_row breaks_form change_answer renumber_over is_number fields line_of heard after lines_from table_in rows_of
renumber_told = refl
