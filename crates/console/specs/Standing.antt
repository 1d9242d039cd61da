-- What stands after any lines, from the empty table and layer on, and what is then printed.
use Rattle.std.specs.Prelude.{◌≡◌, true, ℕ, ◌≤◌, ◌<◌, length, take, Ok}
use mathlib.Core.List.{List, ◌++◌, Memᴰ as Mem}
use Rattle.order.specs.Lists.{ascending}
use Rattle.model.specs.Row.{Row, column}
use Rattle.model.specs.Layer.{Layer}
use Rattle.model.specs.Raw.{layer_of, room}
use Rattle.model.specs.Form.{keeps_form}
use Rattle.model.specs.Fit.{fits}
use Rattle.model.specs.Read.{read_column}
use Rattle.model.specs.Calls.{fit_answer, read_answer}
use Rattle.base.specs.declared.Counts.{Counts}
use Rattle.base.specs.Base.{Sheet, base_keys, Roomy}
use Rattle.text.specs.Text.{header, table_text}
use Rattle.show.specs.Shown.{Formed, shown_table, ending}

-- the layer that stands
abbrev pub sheet_layer : Counts → Sheet → Layer
sheet_layer d x = layer_of 3 d.entries x.layer

-- base rows and layer are as they are to be
pub record Standing (d : Counts) (x : Sheet) : Type 0 where
  -- at most 512 base rows, with room for 512; their keys strictly ascend
  pub roomy : Roomy d x
  pub rising : ascending (base_keys d x) ≡ true
  -- the layer has at most its room of entries, keeps form over the base rows, and fits their keys
  pub held : d.entries ≤ room 3 (length x.layer)
  pub form : keeps_form 3 d.rows (sheet_layer d x) ≡ true
  pub fit : fits (base_keys d x) (sheet_layer d x) ≡ true
  -- so the fit check accepts its slice: an edit is refused for its own wish alone
  pub accepted : fit_answer 3 d.entries x.layer (base_keys d x) ≡ Ok 0

-- what is printed is the whole table
pub record WholeTable (d : Counts) (x : Sheet) : Type 0 where
  -- the header, and one line for each row of the base table read through the layer
  pub text : ending d x ≡ header ++ table_text 0 (shown_table d x)
  -- the form check counts those rows, and reading a column to a buffer that holds them is not refused
  pub formed : Formed (length (shown_table d x)) d.rows d.entries x.layer
  pub readable : (j len : ℕ) (base : List ℕ) → j < 3 → length base ≡ d.rows → length (shown_table d x) ≤ len →
      read_answer 3 d.entries x.layer base j len ≡ Ok (length (shown_table d x))
  -- every row has three values, and the groups strictly ascend
  pub three : (r : Row) → Mem r (shown_table d x) → length r ≡ 3
  pub rising : ascending (column 0 (shown_table d x)) ≡ true
  -- the values are those of the three columns read one by one
  pub groups : column 0 (shown_table d x) ≡ read_column 0 (take d.rows x.keys) (sheet_layer d x)
  pub sources : column 1 (shown_table d x) ≡ read_column 1 (take d.rows x.sources) (sheet_layer d x)
  pub masks : column 2 (shown_table d x) ≡ read_column 2 (take d.rows x.masks) (sheet_layer d x)
