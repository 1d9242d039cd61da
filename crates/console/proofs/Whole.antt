-- What is printed after any lines, from the empty table and layer on: the whole table, and which table it is.
-- Assumes nothing.
use mathlib.Core.Path.{◌≡◌, sym, ap, ◌∙◌}
use mathlib.Core.List.{List, [], ◌++◌}
use Prim.Native.Nat.{ℕ, ◌+◌}
use lib.ListN.{length, take}
use lib.Dec.{leb}
use Rattle.words.specs.Answer.{Answer}
use Rattle.order.proofs.Tests.{and_l}
use Rattle.order.proofs.Ascending.{AscFrom, asc_of, of_asc}
use Rattle.model.specs.Row.{Table, key, keys}
use Rattle.model.specs.Layer.{Layer, rows_after}
use Rattle.model.specs.Form.{in_order}
use Rattle.theory.proofs.Fit.{Good, good_of, keys_length}
use Rattle.theory.proofs.Count.{read_length, read_ascends}
use Rattle.theory.proofs.Column.{Wide, read_wide}
use Rattle.read.proofs.Answers.{enough}
use Rattle.fit.proofs.Answers.{fitted}
use Rattle.base.specs.declared.Counts.{Counts}
use Rattle.base.specs.Base.{Sheet, base_keys, base_table, Roomy}
use Rattle.intake.specs.Reading.{bytes_in}
use Rattle.feed.specs.Input.{at_start, nothing_read, input_ends, lines_in, lines_of}
use Rattle.text.specs.Text.{header, table_text}
use Rattle.show.specs.Shown.{shown_table, ending, if_formed, Formed}
use Rattle.console.specs.Standing.{sheet_layer, Standing, WholeTable}
use Rattle.show.proofs.Printed.{ReadColumns, read_columns, rows_wide}
use Rattle.console.proofs.Lines.{input_heard}
use Rattle.console.proofs.Standing.{sized, as_long, keys_are, always_good}

-- Where base rows and layer are as they are to be, the whole table is printed.
module _ (d : Counts) (x : Sheet) (s : Standing d x) where
  abbrev T : Table
  T = base_table d x

  abbrev L : Layer
  L = sheet_layer d x

  C : ReadColumns (take d.rows x.keys) (take d.rows x.sources) (take d.rows x.masks) L
  C =
      read_columns (take d.rows x.keys) (take d.rows x.sources) (take d.rows x.masks) L
      (as_long d x s.roomy x.sources s.roomy.in_sources) (as_long d x s.roomy x.masks s.roomy.in_masks)

  wide : Wide 3 T
  wide = rows_wide (take d.rows x.keys) (take d.rows x.sources) (take d.rows x.masks)

  base_rows : length T ≡ d.rows
  base_rows = sym (keys_length T) ∙ (ap length (keys_are d x s.roomy) ∙ sized d x s.roomy x.keys s.roomy.in_keys)

  asc : AscFrom key 0 T
  asc = asc_of key T (rw (keys_are d x s.roomy) s.rising)

  good : Good 3 T L
  good = good_of 3 T L asc (rw base_rows (and_l (in_order 3 d.rows L) (leb (rows_after d.rows L) 4096) s.form))
      (rw (keys_are d x s.roomy) s.fit)

  rows : length (shown_table d x) ≡ rows_after d.rows L
  rows = read_length T L good.fit ∙ ap (λ (n : ℕ). rows_after n L) base_rows

  form_done : Formed (length (shown_table d x)) d.rows d.entries x.layer
  form_done =
      let R = fitted 3 d.entries x.layer (base_keys d x) 0 s.accepted in
      rw (sized d x s.roomy x.keys s.roomy.in_keys, ← rows) at R.form

  whole_table : WholeTable d x
  unfolding key ending
  whole_table = record {
    text = ap (λ (a : Answer). header ++ table_text 0 (if_formed a (shown_table d x))) form_done;
    formed = form_done;
    readable = λ j len base h e r. sym (enough 3 d.entries x.layer base j len (length (shown_table d x)) h (rw e form_done) r);
    three = read_wide 3 T L wide good;
    rising = of_asc key (shown_table d x) (read_ascends T L asc good.fit);
    groups = C.zeroth;
    sources = C.first;
    masks = C.second;
  }

-- Any lines, from the empty table and layer on.
module _ (x : Sheet) (R : Roomy at_start x) where
  pub whole_table_printed : (ls : List (List ℕ)) →
      WholeTable (lines_in ls (nothing_read x)).counts (lines_in ls (nothing_read x)).sheet
  whole_table_printed ls =
      whole_table (lines_in ls (nothing_read x)).counts (lines_in ls (nothing_read x)).sheet (always_good x R ls)

  -- any bytes, taken as the program takes them
  pub input_printed : (bs : List ℕ) →
      WholeTable (input_ends (bytes_in bs (nothing_read x))).counts (input_ends (bytes_in bs (nothing_read x))).sheet
  input_printed bs = rw (input_heard bs at_start x []) (whole_table_printed (lines_of bs))
