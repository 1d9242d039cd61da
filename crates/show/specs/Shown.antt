-- The table that is printed at the end: the base rows read through the layer.
use Rattle.words.specs.Answer.{Answer}
use Rattle.std.specs.Prelude.{◌≡◌, List, [], ◌++◌, ℕ, Ok, Err}
use Rattle.model.specs.Row.{Table}
use Rattle.model.specs.Raw.{layer_of}
use Rattle.model.specs.Read.{read}
use Rattle.model.specs.Calls.{form_answer}
use Rattle.base.specs.declared.Counts.{Counts}
use Rattle.base.specs.Base.{Sheet, base_table}
use Rattle.text.specs.Text.{header, table_text}

-- the base table read through the layer
abbrev pub shown_table : Counts → Sheet → Table
shown_table d x = read (base_table d x) (layer_of 3 d.entries x.layer)

-- the rows, where the layer keeps form
abbrev pub if_formed : Answer → Table → Table
if_formed (Ok k) T = T
if_formed (Err x) T = []

-- a layer of m entries over n base rows keeps form and shows so many rows
abbrev pub Formed : ℕ → ℕ → ℕ → List ℕ → Type 0
Formed rows n m raw = form_answer 3 n m raw ≡ Ok rows

-- what is printed at the end
unfoldable pub ending : Counts → Sheet → List ℕ
ending d x = header ++ table_text 0 (if_formed (form_answer 3 d.rows d.entries x.layer) (shown_table d x))
