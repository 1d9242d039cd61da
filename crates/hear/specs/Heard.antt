-- What a line does to the base table and the layer over it, and says.
use Rattle.words.specs.Answer.{Answer}
use Rattle.std.specs.Prelude.{◌≡◌, Option, Some, None, true, List, [], ◌∷◌, ℕ}
use Rattle.model.specs.Raw.{layer_of}
use Rattle.model.specs.Edits.{renumber_row}
use Rattle.model.specs.Calls.{
  edited,
  add_answer,
  added_layer,
  strike_answer,
  struck_layer,
  change_answer,
  changed_layer,
  renumber_over,
}
use Rattle.line.specs.declared.Line.{Line}
use Rattle.line.specs.declared.Line.TheVariants.{Base, Add, Strike, Change, Renumber}
use Rattle.text.specs.declared.Said.TheVariants.{Unread}
use Rattle.base.specs.declared.Counts.{Counts}
use Rattle.base.specs.declared.Reply.{Reply}
use Rattle.base.specs.Base.{Sheet, base_keys, base_table, stay, base_reply, base_taken, with_row}
use Rattle.reply.specs.Reply.{entered}

-- the answer of each edit
abbrev pub added : Counts → Sheet → List ℕ → Answer
added d x row = add_answer 3 d.entries x.layer (base_keys d x) row

abbrev pub struck : Counts → Sheet → ℕ → Answer
struck d x r = strike_answer 3 d.entries x.layer (base_keys d x) r

abbrev pub changed : Counts → Sheet → ℕ → ℕ → ℕ → Answer
changed d x r j v = change_answer 3 d.entries x.layer (base_keys d x) r j v

abbrev pub renumbered : Counts → Sheet → ℕ → ℕ → Answer
renumbered d x r g = renumber_over true 3 d.entries x.layer (base_table d x) r g

-- the reply to a line
unfoldable pub heard : Option Line → Counts → Sheet → Reply
heard (Some (Base g s m)) d x = base_reply g d x.keys
heard (Some (Add g s m)) d x = entered d (added d x (g ∷ s ∷ m ∷ []))
heard (Some (Strike r)) d x = entered d (struck d x r)
heard (Some (Change r j v)) d x = entered d (changed d x r j v)
heard (Some (Renumber r g)) d x = entered d (renumbered d x r g)
heard None d x = stay d Unread

-- the sheet with another layer
abbrev pub with_layer : Sheet → List ℕ → Sheet
with_layer x layer = record { keys = x.keys; sources = x.sources; masks = x.masks; layer = layer }

-- the lent numbers after a line
unfoldable pub after : Option Line → Counts → Sheet → Sheet
after (Some (Base g s m)) d x = with_row (base_taken g d x.keys) d.rows x g s m
after (Some (Add g s m)) d x =
    let row = g ∷ s ∷ m ∷ [] in
    let L = added_layer 3 d.entries x.layer (base_keys d x) row in
    with_layer x (edited 3 d.entries (added d x row) L x.layer)
after (Some (Strike r)) d x =
    let L = struck_layer 3 d.entries x.layer (base_keys d x) r in
    with_layer x (edited 3 d.entries (struck d x r) L x.layer)
after (Some (Change r j v)) d x =
    let L = changed_layer 3 d.entries x.layer (base_keys d x) r j v in
    with_layer x (edited 3 d.entries (changed d x r j v) L x.layer)
after (Some (Renumber r g)) d x =
    let L = renumber_row (base_table d x) r g (layer_of 3 d.entries x.layer) in
    with_layer x (edited 3 d.entries (renumbered d x r g) L x.layer)
after None d x = x

-- what is owed for a line: the reply, and the lent numbers afterwards
pub record Heard (l : Option Line) (d : Counts) (x : Sheet) (r : Reply) (x' : Sheet) : Type 0 where
  pub reply : r ≡ heard l d x
  pub sheet : x' ≡ after l d x
