-- A line heard, by what it says: a base row, an edit, or nothing that can be read.
-- Assumes nothing.
use mathlib.Core.Path.{◌≡◌, refl}
use mathlib.Core.Bool.{◌&&◌}
use mathlib.Core.List.{List, [], ◌∷◌}
use Prim.Native.Nat.{ℕ, ◌*◌, ◌≤◌}
use lib.ListN.{length, take}
use lib.Seq.{take-take}
use lib.Dec.{leb}
use Rattle.std.specs.Prelude.{Option, Some, None}
use Rattle.words.specs.Answer.{Answer}
use Rattle.model.specs.Row.{columnwise}
use Rattle.model.specs.Raw.{layer_of}
use Rattle.model.specs.Edits.{renumber_row}
use Rattle.model.specs.Calls.{
  edited,
  add_answer,
  add_slice,
  strike_answer,
  strike_slice,
  change_answer,
  change_slice,
  renumber_over,
}
use Rattle.line.specs.declared.Line.{Line}
use Rattle.line.specs.declared.Line.TheVariants.{Base, Add, Strike, Change, Renumber}
use Rattle.text.specs.declared.Said.{Said}
use Rattle.text.specs.declared.Said.TheVariants.{Unread}
use Rattle.base.specs.declared.Counts.{Counts}
use Rattle.base.specs.declared.desk.Desk.{Desk}
use Rattle.base.specs.Desk.{sheet_on, reply_on, Replied}
use Rattle.base.specs.declared.Reply.{Reply}
use Rattle.base.specs.Base.{Sheet, column_of, sheet_of, most_base, stay, Based}
use Rattle.reply.specs.Reply.{entered}
use Rattle.hear.specs.Heard.{heard, after, Heard}
use Rattle.hear.proofs.Rows.{lent_rows, lent_whole}

-- a line heard as what it says
pub heard_as : {l k : Option Line} {d : Counts} {x x' : Sheet} {r : Reply} → Heard k d x r x' → l ≡ k → Heard l d x r x'
heard_as h e = rw e h

-- a base row
pub heard_base : {g s m : ℕ} {d : Counts} {x x' : Sheet} {r : Reply} → Based g s m d x r x' → Heard (Some (Base g s m)) d x r x'
unfolding heard after
heard_base b = record { reply = b.reply; sheet = b.sheet }

-- a line that says nothing that can be read
pub heard_none : {s t : Desk} {said : Option Said} → Replied (stay s.counts Unread) s t said →
    Heard None s.counts (sheet_on s) (reply_on t said) (sheet_on t)
unfolding heard after
heard_none e = record { reply = e.reply; sheet = rw (e.table, e.layer) }

-- an edit line, by what its edit answered and left
module _ (d : Counts) (table layer layer' : List ℕ) (a : Answer) (r : Reply) (few : d.rows ≤ most_base)
    (told : r ≡ entered d a) where
  abbrev K : List ℕ
  K = take d.rows table

  keys : take d.rows (column_of 0 table) ≡ K
  keys = take-take d.rows most_base table few

  pub heard_add : (g s m : ℕ) → a ≡ add_answer 3 d.entries layer K (g ∷ s ∷ m ∷ []) →
      layer' ≡ add_slice 3 d.entries layer K (g ∷ s ∷ m ∷ []) →
      Heard (Some (Add g s m)) d (sheet_of table layer) r (sheet_of table layer')
  unfolding heard after
  heard_add g s m e w = record { reply = rw (keys, ← e) told; sheet = rw (keys, w) }

  pub heard_strike : (i : ℕ) → a ≡ strike_answer 3 d.entries layer K i →
      layer' ≡ strike_slice 3 d.entries layer K i →
      Heard (Some (Strike i)) d (sheet_of table layer) r (sheet_of table layer')
  unfolding heard after
  heard_strike i e w = record { reply = rw (keys, ← e) told; sheet = rw (keys, w) }

  pub heard_change : (i j v : ℕ) → a ≡ change_answer 3 d.entries layer K i j v →
      layer' ≡ change_slice 3 d.entries layer K i j v →
      Heard (Some (Change i j v)) d (sheet_of table layer) r (sheet_of table layer')
  unfolding heard after
  heard_change i j v e w = record { reply = rw (keys, ← e) told; sheet = rw (keys, w) }

  -- a renumbering is lent the whole table
  pub heard_renumber : (i g : ℕ) → length table ≡ 1536 →
      let T = columnwise 3 d.rows most_base table in
      let answer = renumber_over (leb d.rows most_base && leb (3 * most_base) (length table)) 3 d.entries layer T i g in
      a ≡ answer → layer' ≡ edited 3 d.entries answer (renumber_row T i g (layer_of 3 d.entries layer)) layer →
      Heard (Some (Renumber i g)) d (sheet_of table layer) r (sheet_of table layer')
  unfolding heard after
  heard_renumber i g size e w =
      let rows = lent_rows d.rows table few size in
      let whole = lent_whole d.rows table few size in
      let e' = rw (whole, rows) at e in
      let w' = rw (whole, rows) at w in
      record { reply = rw (← e') told; sheet = rw w' }
