-- Which table is printed after any lines, from the empty table and layer on: the one that the deeds of the lines that say
-- nothing make, one after the other.
-- Assumes nothing.
use mathlib.Core.Path.{◌≡◌, refl, sym, ap, ◌∙◌}
use mathlib.Core.Bool.{Bool, true, false, not, cond, ◌||◌}
use mathlib.Core.List.{List, [], ◌∷◌, ◌++◌}
use Prim.Native.Nat.{ℕ, ◌+◌, ◌<◌}
use native.Mathlib.Omega.{arith}
use lib.ListN.{length, take}
use lib.Dec.{leb}
use borrow.Author.Tests.{leb-false}
use Rattle.words.specs.declared.Cause.TheVariants.{KeysUnordered}
use Rattle.words.specs.Answer.{Answer}
use Rattle.std.specs.Prelude.{Option, Some, None, Ok, Err}
use Rattle.order.proofs.Tests.{or_false}
use Rattle.model.specs.Row.{Table}
use Rattle.model.specs.Cell.{to}
use Rattle.model.specs.Raw.{layer_of, entries_at}
use Rattle.model.specs.Read.{read}
use Rattle.model.specs.Steps.{Step as Wish, adding, striking, changing, renumbering, step_on, step_by}
use Rattle.model.specs.Calls.{edited}
use Rattle.theory.proofs.Steps.{empty_reads}
use Rattle.edit.specs.Runs.{step_answer}
use Rattle.edit.proofs.Laws.{edit_reads}
use Rattle.line.specs.declared.Line.{Line}
use Rattle.line.specs.declared.Line.TheVariants.{Base, Add, Strike, Change, Renumber}
use Rattle.line.specs.Line.{line_of}
use Rattle.text.specs.declared.Said.TheVariants.{Unread, Refused}
use Rattle.base.specs.declared.Counts.{Counts}
use Rattle.base.specs.Base.{Sheet, Roomy, most_base, rows_of, base_table, below_last, shut, stay, grown, with_row}
use Rattle.reply.specs.Reply.{entered}
use Rattle.hear.specs.Heard.{heard, with_layer, after}
use Rattle.intake.specs.Reading.{Reading, line_in}
use Rattle.feed.specs.Input.{at_start, nothing_read, lines_in, lines_of}
use Rattle.text.specs.Text.{header, table_text}
use Rattle.show.specs.Shown.{shown_table}
use Rattle.console.specs.Standing.{sheet_layer}
use Rattle.console.specs.Told.{deed_done, if_silent, table_in, closing, printed}
use Rattle.console.proofs.Lines.{input_heard}
use Rattle.console.proofs.Standing.{Kept, as_long, keys_are, base_lent, one_more, line_kept, start_kept}
use Rattle.console.proofs.Whole.{whole_table_printed}

-- three columns with a value more each are the rows with a row more
rows_more : (K S M : List ℕ) (g s m : ℕ) → length S ≡ length K → length M ≡ length K →
    rows_of (K ++ (g ∷ [])) (S ++ (s ∷ [])) (M ++ (m ∷ [])) ≡ rows_of K S M ++ ((g ∷ s ∷ m ∷ []) ∷ [])
unfolding rows_of
rows_more [] [] [] g s m e f = refl
rows_more [] (y ∷ S) M g s m e f = absurd (omega arith)
rows_more [] [] (z ∷ M) g s m e f = absurd (omega arith)
rows_more (k ∷ K) [] M g s m e f = absurd (omega arith)
rows_more (k ∷ K) (y ∷ S) [] g s m e f = absurd (omega arith)
rows_more (k ∷ K) (y ∷ S) (z ∷ M) g s m e f =
    ap (λ (T : Table). (k ∷ y ∷ z ∷ []) ∷ T) (rows_more K S M g s m (omega arith) (omega arith))

-- through no entry the base is shown
empty_shown : (T : Table) (m : ℕ) (raw : List ℕ) → m ≡ 0 → read T (layer_of 3 m raw) ≡ T
unfolding layer_of entries_at
empty_shown T m raw e = rw e (empty_reads T)

module _ {len : ℕ} {d : Counts} {x : Sheet} (k : Kept len d x) where
  -- what is shown after an edit that answered so
  abbrev EditShown : Wish → Answer → Type 0
  EditShown w a =
      let L = step_on (base_table d x) w (sheet_layer d x) in
      shown_table (entered d a).counts (with_layer x (edited 3 d.entries a L x.layer))
      ≡ if_silent (entered d a).said (step_by w (shown_table d x)) (shown_table d x)

  -- an edit line
  edit_shown : (w : Wish) → EditShown w (step_answer 3 d.entries x.layer (base_table d x) w)
  edit_shown w = go (step_answer 3 d.entries x.layer (base_table d x) w) refl
    where
      go : (a : Answer) → step_answer 3 d.entries x.layer (base_table d x) w ≡ a → EditShown w a
      go (Err q) e = refl
      go (Ok n) e = edit_reads 3 d.entries x.layer (base_table d x) w n (base_lent d x w) e

  -- a base row
  module _ (g s m : ℕ) where
    taken_shown : shut d ≡ false →
        shown_table (grown d).counts (with_row true d.rows x g s m) ≡ shown_table d x ++ ((g ∷ s ∷ m ∷ []) ∷ [])
    taken_shown o =
        let n = d.rows in
        let q = or_false d.edited (leb most_base n) o in
        let none = k.early q.0 in
        let below : n < most_base = leb-false most_base n q.1 in
        let R = k.roomy in
        let more : rows_of (take n x.keys ++ (g ∷ [])) (take n x.sources ++ (s ∷ [])) (take n x.masks ++ (m ∷ []))
        ≡ base_table d x ++ ((g ∷ s ∷ m ∷ []) ∷ []) =
        rows_more (take n x.keys) (take n x.sources) (take n x.masks) g s m
        (as_long d x R x.sources R.in_sources) (as_long d x R x.masks R.in_masks) in
        let groups = one_more x.keys n g R.in_keys below in
        let sources = one_more x.sources n s R.in_sources below in
        let masks = one_more x.masks n m R.in_masks below in
        empty_shown (base_table (grown d).counts (with_row true n x g s m)) d.entries x.layer none
        ∙ (rw (groups, sources, masks) more
        ∙ ap (λ (T : Table). T ++ ((g ∷ s ∷ m ∷ []) ∷ [])) (sym (empty_shown (base_table d x) d.entries x.layer none)))

    base_shown : (t u : Bool) → shut d ≡ t →
        shown_table (cond t (stay d Unread) (cond u (stay d (Refused KeysUnordered)) (grown d))).counts (with_row (not (t || u)) d.rows x g s m)
        ≡ if_silent (cond t (stay d Unread) (cond u (stay d (Refused KeysUnordered)) (grown d))).said
        (shown_table d x ++ ((g ∷ s ∷ m ∷ []) ∷ [])) (shown_table d x)
    base_shown true u e = refl
    base_shown false true e = refl
    base_shown false false e = taken_shown e

-- any line, and any lines
line_shown : (l : Option Line) {len : ℕ} {d : Counts} {x : Sheet} → Kept len d x →
    shown_table (heard l d x).counts (after l d x) ≡ if_silent (heard l d x).said (deed_done l (shown_table d x)) (shown_table d x)
unfolding heard after
line_shown (Some (Base g s m)) {d = d} {x = x} k = base_shown k g s m (shut d) (below_last g d.rows x.keys) refl
line_shown (Some (Add g s m)) {d = d} {x = x} k = rw (keys_are d x k.roomy) at (edit_shown k (adding (g ∷ s ∷ m ∷ [])))
line_shown (Some (Strike r)) {d = d} {x = x} k = rw (keys_are d x k.roomy) at (edit_shown k (striking r))
line_shown (Some (Change r j v)) {d = d} {x = x} k = rw (keys_are d x k.roomy) at (edit_shown k (changing r j (to v)))
line_shown (Some (Renumber r g)) k = edit_shown k (renumbering r g)
line_shown None k = refl

lines_shown : (ls : List (List ℕ)) {len : ℕ} (i : Reading) → Kept len i.counts i.sheet →
    shown_table (lines_in ls i).counts (lines_in ls i).sheet ≡ table_in ls i (shown_table i.counts i.sheet)
unfolding lines_in table_in
lines_shown [] i k = refl
lines_shown (l ∷ ls) i k =
    lines_shown ls (line_in l i) (line_kept (line_of l) k) ∙ ap (table_in ls (line_in l i)) (line_shown (line_of l) k)

-- Any lines, from the empty table and layer on.
module _ (x : Sheet) (R : Roomy at_start x) where
  pub table_told : (ls : List (List ℕ)) →
      shown_table (lines_in ls (nothing_read x)).counts (lines_in ls (nothing_read x)).sheet ≡ table_in ls (nothing_read x) []
  unfolding rows_of
  table_told ls =
      lines_shown ls (nothing_read x) (start_kept x R) ∙ ap (table_in ls (nothing_read x)) (empty_shown [] 0 x.layer refl)

  -- so all that is printed is what the lines say, the header, and that table, a line a row
  pub all_printed : (bs : List ℕ) →
      printed bs x
      ≡ (lines_in (lines_of bs) (nothing_read x)).text ++ (header ++ table_text 0 (table_in (lines_of bs) (nothing_read x) []))
  unfolding closing printed
  all_printed bs =
      let said = (lines_in (lines_of bs) (nothing_read x)).text in
      rw (input_heard bs at_start x []) (ap (λ (t : List ℕ). said ++ t) (whole_table_printed x R (lines_of bs)).text
      ∙ ap (λ (T : Table). said ++ (header ++ table_text 0 T)) (table_told (lines_of bs)))
