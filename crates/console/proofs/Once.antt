-- Any two outcomes that the contract of a writing function of the printing program's crates allows are equal: the answer,
-- the lent numbers and the text, and of the line's buffer what is kept.
-- `Post` is the contract as the function is proved to meet it; κs are its lifetimes, a its arguments, s what is lent at its end.
-- Assumes nothing.
use mathlib.Core.Path.{◌≡◌, sym, ap, ◌∙◌}
use mathlib.Core.List.{List, [], ◌++◌}
use Prim.Native.Nat.{ℕ, ◌≤◌}
use native.Mathlib.Omega.{arith}
use native.Mathlib.Nat.{zero-add}
use lib.ListN.{length, take, drop, length-drop, take-append-drop}
use lib.Seq.{take_all, take-length, drop-drop, length-take-le}
use contract.Lifetimes.{Lfts}
use denote.Triple.Clauses.{AtExit}
use borrow.Fn.Kinds.{Dens, ended_of}
use Rattle.std.specs.Prelude.{⊤, Option}
use Rattle.intake.specs.declared.Reader.{Reader}
use Rattle.text.specs.Text.{Wrote, text_room}
use Rattle.text.specs.declared.Said.{Said}
use Rattle.base.specs.declared.desk.Desk.{Desk}
use Rattle.base.specs.Desk.{sheet_on, reply_on, Replied}
use Rattle.base.specs.declared.Reply.{Reply}
use Rattle.base.specs.Base.{Sheet, most_base, column_of, sheet_of}
use Rattle.intake.specs.Reading.{Reading, most_kept}
use Rattle.intake.specs.Reader.{reading_of, InFront, Writes, Spacious, Ended}
use Rattle.feed.specs.Input.{anew, Closed}
use Rattle.text.proofs.put_bytes.Kinds as bytes_kinds
use Rattle.text.proofs.put_bytes.Reads as bytes_contract
use Rattle.text.proofs.say.Kinds as say_kinds
use Rattle.text.proofs.say.Reads as say_contract
use Rattle.text.proofs.put_rows.Kinds as rows_kinds
use Rattle.text.proofs.put_rows.Reads as rows_contract
use Rattle.base.proofs.stay.Kinds as stay_kinds
use Rattle.base.proofs.stay.Reads as stay_contract
use Rattle.base.proofs.base_row.Kinds as base_kinds
use Rattle.base.proofs.base_row.Reads as base_contract
use Rattle.reply.proofs.entered_on.Kinds as entered_kinds
use Rattle.reply.proofs.entered_on.Reads as entered_contract
use Rattle.hear.proofs.hear.Kinds as hear_kinds
use Rattle.hear.proofs.hear.Reads as hear_contract
use Rattle.intake.proofs.Reader.take_byte.Kinds as byte_kinds
use Rattle.intake.proofs.Reader.take_byte.Reads as byte_contract
use Rattle.intake.proofs.Reader.end_line.Kinds as line_kinds
use Rattle.intake.proofs.Reader.end_line.Reads as line_contract
use Rattle.feed.proofs.take_block.Kinds as block_kinds
use Rattle.feed.proofs.take_block.Reads as block_contract
use Rattle.feed.proofs.end_input.Kinds as end_kinds
use Rattle.feed.proofs.end_input.Reads as end_contract
use Rattle.show.proofs.finish.Kinds as finish_kinds
use Rattle.show.proofs.finish.Reads as finish_contract

-- bytes written
wrote_once : {ys old new new' : List ℕ} {o r r' : ℕ} → Wrote ys old o r new → Wrote ys old o r' new' → (r ≡ r') × (new ≡ new')
wrote_once a b = (a.end ∙ sym b.end, a.bytes ∙ sym b.bytes)

-- what stands in front in a buffer is written there
wrote_front : (out : List ℕ) (o : ℕ) → o ≤ length out → Wrote (take o out) out 0 o out
wrote_front out o h =
    let n = length-take-le o out h in
    record {
      end = omega (arith, n);
      bytes = rw (take-length (take o out), n, zero-add o) (sym (take-append-drop o out));
    }

-- a table of 1,536 numbers and a layer are known by their sheet
three_parts : (t : List ℕ) → length t ≡ 1536 → column_of 0 t ++ (column_of 1 t ++ column_of 2 t) ≡ t
three_parts t h =
    let e : take most_base (drop 1024 t) ≡ drop 512 (drop 512 t) =
    take_all most_base (drop 1024 t) (omega (arith, length-drop 1024 t)) ∙ sym (drop-drop 512 512 t) in
    rw (e, take-append-drop 512 (drop 512 t)) (take-append-drop 512 t)

sheet_once : (t u K L : List ℕ) → length t ≡ 1536 → length u ≡ 1536 → sheet_of t K ≡ sheet_of u L → (t ≡ u) × (K ≡ L)
sheet_once t u K L h i e = (
  sym (three_parts t h)
      ∙ (ap (λ (x : Sheet). x.keys ++ (x.sources ++ x.masks)) e ∙ three_parts u i),
  ap (λ (x : Sheet). x.layer) e,
)

-- the arrays have their types' lengths, which no contract says
pub record Arrays (s : Reader) : Type 0 where
  pub in_table : length s.desk.table ≡ 1536
  pub in_line : length s.line ≡ most_kept

-- the counts, the table, the layer and the text, and of the line's buffer what is kept
pub record SameReader (s t : Reader) : Type 0 where
  pub counts : s.desk.counts ≡ t.desk.counts
  pub table : s.desk.table ≡ t.desk.table
  pub layer : s.desk.layer ≡ t.desk.layer
  pub kept : s.kept ≡ t.kept
  pub begun : take s.kept s.line ≡ take t.kept t.line
  pub at : s.at ≡ t.at
  pub text : s.out ≡ t.out

module _ {s t : Reader} {old : List ℕ} (h : Arrays s) (h' : Arrays t) (e : reading_of s ≡ reading_of t)
    (w : InFront old s) (w' : InFront old t) where
  same_line : take s.kept s.line ≡ take t.kept t.line
  same_line = ap (λ (i : Reading). i.line) e

  same_kept : s.kept ≡ t.kept
  same_kept =
      sym (length-take-le s.kept s.line (omega (arith, h.in_line, s.short)))
      ∙ (ap length same_line ∙ length-take-le t.kept t.line (omega (arith, h'.in_line, t.short)))

  same_text : (s.at ≡ t.at) × (s.out ≡ t.out)
  same_text =
      let z : take s.at s.out ≡ take t.at t.out = ap (λ (i : Reading). i.text) e in
      wrote_once (rw z at w) w'

  reading_once : SameReader s t
  reading_once =
      let x = sheet_once s.desk.table t.desk.table s.desk.layer t.desk.layer h.in_table h'.in_table (ap (λ (i : Reading). i.sheet) e) in
      record {
        counts = ap (λ (i : Reading). i.counts) e;
        table = x.0;
        layer = x.1;
        kept = same_kept;
        begun = same_line;
        at = same_text.0;
        text = same_text.1;
      }

-- `text`: all of the buffer is known
module _ (κs : Lfts 2) (a : Dens κs bytes_kinds.ps) (s s' : AtExit (ended_of 2 bytes_kinds.ps bytes_kinds.r) κs) where
  pub put_bytes_unique : (r r' : ℕ) → bytes_contract.Post κs a r s → bytes_contract.Post κs a r' s' →
      (r ≡ r') × (s.1.0.now ≡ s'.1.0.now)
  put_bytes_unique r r' p q = wrote_once p q

module _ (κs : Lfts 1) (a : Dens κs say_kinds.ps) (s s' : AtExit (ended_of 1 say_kinds.ps say_kinds.r) κs) where
  pub say_unique : (r r' : ℕ) → say_contract.Post κs a r s → say_contract.Post κs a r' s' →
      (r ≡ r') × (s.1.1.0.now ≡ s'.1.1.0.now)
  say_unique r r' p q = wrote_once p.0 q.0

module _ (κs : Lfts 2) (a : Dens κs rows_kinds.ps) (s s' : AtExit (ended_of 2 rows_kinds.ps rows_kinds.r) κs) where
  pub put_rows_unique : (r r' : ℕ) → rows_contract.Post κs a r s → rows_contract.Post κs a r' s' →
      (r ≡ r') × (s.1.1.0.now ≡ s'.1.1.0.now)
  put_rows_unique r r' p q = wrote_once p q

-- `show`: likewise
module _ (κs : Lfts 2) (a : Dens κs finish_kinds.ps) (s s' : AtExit (ended_of 2 finish_kinds.ps finish_kinds.r) κs) where
  pub finish_unique : (r r' : ℕ) → finish_contract.Post κs a r s → finish_contract.Post κs a r' s' →
      (r ≡ r') × (s.1.0.now ≡ s'.1.0.now)
  finish_unique r r' p q = wrote_once p q

-- the counts, the table and the layer
pub record SameDesk (s t : Desk) : Type 0 where
  pub counts : s.counts ≡ t.counts
  pub table : s.table ≡ t.table
  pub layer : s.layer ≡ t.layer

desk_once : {s t : Desk} {x : Sheet} {r : Reply} {u v : Option Said} → length s.table ≡ 1536 → length t.table ≡ 1536 →
    reply_on s u ≡ r → reply_on t v ≡ r → sheet_on s ≡ x → sheet_on t ≡ x → (u ≡ v) × SameDesk s t
desk_once {s} {t} h i p q y z =
    let e = p ∙ sym q in
    let w = sheet_once s.table t.table s.layer t.layer h i (y ∙ sym z) in (
      ap (λ (r : Reply). r.said) e,
      record { counts = ap (λ (r : Reply). r.counts) e; table = w.0; layer = w.1 },
    )

-- a reply that changes the counts alone
replied_once : {b s t : Desk} {r : Reply} {u v : Option Said} → Replied r b s u → Replied r b t v → (u ≡ v) × SameDesk s t
replied_once p q =
    let e = p.reply ∙ sym q.reply in (
      ap (λ (r : Reply). r.said) e,
      record { counts = ap (λ (r : Reply). r.counts) e; table = p.table ∙ sym q.table; layer = p.layer ∙ sym q.layer },
    )

module _ (κs : Lfts 1) (a : Dens κs stay_kinds.ps) (s s' : AtExit (ended_of 1 stay_kinds.ps stay_kinds.r) κs) where
  pub stay_unique : (r r' : Option Said) → stay_contract.Post κs a r s → stay_contract.Post κs a r' s' →
      (r ≡ r') × SameDesk s.0.now s'.0.now
  stay_unique r r' p q = replied_once p q

module _ (κs : Lfts 1) (a : Dens κs entered_kinds.ps) (s s' : AtExit (ended_of 1 entered_kinds.ps entered_kinds.r) κs) where
  pub entered_unique : (r r' : Option Said) → entered_contract.Post κs a r s → entered_contract.Post κs a r' s' →
      (r ≡ r') × SameDesk s.0.now s'.0.now
  entered_unique r r' p q = replied_once p q

-- `base` and `hear`: what is said, and the desk; that an array has its type's length is no part of a contract
module _ (κs : Lfts 1) (a : Dens κs base_kinds.ps) (s s' : AtExit (ended_of 1 base_kinds.ps base_kinds.r) κs) where
  pub base_row_unique : (r r' : Option Said) → length s.0.now.table ≡ 1536 → length s'.0.now.table ≡ 1536 →
      base_contract.Post κs a r s → base_contract.Post κs a r' s' → (r ≡ r') × SameDesk s.0.now s'.0.now
  base_row_unique r r' h i p q = desk_once h i p.reply q.reply p.sheet q.sheet

module _ (κs : Lfts 2) (a : Dens κs hear_kinds.ps) (s s' : AtExit (ended_of 2 hear_kinds.ps hear_kinds.r) κs) where
  pub hear_unique : (r r' : Option Said) → length s.0.now.table ≡ 1536 → length s'.0.now.table ≡ 1536 →
      hear_contract.Post κs a r s → hear_contract.Post κs a r' s' → (r ≡ r') × SameDesk s.0.now s'.0.now
  hear_unique r r' h i p q = desk_once h i p.reply q.reply p.sheet q.sheet

-- two outcomes that read as one, each of which wrote on behind what b had said
written_once : (b : Reader) {s t : Reader} → Arrays s → Arrays t → length b.out ≡ text_room → Spacious 1 b →
    reading_of s ≡ reading_of t → Writes b s → Writes b t → SameReader s t
written_once b h h' l v e x y =
    let w = wrote_front b.out b.at (omega (arith, l, v.in_text)) in
    reading_once h h' e (x b.out w) (y b.out w)

-- `intake`, called as it demands: the counts, the table and the layer, the line that has begun and the text
module _ (κs : Lfts 1) (a : Dens κs byte_kinds.ps) (s s' : AtExit (ended_of 1 byte_kinds.ps byte_kinds.r) κs) where
  pub take_byte_unique : (r r' : ⊤) → Arrays s.0.now → Arrays s'.0.now → length a.0.now.out ≡ text_room →
      Spacious 1 a.0.now →
      byte_contract.Post κs a r s → byte_contract.Post κs a r' s' → SameReader s.0.now s'.0.now
  take_byte_unique r r' h h' l v p q = written_once a.0.now h h' l v (p.0.same ∙ sym q.0.same) p.1 q.1

-- a line that ended, whatever became of the line's buffer
pub ended_once : (b : Reader) {s t : Reader} → Arrays s → Arrays t → length b.out ≡ text_room → Spacious 1 b →
    Ended b s → Writes b s → Ended b t → Writes b t → SameReader s t
ended_once b h h' l v p x q y = written_once b h h' l v (p.same ∙ sym q.same) x y

module _ (κs : Lfts 1) (a : Dens κs line_kinds.ps) (s s' : AtExit (ended_of 1 line_kinds.ps line_kinds.r) κs) where
  pub end_line_unique : (r r' : ⊤) → Arrays s.0.now → Arrays s'.0.now → length a.0.now.out ≡ text_room →
      Spacious 1 a.0.now →
      line_contract.Post κs a r s → line_contract.Post κs a r' s' → SameReader s.0.now s'.0.now
  end_line_unique r r' h h' l v p q = ended_once a.0.now h h' l v p.0 p.1 q.0 q.1

-- `feed`: the same of a text that starts anew
module _ (κs : Lfts 2) (a : Dens κs block_kinds.ps) (s s' : AtExit (ended_of 2 block_kinds.ps block_kinds.r) κs) where
  pub take_block_unique : (r r' : ⊤) → Arrays s.0.now → Arrays s'.0.now → block_contract.Post κs a r s →
      block_contract.Post κs a r' s' → SameReader s.0.now s'.0.now
  take_block_unique r r' h h' p q = reading_once h h' (p.0.same ∙ sym q.0.same) p.1 q.1

-- an input that ended, whatever became of the line's buffer
pub closed_once : (b : Reader) {s t : Reader} → Arrays s → Arrays t → Closed (anew b) s → InFront b.out s →
    Closed (anew b) t → InFront b.out t → SameReader s t
closed_once b h h' p x q y = reading_once h h' (p.same ∙ sym q.same) x y

module _ (κs : Lfts 1) (a : Dens κs end_kinds.ps) (s s' : AtExit (ended_of 1 end_kinds.ps end_kinds.r) κs) where
  pub end_input_unique : (r r' : ⊤) → Arrays s.0.now → Arrays s'.0.now → end_contract.Post κs a r s →
      end_contract.Post κs a r' s' → SameReader s.0.now s'.0.now
  end_input_unique r r' h h' p q = closed_once a.0.now h h' p.0 p.1 q.0 q.1
