-- One byte taken: a line ended, or a byte kept.
-- Assumes nothing.
use mathlib.Core.Path.{◌≡◌, refl, sym, ap, ◌∙◌}
use mathlib.Core.Bool.{Bool, true, false, cond}
use mathlib.Core.List.{List, [], ◌∷◌, ◌++◌}
use Prim.Native.Nat.{ℕ, ◌+◌, ◌≤◌, ◌<◌}
use native.Mathlib.Omega.{arith}
use native.Mathlib.Numerals.{add-one}
use lib.ListN.{length, take, set, length-append}
use lib.Seq.{take_all, take-take, take-append-le, take-suc-set, length-take-le}
use lib.Dec.{leb}
use borrow.Author.Tests.{eq-eqb, ne_eqb, leb-false}
use Rattle.words.specs.declared.Cause.TheVariants.{KeysUnordered}
use Rattle.words.specs.Answer.{Answer}
use Rattle.std.specs.Prelude.{Option, Some, None, Ok, Err}
use Rattle.order.proofs.Tests.{or_false}
use Rattle.line.specs.declared.Line.{Line}
use Rattle.line.specs.declared.Line.TheVariants.{Base, Add, Strike, Change, Renumber}
use Rattle.line.specs.Line.{line_of}
use Rattle.base.specs.declared.Counts.{Counts}
use Rattle.text.specs.Text.{Wrote, message}
use Rattle.text.specs.declared.Said.TheVariants.{Unread, Refused}
use Rattle.text.proofs.Writing.{wrote_before, wrote_then}
use Rattle.base.specs.declared.Reply.{Reply}
use Rattle.base.specs.Base.{Sheet, most_base, shut, below_last, base_reply, stay, grown}
use Rattle.base.specs.Desk.{sheet_on}
use Rattle.reply.specs.Reply.{entered}
use Rattle.hear.specs.Heard.{added, struck, changed, renumbered, heard, Heard}
use Rattle.intake.specs.declared.Reader.{Reader}
use Rattle.intake.specs.Reading.{Reading, most_kept, byte_kept, bytes_in}
use Rattle.intake.specs.Reader.{reading_of, Took, Ended}

-- a byte past the room is not kept
pub keep_full : (line : List ℕ) (kept b : ℕ) → length line ≡ most_kept → kept ≤ most_kept → most_kept ≤ kept →
    take kept line ≡ take most_kept (take kept line ++ (b ∷ []))
keep_full line kept b e h k =
    let z : kept ≡ most_kept = omega arith in
    rw z (sym (take-append-le most_kept (take most_kept line) (b ∷ []) (omega (arith, length-take-le most_kept line (omega arith)))
    ∙ take-take most_kept most_kept line (omega arith)))

pub keep_more : (line : List ℕ) (kept b : ℕ) → length line ≡ most_kept → kept < most_kept →
    take (kept + 1) (set line kept b) ≡ take most_kept (take kept line ++ (b ∷ []))
keep_more line kept b e h =
    rw (add-one kept) (take-suc-set line kept b (omega arith)
    ∙ sym (take_all most_kept (take kept line ++ (b ∷ []))
    (omega (arith, length-append (take kept line) (b ∷ []), length-take-le kept line (omega arith)))))

-- a line is counted, and no more than 512 base rows stand after it
heard_entered : (d : Counts) (a : Answer) → d.rows ≤ most_base →
    ((entered d a).counts.rows ≤ most_base) × ((entered d a).counts.lines ≡ d.lines + 1)
heard_entered d (Ok k) h = (h, refl)
heard_entered d (Err q) h = (h, refl)

heard_base : (d : Counts) (g : ℕ) (K : List ℕ) → d.rows ≤ most_base →
    ((base_reply g d K).counts.rows ≤ most_base) × ((base_reply g d K).counts.lines ≡ d.lines + 1)
heard_base d g K h = go (shut d) (below_last g d.rows K) refl
  where
    go : (t u : Bool) → shut d ≡ t →
        ((cond t (stay d Unread) (cond u (stay d (Refused KeysUnordered)) (grown d))).counts.rows ≤ most_base)
        × ((cond t (stay d Unread) (cond u (stay d (Refused KeysUnordered)) (grown d))).counts.lines ≡ d.lines + 1)
    go true u e = (h, refl)
    go false true e = (h, refl)
    go false false e = (omega (arith, leb-false most_base d.rows (or_false d.edited (leb most_base d.rows) e).1), refl)

pub heard_counts : (l : Option Line) (d : Counts) (x : Sheet) → d.rows ≤ most_base →
    ((heard l d x).counts.rows ≤ most_base) × ((heard l d x).counts.lines ≡ d.lines + 1)
unfolding heard
heard_counts (Some (Base g s m)) d x h = heard_base d g x.keys h
heard_counts (Some (Add g s m)) d x h = heard_entered d (added d x (g ∷ s ∷ m ∷ [])) h
heard_counts (Some (Strike r)) d x h = heard_entered d (struck d x r) h
heard_counts (Some (Change r j v)) d x h = heard_entered d (changed d x r j v) h
heard_counts (Some (Renumber r g)) d x h = heard_entered d (renumbered d x r g) h
heard_counts None d x h = (h, refl)

-- a line ended
pub ended : {s t : Reader} {r : Reply} →
    Heard (line_of (take s.kept s.line)) s.desk.counts (sheet_on s.desk) r (sheet_on t.desk) → t.desk.counts ≡ r.counts → t.kept ≡ 0 →
    Wrote (message r.counts.lines r.said) s.out s.at t.at t.out → t.at ≤ s.at + 50 → Ended s t
ended {s = s} w e k v l = record {
  same = rw (e, k, wrote_before v, w.sheet, ← w.reply);
  short = k;
  said = l;
  counted =
      rw (e, w.reply)
      (heard_counts (line_of (take s.kept s.line)) s.desk.counts (sheet_on s.desk) s.desk.standing).1;
}

-- what a text buffer says from the front on, and what it says once more is written behind it, or none is
abbrev Says : ℕ → List ℕ → ℕ → List ℕ → Type 0
Says o out q new = (old : List ℕ) → Wrote (take o out) old 0 o out → Wrote (take q new) old 0 q new

pub writes_on : {ys out new : List ℕ} {o q : ℕ} → Wrote ys out o q new → Says o out q new
writes_on v old w = rw (wrote_before v) (wrote_then w v)

pub writes_none : {out new : List ℕ} {o q : ℕ} → q ≡ o → new ≡ out → Says o out q new
writes_none a e old w = rw (a, e) w

-- one byte: a line feed, or one that is kept
pub took_line : {s t : Reader} (b : ℕ) → b ≡ 10 → Ended s t → Took (b ∷ []) s t
unfolding bytes_in
took_line b e w = record {
  same = w.same ∙ rw (eq-eqb b 10 e);
  said = omega (arith, w.said);
  counted = omega (arith, w.counted);
}

pub took_byte : {s t : Reader} (b : ℕ) → (b ≡ 10 → ⊥) → reading_of t ≡ byte_kept b (reading_of s) → t.at ≡ s.at →
    Took (b ∷ []) s t
unfolding bytes_in
took_byte b n e a = record {
  same = e ∙ rw (ne_eqb b 10 n);
  said = omega (arith, a);
  counted = omega (arith, ap (λ (i : Reading). i.counts.lines) e);
}
