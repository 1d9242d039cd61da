-- The input read byte by byte is its lines heard one after the other, however long they are.
-- Assumes nothing.
use mathlib.Core.Path.{◌≡◌, refl, sym, ap, ◌∙◌}
use mathlib.Core.Bool.{Bool, true, false, cond}
use mathlib.Core.List.{List, [], ◌∷◌, ◌++◌}
use Prim.Native.Nat.{ℕ}
use native.Mathlib.Omega.{arith}
use lib.ListN.{length, take}
use lib.Seq.{take_all, take-take, take-append-le, length-take-le}
use lib.Dec.{ltb, eqb}
use borrow.Author.Tests.{ltb-true, ltb-false}
use Rattle.line.specs.Line.{line_of}
use Rattle.line.proofs.Length.{enough_kept}
use Rattle.base.specs.declared.Counts.{Counts}
use Rattle.base.specs.Base.{Sheet}
use Rattle.hear.specs.Heard.{heard, after}
use Rattle.text.specs.Text.{message}
use Rattle.intake.specs.Reading.{Reading, most_kept, line_in, byte_kept, bytes_in}
use Rattle.feed.specs.Input.{lines_from, lines_of, lines_in, input_ends}

-- a reading with so many bytes of its line
abbrev reading : Counts → Sheet → List ℕ → List ℕ → Reading
reading d x l t = record { counts = d; sheet = x; line = l; text = t }

-- bytes behind those kept
kept_then : (l ys : List ℕ) → take most_kept (take most_kept l ++ ys) ≡ take most_kept (l ++ ys)
kept_then l ys = go (ltb most_kept (length l)) refl
  where
    go : (t : Bool) → ltb most_kept (length l) ≡ t → take most_kept (take most_kept l ++ ys) ≡ take most_kept (l ++ ys)
    go true e =
        let h = ltb-true most_kept (length l) e in
        take-append-le most_kept (take most_kept l) ys (omega (arith, length-take-le most_kept l (omega arith)))
        ∙ (take-take most_kept most_kept l (omega arith) ∙ sym (take-append-le most_kept l ys (omega arith)))
    go false e = ap (λ (k : List ℕ). take most_kept (k ++ ys)) (take_all most_kept l (ltb-false most_kept (length l) e))

-- what is kept of a line is heard as the line
kept_heard : (l : List ℕ) (d : Counts) (x : Sheet) (k m t : List ℕ) →
    line_in (take most_kept l) (reading d x k t) ≡ line_in l (reading d x m t)
kept_heard l d x k m t = rw (enough_kept l)

-- byte by byte, or line by line
pub lines_heard : (bs l : List ℕ) (d : Counts) (x : Sheet) (t : List ℕ) →
    input_ends (bytes_in bs (reading d x (take most_kept l) t)) ≡ lines_in (lines_from l bs) (reading d x [] t)
unfolding input_ends bytes_in lines_in lines_from
lines_heard [] [] d x t = refl
lines_heard [] (b ∷ l) d x t = kept_heard (b ∷ l) d x (take most_kept (b ∷ l)) [] t
lines_heard (b ∷ bs) l d x t = go (eqb b 10) (lines_heard bs)
  where
    go : (u : Bool) → ((k : List ℕ) (e : Counts) (y : Sheet) (m : List ℕ) →
        input_ends (bytes_in bs (reading e y (take most_kept k) m)) ≡ lines_in (lines_from k bs) (reading e y [] m)) →
        input_ends (bytes_in bs (cond u (line_in (take most_kept l) (reading d x (take most_kept l) t))
        (byte_kept b (reading d x (take most_kept l) t))))
        ≡ lines_in (cond u (l ∷ lines_from [] bs) (lines_from (l ++ (b ∷ [])) bs)) (reading d x [] t)
    go true ih =
        ap (λ (i : Reading). input_ends (bytes_in bs i)) (kept_heard l d x (take most_kept l) [] t)
        ∙ ih [] (heard (line_of l) d x).counts (after (line_of l) d x)
        (t ++ message (heard (line_of l) d x).counts.lines (heard (line_of l) d x).said)
    go false ih =
        ap (λ (k : List ℕ). input_ends (bytes_in bs (reading d x k t))) (kept_then l (b ∷ []))
        ∙ ih (l ++ (b ∷ [])) d x t

-- the whole input, from an empty line on
pub input_heard : (bs : List ℕ) (d : Counts) (x : Sheet) (t : List ℕ) →
    input_ends (bytes_in bs (reading d x [] t)) ≡ lines_in (lines_of bs) (reading d x [] t)
input_heard bs d x t = lines_heard bs [] d x t
