-- In whatever blocks the input comes, what is written is what is printed for its bytes.
-- Assumes nothing.
use mathlib.Core.Path.{◌≡◌, refl, sym, ap, ◌∙◌}
use mathlib.Core.Bool.{Bool, true, false, cond}
use mathlib.Core.List.{List, [], ◌∷◌, ◌++◌, append_assoc, append-nil}
use Prim.Native.Nat.{ℕ}
use lib.ListN.{take}
use lib.Dec.{eqb}
use Rattle.line.specs.Line.{line_of}
use Rattle.hear.specs.Heard.{heard}
use Rattle.base.specs.Base.{Sheet}
use Rattle.text.specs.Text.{Wrote, message}
use Rattle.text.proofs.Writing.{wrote_before}
use Rattle.show.specs.Shown.{ending}
use Rattle.intake.specs.declared.Reader.{Reader}
use Rattle.intake.specs.Reading.{Reading, line_in, byte_kept, byte_in, bytes_in}
use Rattle.intake.specs.Reader.{reading_of}
use Rattle.feed.specs.Input.{nothing_read, Begun, hushed, last_in, input_ends}
use Rattle.feed.proofs.Feeding.{bytes_then}
use Rattle.console.specs.Told.{closing, printed, zeros}
use Rattle.console.specs.Run.{end_to_end, Run, none, next}

-- what was said before stands in front
abbrev behind : List ℕ → Reading → Reading
behind t i = record { counts = i.counts; sheet = i.sheet; line = i.line; text = t ++ i.text }

behind_hushed : (i : Reading) → behind i.text (hushed i) ≡ i
behind_hushed i = ap (λ (t : List ℕ). record { counts = i.counts; sheet = i.sheet; line = i.line; text = t }) (append-nil i.text)

line_behind : (l t : List ℕ) (i : Reading) → line_in l (behind t i) ≡ behind t (line_in l i)
line_behind l t i =
    let j = line_in l i in
    let s = heard (line_of l) i.counts i.sheet in
    ap (λ (u : List ℕ). record { counts = j.counts; sheet = j.sheet; line = []; text = u })
    (append_assoc t i.text (message s.counts.lines s.said))

bytes_behind : (bs t : List ℕ) (i : Reading) → bytes_in bs (behind t i) ≡ behind t (bytes_in bs i)
unfolding bytes_in
bytes_behind [] t i = refl
bytes_behind (b ∷ bs) t i = ap (bytes_in bs) (go (eqb b 10)) ∙ bytes_behind bs t (byte_in b i)
  where
    go : (u : Bool) → cond u (line_in i.line (behind t i)) (byte_kept b (behind t i))
        ≡ behind t (cond u (line_in i.line i) (byte_kept b i))
    go true = line_behind i.line t i
    go false = refl

last_behind : (l t : List ℕ) (i : Reading) → last_in l (behind t i) ≡ behind t (last_in l i)
last_behind [] t i = refl
last_behind (b ∷ l) t i = line_behind (b ∷ l) t i

closing_behind : (t : List ℕ) (i : Reading) → closing (behind t i) ≡ t ++ closing i
unfolding closing input_ends
closing_behind t i =
    let j = input_ends i in
    ap (λ (k : Reading). k.text ++ ending k.counts k.sheet) (last_behind i.line t i)
    ∙ append_assoc t j.text (ending j.counts j.sheet)

-- the text of one block, and then all that follows it
block_then : (bs : List ℕ) (j : Reading) → j.text ++ closing (bytes_in bs (hushed j)) ≡ closing (bytes_in bs j)
block_then bs j =
    sym (closing_behind j.text (bytes_in bs (hushed j)))
    ∙ ap closing (sym (bytes_behind bs j.text (hushed j)) ∙ ap (bytes_in bs) (behind_hushed j))

run_closing : {blocks texts : List (List ℕ)} {i k : Reading} → Run blocks texts i k →
    end_to_end texts ++ closing (hushed k) ≡ closing (bytes_in (end_to_end blocks) (hushed i))
unfolding bytes_in
run_closing none = refl
run_closing {i = i} {k = k} (next {b = b} {blocks = blocks} {texts = texts} {j = j} w r) =
    append_assoc j.text (end_to_end texts) (closing (hushed k))
    ∙ (ap (λ (t : List ℕ). j.text ++ t) (run_closing r)
    ∙ (block_then (end_to_end blocks) j
    ∙ ap closing (ap (bytes_in (end_to_end blocks)) w ∙ sym (bytes_then b (end_to_end blocks) (hushed i)))))

-- the program's numbers, all zero, before the first block
pub start_read : {s : Reader} → Begun s → reading_of s ≡ nothing_read zeros
start_read b = rw (b.counts, b.table, b.layer, b.kept, b.at)

-- from the first block to the last text, which is that of the closing, written from the front on
pub run_printed : {blocks texts : List (List ℕ)} {k : Reading} {old new : List ℕ} {r : ℕ} (x : Sheet) → Run blocks texts (nothing_read x) k →
    Wrote (closing (hushed k)) old 0 r new → end_to_end texts ++ take r new ≡ printed (end_to_end blocks) x
unfolding printed
run_printed {texts = texts} x run w = ap (λ (t : List ℕ). end_to_end texts ++ t) (wrote_before w) ∙ run_closing run
