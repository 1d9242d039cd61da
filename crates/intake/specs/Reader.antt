-- The reading that stands in the program's numbers and buffers, and what is owed for bytes taken and for a line's end.
use Rattle.std.specs.Prelude.{◌≡◌, List, ℕ, ◌+◌, ◌*◌, ◌≤◌, ◌<◌, length, take}
use Rattle.base.specs.Desk.{sheet_on}
use Rattle.text.specs.Text.{Wrote, text_room}
use Rattle.intake.specs.declared.Reader.{Reader}
use Rattle.intake.specs.Reading.{Reading, line_in, bytes_in}

abbrev pub reading_of : Reader → Reading
reading_of s =
    record { counts = s.desk.counts; sheet = sheet_on s.desk; line = take s.kept s.line; text = take s.at s.out }

-- all that was said stands at the front of the text buffer, which was `old` before
abbrev pub InFront : List ℕ → Reader → Type 0
InFront old s = Wrote (take s.at s.out) old 0 s.at s.out

-- where all that was said stands at the front of the text buffer, so does what is said now
abbrev pub Writes : Reader → Reader → Type 0
Writes s t = (old : List ℕ) → InFront old s → InFront old t

-- what is owed for some bytes: the reading afterwards, within the room
pub record Took (bs : List ℕ) (s t : Reader) : Type 0 where
  pub same : reading_of t ≡ bytes_in bs (reading_of s)
  pub said : t.at ≤ s.at + length bs * 50
  pub counted : t.desk.counts.lines ≤ s.desk.counts.lines + length bs

-- there is room for n bytes more
pub record Spacious (n : ℕ) (s : Reader) : Type 0 where
  pub in_text : s.at + n * 50 ≤ text_room
  pub countable : s.desk.counts.lines + n < 9223372036854775808

-- what is owed for a line that ends
pub record Ended (s t : Reader) : Type 0 where
  pub same : reading_of t ≡ line_in (reading_of s).line (reading_of s)
  pub short : t.kept ≡ 0
  pub said : t.at ≤ s.at + 50
  pub counted : t.desk.counts.lines ≡ s.desk.counts.lines + 1
