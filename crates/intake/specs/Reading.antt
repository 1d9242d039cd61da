-- What is read so far, and what one byte more does to it: a line feed ends a line, which is heard; any other byte is kept.
use Rattle.std.specs.Prelude.{cond, List, [], ◌∷◌, ◌++◌, ℕ, take, eqb}
use Rattle.order.specs.Lists.{in_turn}
use Rattle.line.specs.Line.{line_of}
use Rattle.base.specs.declared.Counts.{Counts}
use Rattle.base.specs.Base.{Sheet}
use Rattle.hear.specs.Heard.{heard, after}
use Rattle.text.specs.Text.{message}

-- what is read so far: the counts, the lent numbers, the bytes kept of the line that has begun, and what was said
pub record Reading : Type 0 where
  pub counts : Counts
  pub sheet : Sheet
  pub line : List ℕ
  pub text : List ℕ

-- the bytes that are kept of a line: one more than the longest readable line has
abbrev pub most_kept : ℕ
most_kept = 65

-- one line more is read
abbrev pub line_in : List ℕ → Reading → Reading
line_in l i =
    let s = heard (line_of l) i.counts i.sheet in
    record {
      counts = s.counts;
      sheet = after (line_of l) i.counts i.sheet;
      line = [];
      text = i.text ++ message s.counts.lines s.said;
    }

-- one byte more is kept
abbrev pub byte_kept : ℕ → Reading → Reading
byte_kept b i = record { counts = i.counts; sheet = i.sheet; line = take most_kept (i.line ++ (b ∷ [])); text = i.text }

abbrev pub byte_in : ℕ → Reading → Reading
byte_in b i = cond (eqb b 10) (line_in i.line i) (byte_kept b i)

-- bytes read in turn
unfoldable pub bytes_in : List ℕ → Reading → Reading
bytes_in bs i = in_turn byte_in bs i
