-- The input: its start, what a block of its bytes needs, its lines, and its end.
use Rattle.std.specs.Prelude.{◌≡◌, false, cond, List, [], ◌∷◌, ◌++◌, ℕ, ◌+◌, ◌≤◌, ◌<◌, eqb, replicate}
use Rattle.order.specs.Lists.{in_turn}
use Rattle.base.specs.declared.Counts.{Counts}
use Rattle.base.specs.Base.{Sheet}
use Rattle.intake.specs.declared.Reader.{Reader}
use Rattle.intake.specs.Reading.{Reading, line_in}
use Rattle.intake.specs.Reader.{reading_of}

-- before the first line: no base row, no entry, no line read, nothing said
abbrev pub at_start : Counts
at_start = record { rows = 0; entries = 0; edited = false; lines = 0 }

abbrev pub nothing_read : Sheet → Reading
nothing_read x = record { counts = at_start; sheet = x; line = []; text = [] }

-- the same in the program's numbers, all zero
pub record Begun (s : Reader) : Type 0 where
  pub counts : s.desk.counts ≡ at_start
  pub table : s.desk.table ≡ replicate 1536 0
  pub layer : s.desk.layer ≡ replicate 2560 0
  pub kept : s.kept ≡ 0
  pub at : s.at ≡ 0

-- what was said is written, and the text starts anew
abbrev pub hushed : Reading → Reading
hushed i = record { counts = i.counts; sheet = i.sheet; line = i.line; text = [] }

abbrev pub anew : Reader → Reader
anew s = record s { at = 0 }

-- what a block of n bytes needs: its text fits the buffer from the front on
pub record Ready (n : ℕ) (s : Reader) : Type 0 where
  pub few : n ≤ 4096
  pub countable : s.desk.counts.lines + n < 9223372036854775808

-- the lines of the input, the first of which has begun with l: each up to its line feed, which the last may lack
abbrev pub last_line : List ℕ → List (List ℕ)
last_line [] = []
last_line (b ∷ l) = (b ∷ l) ∷ []

unfoldable pub lines_from : List ℕ → List ℕ → List (List ℕ)
lines_from l [] = last_line l
lines_from l (b ∷ bs) = cond (eqb b 10) (l ∷ lines_from [] bs) (lines_from (l ++ (b ∷ [])) bs)

abbrev pub lines_of : List ℕ → List (List ℕ)
lines_of bs = lines_from [] bs

-- lines read in turn
unfoldable pub lines_in : List (List ℕ) → Reading → Reading
lines_in ls i = in_turn line_in ls i

-- the input ends: a line that has begun ends with it
abbrev pub last_in : List ℕ → Reading → Reading
last_in [] i = i
last_in (b ∷ l) i = line_in (b ∷ l) i

unfoldable pub input_ends : Reading → Reading
input_ends i = last_in i.line i

-- what is owed for the end of the input
pub record Closed (s t : Reader) : Type 0 where
  pub same : reading_of t ≡ input_ends (reading_of s)
  pub short : t.kept ≡ 0
  pub said : t.at ≤ s.at + 50
