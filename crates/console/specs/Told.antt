-- The table that lines make: a line that says nothing does its deed to the rows that are shown; any other line, to which
-- the program says `? L` or `refused N L`, does nothing.
use Rattle.std.specs.Prelude.{Option, Some, None, List, [], ◌∷◌, ◌++◌, ℕ, replicate}
use Rattle.model.specs.Row.{Table}
use Rattle.model.specs.Cell.{to}
use Rattle.model.specs.Steps.{adding, striking, changing, renumbering, step_by}
use Rattle.line.specs.declared.Line.{Line}
use Rattle.line.specs.declared.Line.TheVariants.{Base, Add, Strike, Change, Renumber}
use Rattle.line.specs.Line.{line_of}
use Rattle.text.specs.declared.Said.{Said}
use Rattle.base.specs.Base.{Sheet, sheet_of}
use Rattle.hear.specs.Heard.{heard}
use Rattle.intake.specs.Reading.{Reading, line_in, bytes_in}
use Rattle.feed.specs.Input.{nothing_read, input_ends}
use Rattle.text.specs.Text.{header}
use Rattle.show.specs.Shown.{ending}

-- a base row behind the others; a row more, in key order; row r struck; column j of row r changed; row r given the group g
abbrev pub deed_done : Option Line → Table → Table
deed_done (Some (Base g s m)) T = T ++ ((g ∷ s ∷ m ∷ []) ∷ [])
deed_done (Some (Add g s m)) T = step_by (adding (g ∷ s ∷ m ∷ [])) T
deed_done (Some (Strike r)) T = step_by (striking r) T
deed_done (Some (Change r j v)) T = step_by (changing r j (to v)) T
deed_done (Some (Renumber r g)) T = step_by (renumbering r g) T
deed_done None T = T

abbrev pub if_silent : Option Said → Table → Table → Table
if_silent None T U = T
if_silent (Some said) T U = U

-- the table after some lines, from one that is shown
unfoldable pub table_in : List (List ℕ) → Reading → Table → Table
table_in [] i T = T
table_in (l ∷ ls) i T =
    table_in ls (line_in l i) (if_silent (heard (line_of l) i.counts i.sheet).said (deed_done (line_of l) T) T)

-- what is said once the input has ended: what its lines say, then the table
unfoldable pub closing : Reading → List ℕ
closing i = let j = input_ends i in j.text ++ ending j.counts j.sheet

-- all that is printed for an input
unfoldable pub printed : List ℕ → Sheet → List ℕ
printed bs x = closing (bytes_in bs (nothing_read x))

-- The scope's example, with the program's numbers, all zero before the first line.
abbrev pub zeros : Sheet
zeros = sheet_of (replicate 1536 0) (replicate 2560 0)

-- `B 10 1 1`, `B 20 1 2`, `+ 15 2 4`, `- 0`, `- 2`
abbrev pub example_input : List ℕ
example_input =
    66 ∷ 32 ∷ 49 ∷ 48 ∷ 32 ∷ 49 ∷ 32 ∷ 49 ∷ 10
    ∷ 66 ∷ 32 ∷ 50 ∷ 48 ∷ 32 ∷ 49 ∷ 32 ∷ 50 ∷ 10
    ∷ 43 ∷ 32 ∷ 49 ∷ 53 ∷ 32 ∷ 50 ∷ 32 ∷ 52 ∷ 10
    ∷ 45 ∷ 32 ∷ 48 ∷ 10
    ∷ 45 ∷ 32 ∷ 50 ∷ 10
    ∷ []

-- `refused 5 5`, the header, `0 15 2 4`, `1 20 1 2`
abbrev pub example_output : List ℕ
example_output =
    114 ∷ 101 ∷ 102 ∷ 117 ∷ 115 ∷ 101 ∷ 100 ∷ 32 ∷ 53 ∷ 32 ∷ 53 ∷ 10
    ∷ (header
    ++ (48 ∷ 32 ∷ 49 ∷ 53 ∷ 32 ∷ 50 ∷ 32 ∷ 52 ∷ 10
    ∷ 49 ∷ 32 ∷ 50 ∷ 48 ∷ 32 ∷ 49 ∷ 32 ∷ 50 ∷ 10
    ∷ []))

-- a group given another number: `B 10 1 1`, `B 20 1 2`, `= 0 2 7`, `! 0 30`, `! 1 20`
abbrev pub renumber_input : List ℕ
renumber_input =
    66 ∷ 32 ∷ 49 ∷ 48 ∷ 32 ∷ 49 ∷ 32 ∷ 49 ∷ 10
    ∷ 66 ∷ 32 ∷ 50 ∷ 48 ∷ 32 ∷ 49 ∷ 32 ∷ 50 ∷ 10
    ∷ 61 ∷ 32 ∷ 48 ∷ 32 ∷ 50 ∷ 32 ∷ 55 ∷ 10
    ∷ 33 ∷ 32 ∷ 48 ∷ 32 ∷ 51 ∷ 48 ∷ 10
    ∷ 33 ∷ 32 ∷ 49 ∷ 32 ∷ 50 ∷ 48 ∷ 10
    ∷ []

-- `refused 7 5`, the header, `0 20 1 2`, `1 30 1 7`
abbrev pub renumber_output : List ℕ
renumber_output =
    114 ∷ 101 ∷ 102 ∷ 117 ∷ 115 ∷ 101 ∷ 100 ∷ 32 ∷ 55 ∷ 32 ∷ 53 ∷ 10
    ∷ (header
    ++ (48 ∷ 32 ∷ 50 ∷ 48 ∷ 32 ∷ 49 ∷ 32 ∷ 50 ∷ 10
    ∷ 49 ∷ 32 ∷ 51 ∷ 48 ∷ 32 ∷ 49 ∷ 32 ∷ 55 ∷ 10
    ∷ []))
