-- What the program writes, as bytes: the message of a line, the header, and one line a row.
use Rattle.std.specs.Prelude.{◌≡◌, Option, Some, None, List, [], ◌∷◌, ◌++◌, ℕ, suc, ◌+◌, ◌*◌, length, take, drop}
use Rattle.std.proofs.Math.Seq.{paste}
use Rattle.words.specs.Answer.{cause_number}
use Rattle.model.specs.Row.{Table, cell}
use Rattle.decimal.specs.Decimal.{decimal}
use Rattle.text.specs.declared.Said.{Said}
use Rattle.text.specs.declared.Said.TheVariants.{Unread, Refused}

-- the bytes that the text buffer holds
abbrev pub text_room : ℕ
text_room = 204800

-- the bytes ys were written to a buffer from index o on: r is the index after the last, and the rest is as it was
pub record Wrote (ys : List ℕ) (old : List ℕ) (o r : ℕ) (new : List ℕ) : Type 0 where
  pub end : r ≡ o + length ys
  pub bytes : new ≡ paste old o ys (length ys)

-- a number and the byte behind it, a space or a line feed
abbrev pub number : ℕ → ℕ → List ℕ
number x b = decimal x ++ (b ∷ [])

-- `? L` and `refused N L`, each with its line feed
unfoldable pub message : ℕ → Option Said → List ℕ
message line None = []
message line (Some Unread) = 63 ∷ 32 ∷ number line 10
message line (Some (Refused cause)) =
    114 ∷ 101 ∷ 102 ∷ 117 ∷ 115 ∷ 101 ∷ 100 ∷ 32 ∷ (number (cause_number cause) 32 ++ number line 10)

-- `row group source mask`
abbrev pub header : List ℕ
header =
    114 ∷ 111 ∷ 119 ∷ 32
    ∷ 103 ∷ 114 ∷ 111 ∷ 117 ∷ 112 ∷ 32
    ∷ 115 ∷ 111 ∷ 117 ∷ 114 ∷ 99 ∷ 101 ∷ 32
    ∷ 109 ∷ 97 ∷ 115 ∷ 107 ∷ 10
    ∷ []

-- row number i: its number and its three values
unfoldable pub row_text : ℕ → ℕ → ℕ → ℕ → List ℕ
row_text i g s m = number i 32 ++ (number g 32 ++ (number s 32 ++ number m 10))

-- the rows of a table, the first of which has number i
unfoldable pub table_text : ℕ → Table → List ℕ
table_text i [] = []
table_text i (r ∷ T) = row_text i (cell 0 r) (cell 1 r) (cell 2 r) ++ table_text (suc i) T

-- the same, from three columns
unfoldable pub columns_text : ℕ → List ℕ → List ℕ → List ℕ → List ℕ
columns_text i [] S M = []
columns_text i (g ∷ K) [] M = []
columns_text i (g ∷ K) (s ∷ S) [] = []
columns_text i (g ∷ K) (s ∷ S) (m ∷ M) = row_text i g s m ++ columns_text (suc i) K S M

-- rows that are printed at most: 512 of the base and 512 added
abbrev pub most_shown : ℕ
most_shown = 1024

-- the first rows of column j of numbers whose columns stand end to end, with room for that many rows each
abbrev pub front : ℕ → ℕ → List ℕ → List ℕ
front rows j xs = take rows (drop (most_shown * j) xs)

-- the first rows of three such columns
abbrev pub first_text : ℕ → List ℕ → List ℕ
first_text rows xs = columns_text 0 (front rows 0 xs) (front rows 1 xs) (front rows 2 xs)
