-- A layer in a file: a note of 0 to 256 bytes, the entries as numbers of eight bytes, and a trailer of four such numbers.
use Rattle.words.specs.declared.Cause.TheVariants.{ShortBuffer, BadFile}
use Rattle.words.specs.Answer.{Answer}
use Rattle.std.specs.Prelude.{Bool, not, ◌||◌, List, [], ◌∷◌, ◌++◌, ℕ, ◌+◌, ◌-◌, ◌*◌, ◌≤◌, length, ltb, eqb, Ok, Err}
use Rattle.little.specs.Little.{number_at, numbers_at, eights}
use Rattle.words.specs.declared.Entry.{Entry}
use Rattle.model.specs.Limits.{most_columns, most_entries}
use Rattle.model.specs.Layer.{Layer}
use Rattle.model.specs.Raw.{layer_of, flat}
use Rattle.model.specs.Form.{args_ok}
use Rattle.model.specs.Refusals.{Test, refuse, first_met, bad_args, bad_form}
use Rattle.model.specs.Calls.{form_rows, written}

-- how many bytes the trailer has, and how many the note may have
abbrev pub trailer_bytes : ℕ
trailer_bytes = 32

abbrev pub most_note : ℕ
most_note = 256

-- the numbers of m entries, and the bytes from a file's end back to the first of them
abbrev pub width : ℕ → ℕ → ℕ
width c m = m * (c + 2)

abbrev pub reach : ℕ → ℕ → ℕ
reach c m = trailer_bytes + 8 * width c m

-- the trailer: bytes from the file's end back to the first entry, entries, columns, base rows
abbrev pub trailer : ℕ → ℕ → ℕ → List ℕ
trailer c n m = reach c m ∷ m ∷ c ∷ n ∷ []

-- what our writer writes: the entries and the trailer, no note
unfoldable pub saved : ℕ → ℕ → Layer → List ℕ
saved c n L = eights (flat c L ++ trailer c n (length L))

-- the four numbers of a file's trailer
abbrev pub back : List ℕ → ℕ
back f = number_at (length f - 32) f

abbrev pub entries : List ℕ → ℕ
entries f = number_at (length f - 24) f

abbrev pub columns : List ℕ → ℕ
columns f = number_at (length f - 16) f

abbrev pub rows : List ℕ → ℕ
rows f = number_at (length f - 8) f

-- the entries' numbers, from where the trailer says that the first entry stands
unfoldable pub layer_numbers : List ℕ → List ℕ
layer_numbers f = numbers_at (width (columns f) (entries f)) (length f - back f) f

-- 12: the trailer does not match the length, or the note is over 256 bytes
unfoldable pub misfits : List ℕ → Bool
misfits f =
    not (eqb (back f) (reach (columns f) (entries f))) || (ltb (length f) (back f) || ltb (back f + most_note) (length f))

-- the refusals of a file, in their order
abbrev pub file_rows : List ℕ → List Test
file_rows f =
    refuse BadFile 0 (ltb (length f) trailer_bytes)
    ∷ bad_args (args_ok (columns f) (rows f) (entries f) (width (columns f) (entries f)))
    ∷ refuse BadFile 0 (misfits f)
    ∷ bad_form 0 (columns f) (rows f) (entries f) (layer_numbers f)
    ∷ []

-- the check: the number of entries
unfoldable pub file_answer : List ℕ → Answer
file_answer f = first_met Err (file_rows f) (Ok (entries f))

-- the reader, into a slice of len numbers: the number of entries, and the slice afterwards
unfoldable pub load_answer : List ℕ → ℕ → Answer
load_answer f len =
    first_met Err (file_rows f ++ (refuse ShortBuffer 0 (ltb len (width (columns f) (entries f))) ∷ [])) (Ok (entries f))

abbrev pub load_slice : List ℕ → List ℕ → List ℕ
load_slice f old = written (load_answer f (length old)) (layer_numbers f) old

-- the writer, into len bytes: the number of bytes, and the bytes afterwards
unfoldable pub save_answer : ℕ → ℕ → ℕ → List ℕ → ℕ → Answer
save_answer c n m raw len =
    first_met Err (form_rows (args_ok c n m (length raw)) c n m raw ++ (refuse ShortBuffer 0 (ltb len (reach c m)) ∷ []))
    (Ok (reach c m))

abbrev pub save_slice : ℕ → ℕ → ℕ → List ℕ → List ℕ → List ℕ
save_slice c n m raw old = written (save_answer c n m raw (length old)) (saved c n (layer_of c m raw)) old

-- what a reader asks of an accepted file before it lends a slice; 0 of a refused one
abbrev pub if_done : Answer → ℕ → ℕ
if_done (Ok k) v = v
if_done (Err x) v = 0

abbrev pub entries_in : List ℕ → ℕ
entries_in f = if_done (file_answer f) (entries f)

abbrev pub columns_in : List ℕ → ℕ
columns_in f = if_done (file_answer f) (columns f)

abbrev pub rows_in : List ℕ → ℕ
rows_in f = if_done (file_answer f) (rows f)

-- where the note ends
abbrev pub note_in : List ℕ → ℕ
note_in f = if_done (file_answer f) (length f - back f)

-- the entry of c columns whose first byte is byte i
abbrev pub entry_in : ℕ → ℕ → List ℕ → Entry
entry_in c i f = record { pos = number_at i f; kind = number_at (i + 8) f; vals = numbers_at c (i + 16) f }

-- what the pass over a file's entries asks: at most 512 of at most 8 columns, all of them within the file
pub record InFile (c m start : ℕ) (f : List ℕ) : Type 0 where
  pub some : 1 ≤ c
  pub few : c ≤ most_columns
  pub most : m ≤ most_entries
  pub room : start + 8 * width c m ≤ length f
