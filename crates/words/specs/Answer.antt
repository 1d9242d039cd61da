-- The scope's number and value of each case of each answer.
use Rattle.std.specs.Prelude.{ℕ, ◌+◌, ℤ, pos, Result, Ok, Err}
use Rattle.words.specs.declared.Cause.{Cause}
use Rattle.words.specs.declared.Cause.TheVariants as cause
use Rattle.words.specs.declared.Refusal.{Refusal}
use Rattle.words.specs.declared.Origin.{Origin}
use Rattle.words.specs.declared.Origin.TheVariants as origin

-- the number of a cause in the scope's table
abbrev pub cause_number : Cause → ℕ
cause_number cause.BadArguments = 1
cause_number cause.BadForm = 2
cause_number cause.KeysUnordered = 3
cause_number cause.BadFit = 4
cause_number cause.NoSuchRow = 5
cause_number cause.KeyColumn = 6
cause_number cause.KeyShown = 7
cause_number cause.InConflict = 8
cause_number cause.NoRoom = 9
cause_number cause.TooManyRows = 10
cause_number cause.ShortBuffer = 11
cause_number cause.BadFile = 12

-- a refusal by its cause and place
abbrev pub refusal : Cause → ℕ → Refusal
refusal cause place = record { cause = cause; place = place }

-- what most calls answer, what the shift call answers, and what the way back from a row number answers
abbrev pub Answer : Type 0
Answer = Result ℕ Refusal

abbrev pub Shifted : Type 0
Shifted = Result ℤ Refusal

abbrev pub Back : Type 0
Back = Result Origin Refusal

-- 0 and the count, or the refusal's number and its place
abbrev pub number_of : Answer → ℕ
number_of (Ok k) = 0
number_of (Err x) = cause_number x.cause

abbrev pub value_of : Answer → ℕ
value_of (Ok k) = k
value_of (Err x) = x.place

-- 0 and the signed shift, or the refusal's number and its place
abbrev pub shift_number : Shifted → ℕ
shift_number (Ok z) = 0
shift_number (Err x) = cause_number x.cause

abbrev pub shift_value : Shifted → ℤ
shift_value (Ok z) = z
shift_value (Err x) = pos x.place

-- 0 and s for base row s, 0 and 65,536 + i for the added entry number i, or the refusal's number and its place
abbrev pub back_number : Back → ℕ
back_number (Ok o) = 0
back_number (Err x) = cause_number x.cause

abbrev pub back_value : Back → ℕ
back_value (Ok (origin.Base s)) = s
back_value (Ok (origin.Added i)) = 65536 + i
back_value (Err x) = x.place
