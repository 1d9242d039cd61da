-- An answer as the two numbers that C gets, by the definitions of an answer's number and value.
use Rattle.std.specs.Prelude.{◌≡◌, ℕ, ◌≤◌, Option, Ok}
use Rattle.words.specs.Answer.{number_of, value_of, shift_number, shift_value, back_number, back_value, Answer, Back, Shifted}
use Rattle.words.specs.declared.Origin.TheVariants.{Added}
use Rattle.model.specs.Read.{Part}
use Rattle.view.specs.declared.Seen.{Seen}
use Rattle.view.specs.View.{seen_as, seen_number, seen_value}
use Rattle.told.specs.declared.Told.{Told}
use Rattle.told.specs.declared.ToldShift.{ToldShift}
use Rattle.told.specs.declared.Part.{Part as ToldPart}

-- number 0 and the result, or the refusal's number and its place
abbrev pub Tells : Told → Answer → Type 0
Tells r a = (r.number ≡ number_of a) × (r.value ≡ value_of a)

abbrev pub TellsShift : ToldShift → Shifted → Type 0
TellsShift r a = (r.number ≡ shift_number a) × (r.value ≡ shift_value a)

abbrev pub TellsBack : Told → Back → Type 0
TellsBack r a = (r.number ≡ back_number a) × (r.value ≡ back_value a)

-- an added entry's number is one of a layer's
abbrev pub SmallAdded : Back → Type 0
SmallAdded a = (i : ℕ) → a ≡ Ok (Added i) → i ≤ 512

-- 0 for a part of the base column, 1 for the front of the buffer; and the length of the part
abbrev pub TellsSeen : ToldPart → Option Seen → Type 0
TellsSeen r p = (r.front ≡ seen_number p) × (r.count ≡ seen_value p)

-- the same of a part as the scope names it, where the base column has n numbers
abbrev pub TellsPart : ToldPart → ℕ → Part → Type 0
TellsPart r n p = TellsSeen r (seen_as n p)
