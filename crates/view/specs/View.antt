-- What shows in a column; and what the viewer hands back: which of the two slices, how much of it, and where it lies.
use Rattle.std.specs.Prelude.{◌≡◌, Bool, true, List, ℕ, eqb, Option, Some, None}
use Rattle.std.specs.Borrow.{Bor}
use Rattle.model.specs.Read.{Part, whole_base, buffer_front, empty_base}
use Rattle.model.specs.Calls.{part_numbers}
use Rattle.entry.specs.declared.Sight.{Sight}
use Rattle.entry.specs.declared.Sight.TheVariants.{Add, Strike, Change}
use Rattle.view.specs.declared.Seen.{Seen}
use Rattle.view.specs.declared.Seen.TheVariants.{Base, Front}

-- what an entry does shows in column j: an add, a strike, a change of column j
abbrev pub shows : ℕ → Sight → Bool
shows j (Add s k) = true
shows j (Strike s k) = true
shows j (Change s i v) = eqb j i

-- the very reference that was lent as the base column; or a part that begins where the buffer or the base column begins
abbrev pub InPlace : Bor (List ℕ) → Bor (List ℕ) → Part → Bor (List ℕ) → Type 0
InPlace base out whole_base r = r ≡ base
InPlace base out (buffer_front rows) r = r.ref_ptr ≡ out.ref_ptr
InPlace base out empty_base r = r.ref_ptr ≡ base.ref_ptr

-- r is this part of the two slices: it has its numbers, and lies where it lies
pub record Handed (base out : Bor (List ℕ)) (part : Part) (r : Bor (List ℕ)) : Type 0 where
  pub numbers : r.now ≡ part_numbers base.now out.now part
  pub place : InPlace base out part r

-- the same without a reference: all n numbers of the base column, so many of the front of the buffer, or nothing
abbrev pub seen_as : ℕ → Part → Option Seen
seen_as n whole_base = Some (Base n)
seen_as n (buffer_front rows) = Some (Front rows)
seen_as n empty_base = None

-- its number, 0 for a part of the base column and 1 for the front of the buffer, and its value, the length
abbrev pub seen_number : Option Seen → ℕ
seen_number (Some (Base k)) = 0
seen_number (Some (Front k)) = 1
seen_number None = 0

abbrev pub seen_value : Option Seen → ℕ
seen_value (Some (Base k)) = k
seen_value (Some (Front k)) = k
seen_value None = 0
