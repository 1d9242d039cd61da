-- A cause is told by its number, which is never 0.
-- Assumes nothing.
use Prim.Native.Nat.{ℕ, ◌≤◌}
use native.Mathlib.Omega.{arith}
use mathlib.Core.List.{List, [], ◌∷◌}
use lib.ListN.{get_or}
use mathlib.Core.Path.{◌≡◌, refl, sym, ap, ◌∙◌}
use Rattle.words.specs.declared.Cause.{Cause}
use Rattle.words.specs.declared.Cause.TheVariants as cause
use Rattle.words.specs.Answer.{cause_number}

-- the causes by their numbers, and one more in front of the first
abbrev causes : List Cause
causes =
    cause.BadFile
    ∷ cause.BadArguments
    ∷ cause.BadForm
    ∷ cause.KeysUnordered
    ∷ cause.BadFit
    ∷ cause.NoSuchRow
    ∷ cause.KeyColumn
    ∷ cause.KeyShown
    ∷ cause.InConflict
    ∷ cause.NoRoom
    ∷ cause.TooManyRows
    ∷ cause.ShortBuffer
    ∷ cause.BadFile
    ∷ []

abbrev cause_of : ℕ → Cause
cause_of n = get_or causes n cause.BadFile

cause_again : (c : Cause) → cause_of (cause_number c) ≡ c
cause_again cause.BadArguments = refl
cause_again cause.BadForm = refl
cause_again cause.KeysUnordered = refl
cause_again cause.BadFit = refl
cause_again cause.NoSuchRow = refl
cause_again cause.KeyColumn = refl
cause_again cause.KeyShown = refl
cause_again cause.InConflict = refl
cause_again cause.NoRoom = refl
cause_again cause.TooManyRows = refl
cause_again cause.ShortBuffer = refl
cause_again cause.BadFile = refl

pub one_cause : (c d : Cause) → cause_number c ≡ cause_number d → c ≡ d
one_cause c d e = sym (cause_again c) ∙ ap cause_of e ∙ cause_again d

pub cause_some : (c : Cause) → 1 ≤ cause_number c
cause_some cause.BadArguments = omega arith
cause_some cause.BadForm = omega arith
cause_some cause.KeysUnordered = omega arith
cause_some cause.BadFit = omega arith
cause_some cause.NoSuchRow = omega arith
cause_some cause.KeyColumn = omega arith
cause_some cause.KeyShown = omega arith
cause_some cause.InConflict = omega arith
cause_some cause.NoRoom = omega arith
cause_some cause.TooManyRows = omega arith
cause_some cause.ShortBuffer = omega arith
cause_some cause.BadFile = omega arith
