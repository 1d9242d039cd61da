-- A readable line has at most 64 bytes, so that 65 bytes of a line say what the whole line says.
-- Assumes nothing.
use mathlib.Core.Path.{◌≡◌, refl, sym, ap, ◌∙◌}
use mathlib.Core.Bool.{Bool, true, false, cond}
use mathlib.Core.List.{List, [], ◌∷◌, map}
use Prim.Native.Nat.{ℕ, suc, ◌+◌, ◌*◌, ◌≤◌, ◌<◌}
use native.Mathlib.Omega.{arith}
use lib.ListN.{length, take}
use lib.Seq.{take_all, length-take-le}
use lib.Dec.{eqb, ltb}
use borrow.Author.Tests.{ltb-true, ltb-false}
use Rattle.order.specs.Lists.{all}
use Rattle.order.proofs.Tests.{and_l, and_r}
use Rattle.std.specs.Prelude.{None}
use Rattle.decimal.specs.Number.{digit, value, is_number, too_large}
use Rattle.line.specs.Line.{onto, fields, said, line_of_fields, line_of}
use Rattle.decimal.proofs.Four.{passed}
use Rattle.line.proofs.Reading.{fields_some}
use Rattle.line.proofs.Sign.{said_long}

-- the bytes of fields, each with one byte behind it
size : List (List ℕ) → ℕ
size [] = 0
size (f ∷ fs) = suc (length f) + size fs

onto_size : (b : ℕ) (fs : List (List ℕ)) → (fs ≡ [] → ⊥) → size (onto b fs) ≡ suc (size fs)
unfolding size
onto_size b [] some = absurd (some refl)
onto_size b (f ∷ fs) some = omega arith

fields_size : (bs : List ℕ) → size (fields bs) ≡ suc (length bs)
unfolding fields size
fields_size [] = omega arith
fields_size (b ∷ bs) = go (eqb b 32) (fields_size bs)
  where
    go : (t : Bool) → size (fields bs) ≡ suc (length bs) → size (cond t ([] ∷ fields bs) (onto b (fields bs))) ≡ suc (suc (length bs))
    go true e = omega arith
    go false e = onto_size b (fields bs) (fields_some bs) ∙ ap suc e

-- a number has at most 20
number_size : (f : List ℕ) → is_number f ≡ true → length f ≤ 20
unfolding is_number
number_size f e = (passed 1 (length f) (length f) 20 (all digit f) (value f) too_large e).1

numbers_size : (fs : List (List ℕ)) → all is_number fs ≡ true → size fs ≤ 21 * length fs
unfolding size
numbers_size [] e = omega arith
numbers_size (f ∷ fs) e =
    omega (
      arith,
      number_size f (and_l (is_number f) (all is_number fs) e),
      numbers_size fs (and_r (is_number f) (all is_number fs) e),
    )

-- one byte and more numbers than three, or a longer first field
said_none : (f : List ℕ) (fs : List (List ℕ)) → 65 < suc (length f) + size fs → size fs ≤ 21 * length fs →
    said f (map value fs) ≡ None
unfolding size
said_none (x ∷ y ∷ g) fs h k = said_long x y g (map value fs)
said_none [] [] h k = refl
said_none [] (a ∷ []) h k = refl
said_none [] (a ∷ b ∷ []) h k = refl
said_none [] (a ∷ b ∷ c ∷ []) h k = refl
said_none [] (a ∷ b ∷ c ∷ d ∷ fs) h k = refl
said_none (x ∷ []) [] h k = refl
said_none (x ∷ []) (a ∷ []) h k = absurd (omega arith)
said_none (x ∷ []) (a ∷ b ∷ []) h k = absurd (omega arith)
said_none (x ∷ []) (a ∷ b ∷ c ∷ []) h k = absurd (omega arith)
said_none (x ∷ []) (a ∷ b ∷ c ∷ d ∷ fs) h k = refl

-- a line of more than 64 bytes is unreadable
pub long_unreadable : (bs : List ℕ) → 64 < length bs → line_of bs ≡ None
unfolding line_of size
long_unreadable bs h = go (fields bs) (fields_size bs)
  where
    by : (f : List ℕ) (fs : List (List ℕ)) (t : Bool) → all is_number fs ≡ t → 65 < suc (length f) + size fs →
        cond t (said f (map value fs)) None ≡ None
    by f fs true e k = said_none f fs k (numbers_size fs e)
    by f fs false e k = refl

    go : (fs : List (List ℕ)) → size fs ≡ suc (length bs) → line_of_fields fs ≡ None
    go [] e = refl
    go (f ∷ fs) e = by f fs (all is_number fs) refl (omega arith)

-- so 65 bytes of it say what it says
pub enough_kept : (bs : List ℕ) → line_of (take 65 bs) ≡ line_of bs
enough_kept bs = go (ltb 65 (length bs)) refl
  where
    go : (t : Bool) → ltb 65 (length bs) ≡ t → line_of (take 65 bs) ≡ line_of bs
    go true e =
        let h = ltb-true 65 (length bs) e in
        long_unreadable (take 65 bs) (omega (arith, length-take-le 65 bs (omega arith)))
        ∙ sym (long_unreadable bs (omega arith))
    go false e = ap line_of (take_all 65 bs (ltb-false 65 (length bs) e))
