-- Small numbers as signed integers of 64 bits: read back as they are, and their differences fit.
-- Assumes nothing.
use Prim.Native.Nat.{ℕ, zero, suc, ◌+◌, ◌-◌, ◌≤◌, ◌^◌}
use native.Mathlib.Omega.{arith}
use mathlib.Core.Path.{◌≡◌, refl, ap}
use mathlib.Core.Bool.{Bool, true, false, cond}
use lib.Dec.{ltb}
use lib.IntN.{ℤ, pos, negsuc, nat_abs, sub_ℕ, ◌-ℤ◌}
use mir.Syntax.{w64}
use mir.Val.{SFits, to_z, of_z}
use mir.Facts.{to_z-of_z}
use borrow.Author.Tests.{lt-ltb, le-ltb, ltb-true}

-- a small number is read as itself
pub read_small : (a : ℕ) → a ≤ 4096 → to_z w64 a ≡ pos a
read_small a h = rw (lt-ltb a (2 ^ 63) (omega arith))

-- a small integer fits, and is read back from its bits
pub fits_small : (z : ℤ) → nat_abs z ≤ 4608 → SFits w64 z
fits_small (pos a) h = record { sfits = omega arith }
fits_small (negsuc a) h = record { sfits = omega arith }

pub bits_small : (z : ℤ) → nat_abs z ≤ 4608 → to_z w64 (of_z w64 z) ≡ z
bits_small z h = to_z-of_z (fits_small z h)

-- the same of an integer that is known by another name
pub read_back : (r z : ℤ) → r ≡ z → nat_abs z ≤ 512 → to_z w64 (of_z w64 r) ≡ z
read_back r z e h = rw e (bits_small z (omega arith))

-- the difference of two numbers is at most their sum
pub abs_less : (a b : ℕ) → nat_abs (sub_ℕ a b) ≤ a + b
abs_less a b = go (ltb a b) refl
  where
    go : (t : Bool) → ltb a b ≡ t → nat_abs (cond t (negsuc (b - suc a)) (pos (a - b))) ≤ a + b
    go true e = omega (arith, ltb-true a b e)
    go false e = omega arith

minus : (a b : ℕ) → pos a -ℤ pos b ≡ sub_ℕ a b
minus a zero = rw (le-ltb a 0 (omega arith)) (ap pos (let e : a + 0 ≡ a - 0 = omega arith in e))
minus a (suc b) = refl

-- the difference of two small numbers, as the machine has it
module _ (a b : ℕ) (ha : a ≤ 512) (hb : b ≤ 512) where
  less_is : to_z w64 a -ℤ to_z w64 b ≡ sub_ℕ a b
  less_is = rw (read_small a (omega arith), read_small b (omega arith)) (minus a b)

  pub less_fits : SFits w64 (to_z w64 a -ℤ to_z w64 b)
  less_fits = rw less_is (fits_small (sub_ℕ a b) (omega (arith, abs_less a b)))

  pub less_read : to_z w64 (of_z w64 (to_z w64 a -ℤ to_z w64 b)) ≡ sub_ℕ a b
  less_read = rw less_is (bits_small (sub_ℕ a b) (omega (arith, abs_less a b)))
