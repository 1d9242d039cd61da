-- A small number and a small signed integer added, where the sum is not negative: it fits, and is read back as it is.
-- Assumes nothing.
use Prim.Native.Nat.{ℕ, suc, ◌+◌, ◌≤◌}
use native.Mathlib.Omega.{arith}
use mathlib.Core.Path.{◌≡◌}
use mathlib.Core.Bool.{true}
use lib.Dec.{T}
use lib.IntN.{ℤ, pos, negsuc, nat_abs, ◌+ℤ◌}
use lib.Signed.{non_neg, pos-nat_abs}
use mir.Syntax.{w64}
use mir.Val.{Fits, SFits, to_z, of_z}
use Rattle.tally.proofs.Signed.{read_small, fits_small, bits_small, abs_less}

abs_sum : (s : ℕ) (d : ℤ) → nat_abs (pos s +ℤ d) ≤ s + nat_abs d
abs_sum s (pos b) = omega arith
abs_sum s (negsuc b) = abs_less s (suc b)

module _ (s : ℕ) (d : ℤ) (hs : s ≤ 4096) (hd : nat_abs d ≤ 512) where
  sum_is : to_z w64 s +ℤ to_z w64 (of_z w64 d) ≡ pos s +ℤ d
  sum_is = rw (read_small s hs, bits_small d (omega arith))

  sum_small : nat_abs (pos s +ℤ d) ≤ 4608
  sum_small = omega (arith, abs_sum s d)

  pub sum_fits : SFits w64 (to_z w64 s +ℤ to_z w64 (of_z w64 d))
  sum_fits = rw sum_is (fits_small (pos s +ℤ d) sum_small)

  pub sum_read : to_z w64 (of_z w64 (to_z w64 s +ℤ to_z w64 (of_z w64 d))) ≡ pos s +ℤ d
  sum_read = rw sum_is (bits_small (pos s +ℤ d) sum_small)

  pub sum_row : non_neg (pos s +ℤ d) ≡ true
      → T (non_neg (to_z w64 (of_z w64 (to_z w64 s +ℤ to_z w64 (of_z w64 d)))))
      × Fits w64 (nat_abs (to_z w64 (of_z w64 (to_z w64 s +ℤ to_z w64 (of_z w64 d)))))
  sum_row h = rw sum_read (rw h tt, record { fits = omega (arith, sum_small) })

  pub row_read : non_neg (pos s +ℤ d) ≡ true → pos (nat_abs (to_z w64 (of_z w64 (to_z w64 s +ℤ to_z w64 (of_z w64 d)))))
      ≡ pos s +ℤ d
  row_read h = rw sum_read (pos-nat_abs (pos s +ℤ d) (rw h tt))
