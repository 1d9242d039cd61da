-- Two splices of which the second is none are one.
-- Assumes nothing.
use Prim.Native.Nat.{ℕ, ◌+◌, ◌*◌, ◌-◌}
use native.Mathlib.Nat.{add-zero}
use native.Mathlib.Omega.{arith}
use mathlib.Core.Path.{◌≡◌}
use mathlib.Core.List.{List, append-nil}
use Rattle.splice.specs.declared.Splice.{Splice}
use Rattle.splice.specs.Splice.{between, resumes, spliced_two}
use Rattle.enter.specs.Move.{spliced, none_at}

-- a second splice that is none
pub two_none : (c m : ℕ) (p : Splice) (xs : List ℕ) → spliced_two c m p (none_at m) xs ≡ spliced c m p xs
unfolding spliced_two spliced
two_none c m p xs =
    let z : m * (c + 2) - m * (c + 2) ≡ 0 = omega arith in
    rw (add-zero m, z, append-nil (between (resumes c p) (m * (c + 2)) xs))
