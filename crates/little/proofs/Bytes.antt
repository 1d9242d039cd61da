-- Eight bytes read one by one are the number there.
-- Assumes nothing.
use Prim.Native.Nat.{ℕ, suc, ◌+◌, ◌≤◌}
use native.Mathlib.Omega.{arith}
use mathlib.Core.Path.{◌≡◌, sym, ap}
use mathlib.Core.List.{List, [], ◌∷◌}
use lib.ListN.{length, get_or, take, drop}
use lib.Seq.{drop-cons}
use Rattle.std.specs.Int.{w64, from_le_bytes}
use Rattle.little.specs.Little.{number, number_at}

-- the library's number of eight bytes is ours
pub from_bytes : (a b c d e f g h : ℕ) → from_le_bytes w64 (a ∷ b ∷ c ∷ d ∷ e ∷ f ∷ g ∷ h ∷ [])
    ≡ number (a ∷ b ∷ c ∷ d ∷ e ∷ f ∷ g ∷ h ∷ [])
from_bytes a b c d e f g h = omega arith

module _ (l : List ℕ) (at : ℕ) (r : at + 8 ≤ length l) where
  -- the eight bytes from `at` on
  pub eight_bytes : take 8 (drop at l)
      ≡ get_or l at 0 ∷ get_or l (at + 1) 0 ∷ get_or l (at + 2) 0 ∷ get_or l (at + 3) 0
      ∷ get_or l (at + 4) 0 ∷ get_or l (at + 5) 0 ∷ get_or l (at + 6) 0 ∷ get_or l (at + 7) 0 ∷ []
  eight_bytes =
      let e1 : at + 1 ≡ suc at = omega arith in
      let e2 : at + 2 ≡ suc (suc at) = omega arith in
      let e3 : at + 3 ≡ suc (suc (suc at)) = omega arith in
      let e4 : at + 4 ≡ suc (suc (suc (suc at))) = omega arith in
      let e5 : at + 5 ≡ suc (suc (suc (suc (suc at)))) = omega arith in
      let e6 : at + 6 ≡ suc (suc (suc (suc (suc (suc at))))) = omega arith in
      let e7 : at + 7 ≡ suc (suc (suc (suc (suc (suc (suc at)))))) = omega arith in
      rw (
        e1,
        e2,
        e3,
        e4,
        e5,
        e6,
        e7,
        drop-cons l at 0 (omega arith),
        drop-cons l (suc at) 0 (omega arith),
        drop-cons l (suc (suc at)) 0 (omega arith),
        drop-cons l (suc (suc (suc at))) 0 (omega arith),
        drop-cons l (suc (suc (suc (suc at)))) 0 (omega arith),
        drop-cons l (suc (suc (suc (suc (suc at))))) 0 (omega arith),
        drop-cons l (suc (suc (suc (suc (suc (suc at)))))) 0 (omega arith),
        drop-cons l (suc (suc (suc (suc (suc (suc (suc at))))))) 0 (omega arith),
      )

  pub number_bytes :
      number (get_or l at 0 ∷ get_or l (at + 1) 0 ∷ get_or l (at + 2) 0 ∷ get_or l (at + 3) 0
      ∷ get_or l (at + 4) 0 ∷ get_or l (at + 5) 0 ∷ get_or l (at + 6) 0 ∷ get_or l (at + 7) 0 ∷ [])
      ≡ number_at at l
  unfolding number_at
  number_bytes = ap number (sym eight_bytes)
