-- Numbers copied up to the end, and two more: number a of the one slice to b of the other.
-- Assumes nothing.
use Prim.Native.Nat.{ℕ, ◌+◌, ◌-◌, ◌≤◌, ◌<◌}
use native.Mathlib.Omega.{arith}
use mathlib.Core.Path.{◌≡◌, ap, ◌∙◌}
use mathlib.Core.List.{List}
use lib.ListN.{length, get_or, drop, set}
use lib.Seq.{paste}
use Rattle.run.proofs.Laws.{copy_one}

module _ (xs old : List ℕ) (from o : ℕ) where
  pub copy_last : (d : List ℕ) (a b end : ℕ) → from ≤ a → b + from ≡ o + a → a < length xs → b < length old → a + 1 ≡ end
      → d ≡ paste old o (drop from xs) (a - from)
      → set d b (get_or xs a 0) ≡ paste old o (drop from xs) (end - from)
  copy_last d a b end l e h g n w =
      copy_one xs old from o d a b l e h g w ∙ ap (λ (i : ℕ). paste old o (drop from xs) (i - from)) n

  pub copy_two : (d : List ℕ) (a b : ℕ) → from ≤ a → b + from ≡ o + a → a + 1 < length xs → b + 1 < length old
      → d ≡ paste old o (drop from xs) (a - from)
      → set (set d b (get_or xs a 0)) (b + 1) (get_or xs (a + 1) 0) ≡ paste old o (drop from xs) (a + 2 - from)
  copy_two d a b l e h g w =
      copy_last (set d b (get_or xs a 0)) (a + 1) (b + 1) (a + 2) (omega arith) (omega arith) h g (omega arith)
      (copy_one xs old from o d a b l e (omega arith) (omega arith) w)
