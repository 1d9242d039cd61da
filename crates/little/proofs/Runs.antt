-- A run of numbers read: one more, and the end.
-- Assumes nothing.
use Prim.Native.Nat.{ℕ, ◌+◌, ◌*◌, ◌≤◌, ◌<◌}
use native.Mathlib.Nat.{zero-add}
use native.Mathlib.Omega.{arith}
use mathlib.Core.Path.{◌≡◌, sym, ◌∙◌}
use mathlib.Core.List.{List, ◌++◌}
use lib.ListN.{length, drop, set}
use lib.Seq.{take_all, paste}
use Rattle.run.proofs.Laws.{copy_more}
use Rattle.little.specs.Little.{number_at, numbers_at}
use Rattle.little.proofs.Numbers.{numbers_length, numbers_get}

module _ (f : List ℕ) (at k : ℕ) (d : List ℕ) where
  pub read_more : (out : List ℕ) (i v : ℕ) → out ≡ paste d 0 (numbers_at k at f) i → i < k → k ≤ length d
      → v ≡ number_at (at + 8 * i) f → set out i v ≡ paste d 0 (numbers_at k at f) (i + 1)
  read_more out i v e h r g =
      copy_more out d (numbers_at k at f) 0 i i v (omega arith) e (omega arith) (omega (arith, numbers_length k at f))
      (g ∙ sym (numbers_get k at i f h))

  pub read_end : (i : ℕ) → i ≡ k → paste d 0 (numbers_at k at f) i ≡ numbers_at k at f ++ drop k d
  read_end i e = rw (e, take_all k (numbers_at k at f) (omega (arith, numbers_length k at f)), zero-add)
