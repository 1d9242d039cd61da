-- The trailer of a file, read as a run of numbers.
-- Assumes nothing.
use Prim.Native.Nat.{ℕ, ◌+◌, ◌-◌, ◌≤◌}
use native.Mathlib.Omega.{arith}
use mathlib.Core.Path.{◌≡◌, ap, ◌∙◌}
use mathlib.Core.List.{List, ◌++◌}
use lib.ListN.{length, get_or}
use Rattle.little.specs.Little.{number_at, numbers_at}
use Rattle.format.specs.File.{back, entries, columns, rows}

-- the four numbers of the trailer, read as a run
pub trailer_reads : (f xs ys : List ℕ) → 32 ≤ length f → xs ≡ numbers_at 4 (length f - 32) f ++ ys
    → (get_or xs 0 0 ≡ back f) × (get_or xs 1 0 ≡ entries f) × (get_or xs 2 0 ≡ columns f) × (get_or xs 3 0 ≡ rows f)
unfolding numbers_at
trailer_reads f xs ys h e =
    let a : length f - 32 + 8 ≡ length f - 24 = omega arith in
    let b : length f - 32 + 8 + 8 ≡ length f - 16 = omega arith in
    let d : length f - 32 + 8 + 8 + 8 ≡ length f - 8 = omega arith in (
      ap (λ (t : List ℕ). get_or t 0 0) e,
      ap (λ (t : List ℕ). get_or t 1 0) e ∙ ap (λ (i : ℕ). number_at i f) a,
      ap (λ (t : List ℕ). get_or t 2 0) e ∙ ap (λ (i : ℕ). number_at i f) b,
      ap (λ (t : List ℕ). get_or t 3 0) e ∙ ap (λ (i : ℕ). number_at i f) d,
    )
