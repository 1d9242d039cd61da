-- The entries of a layer in a file's bytes, by number.
use Rattle.std.specs.Prelude.{◌≡◌, ℕ, ◌+◌, ◌*◌, ◌<◌, ◌≤◌, List, length, get_or}
use Rattle.std.proofs.Common.{arith, ap, ◌∙◌}
use native.Mathlib.Nat.{zero-add}
use Rattle.words.specs.declared.Entry.{Entry}
use Rattle.little.specs.Little.{number_at, numbers_at}
use Rattle.little.proofs.Numbers.{numbers_length, numbers_get, part_numbers_lem}
use Rattle.model.specs.Raw.{entry_at, entries_of, none}
use Rattle.theory.proofs.Raw.{entry_at_lem, entries_length, within}
use Rattle.format.specs.File.{width, entry_in}
use Rattle.sift.specs.declared.bytes.InBytes.{InBytes}

-- an entry of the numbers is the one that its bytes hold
entry_in_lem : (c k from start : ℕ) (f : List ℕ) → from + (c + 2) ≤ k
    → entry_at c from (numbers_at k start f) ≡ entry_in c (start + 8 * from) f
entry_in_lem c k from start f h =
    let a : start + 8 * (from + 1) ≡ start + 8 * from + 8 = omega arith in
    let b : start + 8 * (from + 2) ≡ start + 8 * from + 16 = omega arith in
    let p = numbers_get k start from f (omega arith) in
    let q = numbers_get k start (from + 1) f (omega arith) ∙ ap (λ (i : ℕ). number_at i f) a in
    let v = part_numbers_lem (from + 2) c k start f (omega arith) ∙ ap (λ (i : ℕ). numbers_at c i f) b in
    λ i. record { pos = p i; kind = q i; vals = v i }

module _ (l : InBytes) where
  abbrev numbers : List ℕ
  numbers = numbers_at (width l.c l.m) l.start l.file.now

  pub bytes_length : length (entries_of l.c l.m numbers) ≡ l.m
  bytes_length = entries_length l.c l.m 0 numbers

  pub bytes_few : length (entries_of l.c l.m numbers) ≤ 512
  bytes_few = omega (arith, bytes_length, l.held.most)

  -- entry i is the one that stands there
  pub bytes_entry : (i : ℕ) → i < l.m
      → get_or (entries_of l.c l.m numbers) i none ≡ entry_in l.c (l.start + 8 * (i * (l.c + 2))) l.file.now
  bytes_entry i h =
      entry_at_lem l.c l.m 0 i numbers h
      ∙ ap (λ (n : ℕ). entry_at l.c n numbers) (zero-add (i * (l.c + 2)))
      ∙ entry_in_lem l.c (width l.c l.m) (i * (l.c + 2)) l.start l.file.now (within i l.m (l.c + 2) h)

  -- and has a value for every column
  pub bytes_wide : (i : ℕ) → i < length (entries_of l.c l.m numbers)
      → length (get_or (entries_of l.c l.m numbers) i none).vals ≡ l.c
  bytes_wide i h =
      ap (λ (e : Entry). length e.vals) (bytes_entry i (omega (arith, bytes_length, h)))
      ∙ numbers_length l.c (l.start + 8 * (i * (l.c + 2)) + 16) l.file.now
