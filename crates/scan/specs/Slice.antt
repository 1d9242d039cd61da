-- The entries of a layer in a slice, by number.
use Rattle.std.specs.Prelude.{◌≡◌, ℕ, ◌+◌, ◌*◌, ◌<◌, ◌≤◌, length, get_or, drop}
use Rattle.std.proofs.Common.{arith, ap, ◌∙◌}
use native.Mathlib.Nat.{zero-add}
use lib.ListN.{length-drop}
use lib.Seq.{length-take-le}
use Rattle.words.specs.declared.Entry.{Entry}
use Rattle.model.specs.Raw.{entry_at, entries_of, none}
use Rattle.theory.proofs.Raw.{entry_at_lem, entries_length, within}
use Rattle.entry.specs.declared.slice.Stored.{Stored}
use Rattle.entry.specs.Look.{entry_of}

pub slice_length : (l : Stored) → length (entries_of l.c l.m l.numbers.now) ≡ l.m
slice_length l = entries_length l.c l.m 0 l.numbers.now

pub slice_few : (l : Stored) → length (entries_of l.c l.m l.numbers.now) ≤ 512
slice_few l = omega (arith, slice_length l, l.held.entries)

-- entry i is the one that stands there
pub slice_entry : (l : Stored) (i : ℕ) → i < l.m → get_or (entries_of l.c l.m l.numbers.now) i none ≡ entry_of l i
slice_entry l i h =
    entry_at_lem l.c l.m 0 i l.numbers.now h ∙ ap (λ (n : ℕ). entry_at l.c n l.numbers.now) (zero-add (i * (l.c + 2)))

-- and has a value for every column
pub slice_wide : (l : Stored) (i : ℕ) → i < length (entries_of l.c l.m l.numbers.now)
    → length (get_or (entries_of l.c l.m l.numbers.now) i none).vals ≡ l.c
slice_wide l i h =
    let xs = l.numbers.now in
    let b : i < l.m = omega (arith, slice_length l, h) in
    ap (λ (e : Entry). length e.vals) (slice_entry l i b)
    ∙ length-take-le l.c (drop (i * (l.c + 2) + 2) xs)
    (omega (arith, within i l.m (l.c + 2) b, l.held.room, length-drop (i * (l.c + 2) + 2) xs))
