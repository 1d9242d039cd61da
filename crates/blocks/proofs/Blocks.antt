-- How a read went, and the text at the end of the input.
-- Assumes nothing.
use mathlib.Core.Path.{ap}
use mathlib.Core.List.{List, ◌++◌}
use Prim.Native.Nat.{ℕ, ◌≤◌, ◌+◌}
use native.Mathlib.Omega.{arith}
use lib.ListN.{length-take}
use Rattle.std.specs.Prelude.{Option, Some, None}
use Rattle.text.specs.Text.{Wrote}
use Rattle.text.proofs.Writing.{wrote_then}
use Rattle.base.specs.Desk.{sheet_on}
use Rattle.intake.specs.declared.Reader.{Reader}
use Rattle.intake.specs.Reading.{Reading}
use Rattle.intake.specs.Reader.{reading_of, InFront}
use Rattle.feed.specs.Input.{Begun, Closed, Ready}
use Rattle.show.specs.Shown.{ending}
use Rattle.console.specs.Told.{closing}
use Rattle.blocks.specs.declared.Went.{Went}
use Rattle.blocks.specs.Going.{Moved, came, Block}

-- the table behind what the last line says
pub closed_text : {s t : Reader} {old new : List ℕ} {r : ℕ} → Closed s t → InFront old t →
    Wrote (ending t.desk.counts (sheet_on t.desk)) t.out t.at r new → Wrote (closing (reading_of s)) old 0 r new
unfolding closing
closed_text v said w =
    rw (ap (λ (j : Reading). j.text ++ ending j.counts j.sheet) v.same) at (wrote_then said w)

-- between two blocks there is room for the next, while lines and blocks stay below 2^62 together
pub ready_begun : {s : Reader} → Begun s → Ready 4096 s
ready_begun b = record { few = omega arith; countable = rw b.counts (omega arith) }

pub ready_for : {n : ℕ} {s : Reader} → n ≤ 4096 → Ready 4096 s → Ready n s
ready_for h p = record { few = h; countable = omega (arith, p.countable) }

most : (got : Option ℕ) → Moved 4096 got → came got ≤ 4096
most (Some k) h = h
most None h = omega arith

module _ {got : Option ℕ} {block : List ℕ} {w : Went} {s t : Reader} (h : Moved 4096 got)
    (b : Block got block w s t) where
  pub few_lines : t.desk.counts.lines ≤ s.desk.counts.lines + 4096
  few_lines = omega (arith, b.took.counted, most got h, length-take (came got) block)

  pub still_ready : s.desk.counts.lines ≤ 4611686018427387904 → Ready 4096 t
  still_ready l = record { few = omega arith; countable = omega (arith, few_lines) }
