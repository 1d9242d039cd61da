-- `tally::counted` meets its contract: the pass is as `Counting` says at every turn.
-- Assumes nothing.
use Rattle.entry.specs.Look.{edits}
use Rattle.tally.proofs.Counting.{Counting}
use Rattle.tally.proofs.counted.Given as goal

abbrev pub invariant-loop-i : goal.invariant-loop-i
invariant-loop-i l =
    Counting (edits l.layer) l.to l.i l.w.adds l.w.strikes
