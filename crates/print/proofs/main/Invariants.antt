-- The lines read stay below 2^62.
-- Assumes nothing.
use Rattle.std.proofs.Common.{◌≤◌, ◌*◌}
use Rattle.feed.specs.Input.{Ready}
use Rattle.print.proofs.main.Given as goal

abbrev pub invariant-loop-turn : goal.invariant-loop-turn
invariant-loop-turn l = Ready 4096 l.reader × (l.reader.desk.counts.lines ≤ l.turn * 4096)
