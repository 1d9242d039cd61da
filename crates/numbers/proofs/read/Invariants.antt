-- `numbers::read` is safe and ends: a token a turn, and the slice keeps its length.
-- Assumes nothing.
use Rattle.std.proofs.Common.{◌≡◌, ◌-◌, length}
use Rattle.numbers.proofs.read.Given as goal

abbrev pub invariant-loop-i : goal.invariant-loop-i
invariant-loop-i l =
    length l.xs ≡ length l.initial.xs

abbrev pub decreases-loop-i : goal.decreases-loop-i
decreases-loop-i l =
    length l.case - l.i
