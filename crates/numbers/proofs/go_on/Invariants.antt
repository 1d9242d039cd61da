-- `numbers::go_on` is safe, and the slice keeps its length.
-- Assumes nothing.
use Rattle.std.proofs.Common.{◌≡◌, length}
use Rattle.numbers.proofs.go_on.Given as goal

abbrev pub invariant-loop-i : goal.invariant-loop-i
invariant-loop-i l =
    length l.xs ≡ length l.initial.xs
