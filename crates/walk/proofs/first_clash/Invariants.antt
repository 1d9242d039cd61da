-- `walk::first_clash` meets its contract: the search is as `Looking` says at every turn.
-- Assumes nothing.
use Rattle.walk.proofs.Looking.{Looking}
use Rattle.walk.proofs.first_clash.Given as goal

abbrev pub invariant-loop-i : goal.invariant-loop-i
invariant-loop-i l =
    Looking l.x l.y l.initial.to l.to l.i l.mark
