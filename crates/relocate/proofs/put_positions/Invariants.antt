-- `relocate::put_positions` meets its contract: the pass is as `Putting` says at every turn.
-- Assumes nothing.
use Rattle.relocate.proofs.Putting.{Putting}
use Rattle.relocate.proofs.put_positions.Given as goal

abbrev pub invariant-loop-i : goal.invariant-loop-i
invariant-loop-i l =
    Putting l.c l.m l.initial.x l.to l.x l.i
