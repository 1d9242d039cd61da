-- `over::overlook` meets its contract: the pass is as `Overlooking` says at every turn.
-- Assumes nothing.
use Rattle.over.proofs.Overlooking.{Overlooking}
use Rattle.over.proofs.overlook.Given as goal

abbrev pub invariant-loop-j : goal.invariant-loop-j
invariant-loop-j l =
    Overlooking l.lower l.upper l.keys l.j l.d l.low l.here l.names
