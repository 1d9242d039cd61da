-- `fit::fit_place` meets its contract: the pass is as `Fitting` says at every turn.
-- Assumes nothing.
use Rattle.fit.proofs.Fitting.{Fitting}
use Rattle.fit.proofs.fit_place.Given as goal

abbrev pub invariant-loop-i : goal.invariant-loop-i
invariant-loop-i l = Fitting l.layer l.keys l.i l.before
