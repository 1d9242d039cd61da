-- `vet::form_and_fit` meets its contract: the pass is as `Vetting` says at every turn.
-- Assumes nothing.
use Rattle.vet.proofs.Vetting.{Vetting}
use Rattle.vet.proofs.form_and_fit.Given as goal

abbrev pub invariant-loop-i : goal.invariant-loop-i
invariant-loop-i l =
    Vetting l.layer l.keys l.i l.form l.fit l.seen
