-- `column::read_part` meets its contract: the loop over the entries keeps `Going`; then the rest of the base is shown.
-- Assumes nothing.
use Rattle.entry.specs.Look.{edits}
use Rattle.column.proofs.Going.{Going}
use Rattle.column.proofs.read_part.Given as goal

abbrev pub invariant-loop-k : goal.invariant-loop-k
invariant-loop-k l =
    Going (edits l.layer) l.base l.j l.initial.out l.out l.k l.s l.o
