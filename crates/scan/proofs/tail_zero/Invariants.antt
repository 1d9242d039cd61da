-- `scan::tail_zero` meets its contract: all values are zero if those passed were and those from j on are.
-- Assumes nothing.
use mathlib.Core.Path.{◌≡◌}
use mathlib.Core.Bool.{◌&&◌}
use lib.Dec.{eqb}
use lib.ListN.{get_or, drop}
use Rattle.order.specs.Lists.{all}
use Rattle.model.specs.Raw.{none}
use Rattle.scan.proofs.tail_zero.Given as goal

abbrev pub invariant-loop-j : goal.invariant-loop-j
invariant-loop-j g l =
    let vs = (get_or (g.E.Entries.entries l.es) l.i none).vals in
    all (λ v. eqb v 0) (drop 1 vs) ≡ (l.zero && all (λ v. eqb v 0) (drop l.j vs))
