-- `decimal::count_digits` meets its contract: each tenth has one digit less.
-- Assumes nothing.
use mathlib.Core.Path.{◌≡◌}
use Prim.Native.Nat.{◌+◌, ◌≤◌}
use lib.ListN.{length}
use Rattle.decimal.specs.Decimal.{digits}
use Rattle.decimal.proofs.count_digits.Given as goal

abbrev pub invariant-loop-rest : goal.invariant-loop-rest
invariant-loop-rest l =
    (length (digits l.x) ≡ l.k + length (digits l.rest)) × (l.rest ≤ l.x)

abbrev pub decreases-loop-rest : goal.decreases-loop-rest
decreases-loop-rest l =
    l.rest
