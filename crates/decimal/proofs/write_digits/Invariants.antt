-- `decimal::write_digits` meets its contract: from the end on the digits of the number stand, as far as they are written.
-- Assumes nothing.
use mathlib.Core.Path.{◌≡◌}
use lib.ListN.{length}
use Rattle.decimal.proofs.Digits.{Written}
use Rattle.decimal.proofs.write_digits.Given as goal

abbrev pub invariant-loop-i : goal.invariant-loop-i
invariant-loop-i l =
    (length l.out ≡ length l.initial.out) × Written l.x l.at l.initial.out l.out l.rest l.i
