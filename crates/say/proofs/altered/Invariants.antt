-- `say::altered` is safe: no more numbers are altered than were seen.
-- Assumes nothing.
use Prim.Native.Nat.{◌≤◌}
use Rattle.say.proofs.altered.Given as goal

abbrev pub invariant-loop-i : goal.invariant-loop-i
invariant-loop-i l =
    l.count ≤ l.i
