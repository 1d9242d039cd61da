-- The room is the smaller of two numbers.
-- Assumes nothing.
use native.Mathlib.Nat.{min-eq_left, min-eq_right}
use native.Mathlib.Omega.{arith}
use mathlib.Core.Path.{sym}
use Rattle.model.specs.Raw.{room}
use Rattle.store.proofs.room_of.Goals as goal

pub returns-then-whole-gt-MOST_ENTRIES : goal.returns-then-whole-gt-MOST_ENTRIES
unfolding room
returns-then-whole-gt-MOST_ENTRIES c = sym (min-eq_left (omega arith))

pub returns : goal.returns
unfolding room
returns c = sym (min-eq_right (omega arith))
