-- `decimal::write_digits` meets its contract: from the end on the digits of the number stand, as far as they are written.
-- Assumes nothing.
use native.Mathlib.Omega.{arith}
use Prim.Native.Nat.{◌<◌}
use mathlib.Core.Path.{refl}
use lib.ListN.{length-set}
use Rattle.decimal.proofs.Digits.{some_left, none_left, none_written, one_written, all_written}
use Rattle.decimal.proofs.write_digits.Goals as goal
use Rattle.decimal.proofs.write_digits.Goals.{In-loop-i}

pub loop-i-init : goal.loop-i-init
loop-i-init c =
    let a = c.args in
    (refl, rw c.requires.0 (none_written a.x a.at a.out.now (omega arith)))

-- digits are left
some : (c : In-loop-i) → 0 < c.loop-i.rest
some c = some_left c.loop-i.rest (omega (arith, c.loop-i.invariant.1.place, c.loop-i-test.true))

pub bounds-out-i : goal.bounds-out-i
bounds-out-i c =
    let l = c.loop-i in
    omega (arith, l.invariant.1.place, l.invariant.1.few)

pub loop-i-preserved : goal.loop-i-preserved
loop-i-preserved c =
    let l = c.loop-i in
    let a = c.args in (
      simp length-set l.invariant.0,
      rw c.last_digit.ensures (one_written a.x a.at a.out.now (omega arith) l.out l.rest l.i (some (goal.at.loop-i-preserved c).In-loop-i) l.invariant.1),
    )

pub shape_of-out : goal.shape_of-out
shape_of-out c = c.loop-i.invariant.0

pub returns : goal.returns
returns c =
    let l = c.loop-i in
    let a = c.args in
    all_written a.x a.at a.out.now (omega arith) l.out l.rest l.i
    (none_left l.rest (omega (arith, l.invariant.1.place, c.loop-i-test.false))) l.invariant.1
