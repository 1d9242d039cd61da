-- `relocate::put_positions` meets its contract: the pass is as `Putting` says at every turn.
-- Assumes nothing.
use native.Mathlib.Omega.{arith}
use mathlib.Core.Path.{◌≡◌}
use Rattle.relocate.proofs.Putting.{putting_start, putting_end, putting_on}
use Rattle.relocate.proofs.put_positions.Goals as goal

pub loop-i-init : goal.loop-i-init
loop-i-init c = putting_start _ _ _ _

pub loop-i-preserved : goal.loop-i-preserved
loop-i-preserved c = putting_on _ _ _ _ c.loop-i.invariant c.requires.0 c.loop-i-test.true c.requires.1

pub returns : goal.returns
returns c =
    let end : c.loop-i.i ≡ c.args.m = omega (arith, c.loop-i-test.false, c.loop-i.auto.i-end) in
    putting_end _ _ _ _ (rw end at c.loop-i.invariant)
