-- `fit::fit_place` meets its contract: the pass is as `Fitting` says at every turn.
-- Assumes nothing.
use native.Mathlib.Omega.{arith}
use mathlib.Core.Path.{sym, ◌∙◌}
use Rattle.fit.proofs.Fitting.{begin, sound_here, onward, stop, end}
use Rattle.fit.proofs.fit_place.Goals as goal

pub loop-i-init : goal.loop-i-init
loop-i-init c = begin c.args.layer.now c.args.keys.now c.requires

pub fits_after-requires : goal.fits_after-requires
fits_after-requires c = (c.loop-i-test.true, sound_here c.loop-i.invariant c.loop-i-test.true)

pub returns-then-not-fits_after : goal.returns-then-not-fits_after
returns-then-not-fits_after c =
    stop c.loop-i.invariant c.loop-i-test.true (sym c.fits_after.ensures ∙ c.if-not-fits_after.true)

pub loop-i-preserved : goal.loop-i-preserved
loop-i-preserved c =
    rw c.head-before.ensures
    (onward c.loop-i.invariant c.loop-i-test.true (sym c.fits_after.ensures ∙ c.if-not-fits_after.false))

pub returns : goal.returns
returns c = omega (arith, end c.loop-i.invariant c.loop-i-test.false, c.loop-i.auto.i-end)
