-- `tally::counted` meets its contract: the pass is as `Counting` says at every turn.
-- Assumes nothing.
use native.Mathlib.Omega.{arith}
use Rattle.theory.proofs.Raw.{layer_length}
use Rattle.tally.proofs.Counting.{onward, end}
use Rattle.tally.proofs.counted.Goals as goal

pub loop-i-preserved : goal.loop-i-preserved
loop-i-preserved c =
    let a = c.args.layer.now in
    let w = c.with-w.ensures in
    rw (w.0, w.1)
    (onward c.loop-i.invariant c.sight.result c.sight.ensures
    (omega (arith, c.loop-i-test.true, layer_length a.c a.m a.numbers.now)))

pub returns : goal.returns
returns c =
    let a = c.args.layer.now in
    end c.loop-i.invariant (omega (arith, c.loop-i-test.false, layer_length a.c a.m a.numbers.now))
