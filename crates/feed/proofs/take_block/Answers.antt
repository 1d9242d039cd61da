-- `feed::take_block` meets its contract: after k turns the first k bytes are taken.
-- Assumes nothing.
use native.Mathlib.Omega.{arith}
use Rattle.text.proofs.Writing.{wrote_none}
use Rattle.feed.proofs.Feeding.{took_none, took_more}
use Rattle.feed.proofs.take_block.Goals as goal

pub loop-b-init : goal.loop-b-init
loop-b-init c =
    (omega arith, took_none _, wrote_none c.args.reader.now.out 0)

pub loop-b-preserved : goal.loop-b-preserved
loop-b-preserved c =
    let l = c.loop-b in
    let a = c.args in
    let w = c.take_byte.ensures in
    (omega arith, took_more a.block.now l.b-index (omega arith) l.invariant.1 w.0, w.1 a.reader.now.out l.invariant.2)
