-- `feed::take_block` meets its contract: after k turns the first k bytes are taken.
-- Assumes nothing.
use Prim.Native.Nat.{◌-◌, ◌≤◌}
use lib.ListN.{length, take}
use Rattle.intake.specs.Reader.{InFront, Took}
use Rattle.feed.proofs.take_block.Given as goal

abbrev pub invariant-loop-b : goal.invariant-loop-b
invariant-loop-b l =
    (l.b-index ≤ length l.block)
    × Took (take l.b-index l.block) l.initial.reader l.reader
    × InFront l.initial.reader.out l.reader

abbrev pub decreases-loop-b : goal.decreases-loop-b
decreases-loop-b l =
    length l.block - l.b-index
