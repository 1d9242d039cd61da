-- `weave::weave` meets its contract: the invariant says that what is written and what the walk still leaves are the whole.
-- Assumes nothing.
use native.Mathlib.Omega.{arith}
use Prim.Native.Nat.{◌≤◌}
use lib.ListN.{length}
use Rattle.model.specs.Raw.{layer_of}
use Rattle.theory.proofs.Raw.{layer_length}
use Rattle.over.specs.Over.{over}
use Rattle.turn.proofs.Turning.{low, small}
use Rattle.turn.proofs.Onward.{Next, next_of}
use Rattle.weave.specs.Written.{Leaves}
use Rattle.weave.proofs.Putting.{left_wide}
use Rattle.weave.proofs.Writing.{go_out, room_for, go_on_lem, rest_numbers, rest_room, went, woven_size}
use Rattle.weave.proofs.weave.Goals as goal
use Rattle.weave.proofs.weave.Goals.{After-next-t, At-loop-k}

pub loop-k-init : goal.loop-k-init
loop-k-init c = rw c.first-k.ensures (go_out _ _ _ _ _ _ _)

pub next-t-requires : goal.next-t-requires
next-t-requires c = (c.requires.0, c.loop-k.invariant.walked, c.loop-k-test.true)

-- the turn and the walk behind it

turned : (c : After-next-t) → let s = c.args.s.now in
    Next s.keys.now (over s.c s.keys.now s.mr s.r.now) (layer_of s.c s.mr s.r.now)
    (layer_of s.c s.mw s.w.now) c.loop-k.k c.next-t.result
turned c =
    let s = c.args.s.now in
    next_of c.loop-k.invariant.walked (omega (arith, c.loop-k-test.true, layer_length s.c s.mw s.w.now)) c.next-t.result c.next-t.ensures

leaves : (c : After-next-t) → let s = c.args.s.now in
    Leaves c.args.write s.c s.mr s.r.now s.mw s.w.now c.loop-k.k c.next-t.result.puts
    (length c.loop-k.out)
leaves c =
    let s = c.args.s.now in
    let b = c.requires.0 in
    let g = c.loop-k.invariant in
    record {
      lower = record { over = _; rows = _; form = b.lower };
      upper = record { over = _; rows = _; form = b.upper };
      lower_upto = omega (arith, g.walked.lower_upto, layer_length s.c s.mr s.r.now);
      upper_upto = omega (arith, g.walked.upper_upto, layer_length s.c s.mw s.w.now);
      few = (small b g.walked).2;
      takes = (turned c).takes;
      room = λ h. room_for (c.requires.1 h) (g.wrote h) (turned c);
    }

pub put-requires : goal.put-requires
put-requires c = leaves (goal.at.put-requires c).After-next-t

pub loop-k-smaller : goal.loop-k-smaller
loop-k-smaller c =
    let s = c.args.s.now in
    let n = turned (goal.at.loop-k-smaller c).After-next-t in
    omega (arith, n.further, n.lower_upto, n.upper_upto, layer_length s.c s.mr s.r.now, layer_length s.c s.mw s.w.now)

pub loop-k-preserved : goal.loop-k-preserved
loop-k-preserved c =
    go_on_lem c.requires.1 c.loop-k.invariant (turned (goal.at.loop-k-preserved c).After-next-t) _ (left_wide c.next-t.result.puts (leaves (goal.at.loop-k-preserved c).After-next-t))
    c.put.ensures

-- after the loop

lower_upto : (c : At-loop-k) → c.loop-k.k.i ≤ c.args.s.now.mr
lower_upto c =
    let s = c.args.s.now in
    omega (arith, c.loop-k.invariant.walked.lower_upto, layer_length s.c s.mr s.r.now)

counts : (c : At-loop-k) → (c.loop-k.k.m ≤ 1024) × (c.args.s.now.mr ≤ 512)
counts c = ((small c.requires.0 c.loop-k.invariant.walked).2, (low c.requires.0).held.entries)

pub rest_if-requires : goal.rest_if-requires
rest_if-requires c =
    let s = c.args.s.now in
    let b = low c.requires.0 in
    record {
      held = b.held;
      upto = lower_upto (goal.at.rest_if-requires c).At-loop-k;
      room = λ h. rest_room (c.requires.1 h) (c.loop-k.invariant.wrote h) (omega (arith, c.loop-k-test.false, layer_length s.c s.mw s.w.now)) s.mr
          s.r.now (layer_length s.c s.mr s.r.now) b.held.room;
    }

pub overflow_sub-result : goal.overflow_sub-result
overflow_sub-result c = lower_upto (goal.at.overflow_sub-result c).At-loop-k

pub overflow_add-result : goal.overflow_add-result
overflow_add-result c = omega (arith, counts (goal.at.overflow_add-result c).At-loop-k)

pub returns : goal.returns
returns c =
    let s = c.args.s.now in
    went c.requires.1 c.loop-k.invariant (omega (arith, c.loop-k-test.false, layer_length s.c s.mw s.w.now)) s.mr (layer_length s.c s.mr s.r.now) _ _
    (rest_numbers (low c.requires.0) c.loop-k.k.i) c.rest_if.ensures

pub shape_of-out : goal.shape_of-out
shape_of-out c = woven_size _ (returns c)
