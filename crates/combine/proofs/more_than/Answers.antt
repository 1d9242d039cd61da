-- `combine::more_than` meets its contract: both layers make at most the entries that they have together.
-- Assumes nothing.
use native.Mathlib.Omega.{arith}
use mathlib.Core.Path.{refl, sym}
use lib.ListN.{length}
use Rattle.order.proofs.Tests.{impossible}
use Rattle.model.specs.Raw.{layer_of}
use Rattle.theory.proofs.Raw.{layer_length}
use borrow.Author.Tests.{le-ltb}
use Rattle.over.specs.Over.{over}
use Rattle.woven.specs.Woven.{woven_layer}
use Rattle.woven.proofs.Walking.{walk_most}
use Rattle.turn.proofs.Turning.{low, up}
use Rattle.combine.proofs.more_than.Goals as goal

pub overflow_add-s : goal.overflow_add-s
overflow_add-s c =
    omega (arith, (low c.requires).held.entries, (up c.requires).held.entries)

pub returns-then-s-room : goal.returns-then-s-room
returns-then-s-room c =
    let a = c.args in
    let s = a.s.now in
    let R = layer_of s.c s.mr s.r.now in
    let W = layer_of s.c s.mw s.w.now in
    let K = s.keys.now in
    let N = over s.c s.keys.now s.mr s.r.now in (
      sym (le-ltb a.room (length (woven_layer K N R W)) (omega (
        arith,
        c.if-s-room.true,
        walk_most K N 0 0 R W,
        layer_length s.c s.mr s.r.now,
        layer_length s.c s.mw s.w.now,
      ))),
      refl,
    )

pub weave-requires : goal.weave-requires
weave-requires c = (c.requires, λ h. impossible (cc))

pub returns : goal.returns
returns c = let w = c.weave.ensures in (rw w.entries, w.kept refl)
