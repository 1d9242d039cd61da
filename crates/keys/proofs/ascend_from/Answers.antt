-- `keys::ascend_from` meets its contract: one step along the keys at each turn.
-- Assumes nothing.
use borrow.Author.Tests.{lt-ltb, le-ltb}
use native.Mathlib.Omega.{arith}
use mathlib.Core.Path.{refl, sym, ◌∙◌}
use Prim.Native.Nat.{◌+◌}
use Rattle.keys.proofs.Rising.{step, last}
use Rattle.keys.proofs.ascend_from.Goals as goal

pub returns-then-keys-i : goal.returns-then-keys-i
returns-then-keys-i c =
    rw (c.loop-i.invariant, step c.args.keys.now c.loop-i.i (c.loop-i.i + 1) refl (omega arith), le-ltb _ _ c.if-keys-i.true)

pub loop-i-preserved : goal.loop-i-preserved
loop-i-preserved c =
    c.loop-i.invariant ∙ rw (step c.args.keys.now c.loop-i.i (c.loop-i.i + 1) refl (omega arith), lt-ltb _ _ c.if-keys-i.false)

pub returns : goal.returns
returns c =
    sym (c.loop-i.invariant ∙ last c.args.keys.now c.loop-i.i (omega arith))
