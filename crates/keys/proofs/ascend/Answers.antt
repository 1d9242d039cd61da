-- `keys::ascend` meets its contract: eight steps along the keys at each turn, and the rest one by one.
-- Assumes nothing.
use native.Mathlib.Omega.{arith}
use mathlib.Core.Path.{◌≡◌, sym, ap, ◌∙◌}
use Prim.Native.Nat.{ℕ, ◌+◌, ◌*◌, ◌<◌}
use lib.ListN.{length}
use Rattle.keys.specs.Rising.{ascend_from}
use Rattle.keys.proofs.Rising.{from_none, from_first}
use Rattle.keys.proofs.ascend.Goals as goal

pub returns-then-keys-eq0 : goal.returns-then-keys-eq0
returns-then-keys-eq0 c = from_none c.args.keys.now c.if-keys-eq0.true

pub loop-k-init : goal.loop-k-init
loop-k-init c = from_first c.args.keys.now (omega (arith, c.if-keys-eq0.false))

pub returns-then-not-nine_ascend : goal.returns-then-not-nine_ascend
returns-then-not-nine_ascend c =
    rw (c.loop-k.invariant, c.nine_ascend.ensures, c.if-not-nine_ascend.true)

pub loop-k-preserved : goal.loop-k-preserved
loop-k-preserved c =
    let K = c.args.keys.now in
    let n : ascend_from K (8 * c.loop-k.k) ≡ ascend_from K (8 * c.loop-k.k + 8) =
    c.nine_ascend.ensures ∙ rw c.if-not-nine_ascend.false in
    c.loop-k.invariant ∙ (n ∙ ap (ascend_from K) (omega arith))

pub returns : goal.returns
returns c =
    c.ascend_from.ensures ∙ sym (c.loop-k.invariant ∙ ap (λ (k : ℕ). ascend_from c.args.keys.now (8 * k)) (omega arith))
