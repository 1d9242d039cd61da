-- `field::number_at` meets its contract: what is read so far and the bytes to come make the whole field.
-- Assumes nothing.
use native.Mathlib.Omega.{arith}
use mathlib.Core.Path.{refl, sym, ◌∙◌}
use lib.ListN.{get_or}
use Rattle.field.proofs.Pass.{end_some, end_none, space_some, space_none, full, over, onward, grown_fits}
use Rattle.field.proofs.number_at.Goals as goal

pub loop-i-init : goal.loop-i-init
loop-i-init c = (omega arith, omega arith, omega arith, refl)

pub returns-then-k-lt1 : goal.returns-then-k-lt1
returns-then-k-lt1 c =
    let l = c.loop-i in
    sym (l.invariant.3 ∙ space_none _ l.k l.v l.i (omega arith) (omega arith) (omega arith))

pub returns-then-b-eq32 : goal.returns-then-b-eq32
returns-then-b-eq32 c =
    let l = c.loop-i in
    sym (l.invariant.3 ∙ space_some _ l.k l.v l.i (omega arith) (omega arith) (omega arith))

pub returns-then-k-ge20 : goal.returns-then-k-ge20
returns-then-k-ge20 c =
    let l = c.loop-i in
    sym (l.invariant.3 ∙ full _ l.k l.v l.i (omega arith) c.if-b-eq32.false (omega arith))

pub loop-i-preserved : goal.loop-i-preserved
loop-i-preserved c =
    let l = c.loop-i in
    let xs = c.args.bytes.now in
    let g = sym c.grow.ensures ∙ c.in_ok-v.was in (
      omega arith,
      omega arith,
      grown_fits l.v (get_or xs l.i 0) _ g,
      l.invariant.3 ∙ onward xs l.k l.v l.i (omega arith) _ c.if-b-eq32.false (omega arith) g,
    )

pub returns-in_err-v : goal.returns-in_err-v
returns-in_err-v c =
    let l = c.loop-i in
    let g = sym c.grow.ensures ∙ c.in_err-v.was in
    c.from_residual.ensures ∙ sym (l.invariant.3 ∙ over _ l.k l.v l.i (omega arith) c.if-b-eq32.false (omega arith) g)

pub returns-then-k-lt1-2 : goal.returns-then-k-lt1-2
returns-then-k-lt1-2 c =
    let l = c.loop-i in
    sym (l.invariant.3 ∙ end_none _ l.k l.v l.i (omega arith) (omega arith))

pub returns : goal.returns
returns c =
    let l = c.loop-i in
    sym (l.invariant.3 ∙ end_some _ l.k l.v l.i (omega arith) (omega arith))
