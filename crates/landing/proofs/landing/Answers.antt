-- The halving: where the edit lands stays between lo and hi.
-- Assumes nothing.
use native.Mathlib.Omega.{arith}
use mathlib.Core.Path.{◌≡◌, sym, ap, ◌∙◌}
use Prim.Native.Nat.{ℕ, ◌+◌, ◌-◌, ◌/◌, ◌<◌}
use Rattle.model.specs.Raw.{edit_of}
use Rattle.model.specs.Edits.{before}
use Rattle.theory.proofs.Raw.{layer_length}
use Rattle.head.specs.declared.Head.{Head}
use Rattle.head.specs.Head.{seen}
use Rattle.head.proofs.Heads.{head_before}
use Rattle.entry.specs.Look.{edits, entry_of}
use Rattle.landing.proofs.Landed.{landing_le, past, within}
use Rattle.landing.proofs.landing.Goals as goal
use Rattle.landing.proofs.landing.Goals.{After-stands_before, In-loop-lo}

pub loop-lo-init : goal.loop-lo-init
loop-lo-init c =
    let l = c.args.layer.now in
    omega (arith, landing_le (seen c.args.e) (edits l), layer_length l.c l.m l.numbers.now)

-- the entry between lo and hi
abbrev mid : ℕ → ℕ → ℕ
mid lo hi = lo + (hi - lo) / 2

there : (c : In-loop-lo) → mid c.loop-lo.lo c.loop-lo.hi < c.args.layer.now.m
there c = omega (arith, c.loop-lo-test.true, c.loop-lo.invariant.2)

-- what the test says of the entry
says : (c : After-stands_before)
    → before (edit_of (entry_of c.args.layer.now (mid c.loop-lo.lo c.loop-lo.hi))) (seen c.args.e)
    ≡ c.stands_before.result
says c =
    let e = seen c.args.e in
    sym (c.stands_before.ensures
    ∙ (ap (λ (d : Head). before (seen d) e) c.head.ensures
    ∙ head_before (entry_of c.args.layer.now (mid c.loop-lo.lo c.loop-lo.hi)) e))

pub loop-lo-preserved-then-stands_before : goal.loop-lo-preserved-then-stands_before
loop-lo-preserved-then-stands_before c =
    let at = goal.at.loop-lo-preserved-then-stands_before c in
    let a = c.args in
    let f =
    past a.layer.now (mid c.loop-lo.lo c.loop-lo.hi) (seen a.e) (there at.In-loop-lo) c.requires
    (says at.After-stands_before ∙ c.if-stands_before.true) in
    (omega (arith, f), c.loop-lo.invariant.1, c.loop-lo.invariant.2)

pub loop-lo-preserved : goal.loop-lo-preserved
loop-lo-preserved c =
    let at = goal.at.loop-lo-preserved c in
    let a = c.args in
    let f =
    within a.layer.now (mid c.loop-lo.lo c.loop-lo.hi) (seen a.e) (there at.In-loop-lo)
    (says at.After-stands_before ∙ c.if-stands_before.false) in
    (c.loop-lo.invariant.0, omega (arith, f), omega (arith, there at.In-loop-lo))
