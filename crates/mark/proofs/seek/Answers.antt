-- `mark::seek` meets its contract: at every turn the mark finds the same rows.
-- Assumes nothing.
use native.Mathlib.Omega.{arith}
use mathlib.Core.Path.{sym, ◌∙◌}
use Prim.Native.Nat.{◌<◌}
use Rattle.mark.proofs.Marking.{stays, set_off, goes, few_off, one_left}
use Rattle.mark.proofs.seek.Goals as goal
use Rattle.mark.proofs.seek.Goals.{In-On}

-- there is an entry to pass
some : (c : In-On) → c.loop-t.k.i < c.args.layer.now.m
some c = one_left c.args.layer.now c.loop-t.invariant.0 c.in-On.t (sym c.way_at.ensures ∙ c.in-On.is)

pub toward-k-requires : goal.toward-k-requires
toward-k-requires c = (few_off c.args.layer.now c.requires.0, omega (arith, c.requires.1))

pub loop-t-init : goal.loop-t-init
loop-t-init c = rw c.toward-k.ensures (set_off c.args.row c.requires.0)

pub way_at-requires : goal.way_at-requires
way_at-requires c =
    let g = c.loop-t.invariant in
    omega (arith, few_off c.args.layer.now g.0, g.1, c.requires.1)

pub past-k-requires : goal.past-k-requires
past-k-requires c = omega (arith, some (goal.at.past-k-requires c).In-On, c.args.layer.now.held.entries)

pub loop-t-smaller : goal.loop-t-smaller
loop-t-smaller c = rw c.past-k.ensures (omega (arith, some (goal.at.loop-t-smaller c).In-On))

pub loop-t-preserved : goal.loop-t-preserved
loop-t-preserved c =
    let g = c.loop-t.invariant in
    rw c.past-k.ensures (goes g.0 c.in-On.t (sym c.way_at.ensures ∙ c.in-On.is), g.1)

pub returns : goal.returns
returns c =
    let g = c.loop-t.invariant in
    (g.0, g.1, rw (← c.way_at.ensures) (stays c.way_at.result c.in_default.not-On))
