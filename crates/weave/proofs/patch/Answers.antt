-- `weave::patch` meets its contract: what is left to do is what the rest of the layer asks of the row.
-- Assumes nothing.
use native.Mathlib.Omega.{arith}
use mathlib.Core.Path.{◌≡◌, sym, ap, ◌∙◌}
use Prim.Native.Nat.{◌+◌, ◌<◌}
use lib.ListN.{length, drop}
use Rattle.std.specs.Prelude.{Some}
use Rattle.theory.proofs.Raw.{layer_length}
use Rattle.entry.specs.declared.Sight.TheVariants.{Change}
use Rattle.entry.specs.Look.{look_of, edits}
use Rattle.entry.proofs.Looks.{look_change}
use Rattle.turn.proofs.Turning.{first_in}
use Rattle.weave.proofs.Patching.{patch_end, patch_on}
use Rattle.weave.proofs.patch.Goals as goal
use Rattle.weave.proofs.patch.Goals.{In-Change}

-- what the change is, and that it is of a column of the row

looks : (c : In-Change) → let h = c.in-Change in
    look_of (drop c.loop-i.i (edits c.args.layer.now)) ≡ Some (Change h.s h.j h.v)
looks c = sym c.sight.ensures ∙ ap Some c.in-Change.is

column : (c : In-Change) → c.in-Change.j < length c.args.row.now
column c =
    let L = edits c.args.layer.now in
    let i = c.loop-i.i in
    c.requires.columns _ _ _ (first_in i L (drop (i + 1) L) _ (look_change L i _ _ _ (looks c)).split)

pub offset_bounds-row-j : goal.offset_bounds-row-j
offset_bounds-row-j c = omega (arith, column (goal.at.offset_bounds-row-j c).In-Change)

pub bounds-row-j : goal.bounds-row-j
bounds-row-j c = omega (arith, column (goal.at.bounds-row-j c).In-Change, c.loop-i.auto)

pub loop-i-preserved : goal.loop-i-preserved
loop-i-preserved c =
    let h = c.loop-i in
    let is = looks (goal.at.loop-i-preserved c).In-Change in
    h.invariant ∙ patch_on c.args.p (edits c.args.layer.now) h.i h.row _ _ _ is c.if-s-p.true

pub returns : goal.returns
returns c =
    let l = c.args.layer.now in
    let h = c.loop-i in
    let e : length (edits l) ≡ l.m = layer_length l.c l.m l.numbers.now in
    sym (h.invariant ∙ patch_end c.args.p (edits l) h.i h.row (omega (arith, e, c.loop-i-test.false)))
