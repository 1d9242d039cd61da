-- `mark::origin_of` meets its contract: the row is sought from the first entry on, and the way there tells what stands.
-- Assumes nothing.
use native.Mathlib.Omega.{arith}
use mathlib.Core.Path.{◌≡◌, sym, ap, ◌∙◌}
use mathlib.Core.Logic.{⊎_elim}
use Prim.Native.Nat.{ℕ, ◌≤◌}
use Rattle.order.proofs.Counts.{count_le}
use Rattle.model.specs.Layer.{is_add}
use Rattle.model.specs.Position.{back}
use Rattle.theory.proofs.Raw.{layer_length}
use Rattle.entry.specs.Look.{edits}
use Rattle.mark.specs.declared.Way.TheVariants.{Before}
use Rattle.mark.specs.Walk.{origin_from}
use Rattle.mark.proofs.Walk.{walk_back}
use Rattle.mark.proofs.Marking.{from_first, here_base, here_own, few_off}
use Rattle.mark.proofs.origin_of.Goals as goal
use Rattle.mark.proofs.origin_of.Goals.{After-seek-k, Start}

-- row r is a small number
small : (c : Start) → c.args.r ≤ 4608
small c =
    let l = c.args.layer.now in
    let p = c.requires in
    omega (arith, p.0, p.2, l.held.entries, count_le is_add (edits l), layer_length l.c l.m l.numbers.now)

-- what the way from the first entry on finds is what stands there
found : (c : After-seek-k) → let a = c.args in
    let L = edits a.layer.now in
    origin_from 0 c.seek-k.result.row L ≡ back a.n L a.r
found c =
    let a = c.args in
    let L = edits a.layer.now in
    ap (λ (r : ℕ). origin_from 0 r L) c.seek-k.ensures.1 ∙ walk_back a.layer.now.c a.n L a.r c.requires.1 c.requires.2

pub seek-k-requires : goal.seek-k-requires
seek-k-requires c = (rw c.first.ensures (from_first 0 _), small (goal.at.seek-k-requires c).Start)

pub way_at-requires : goal.way_at-requires
way_at-requires c =
    let e = c.seek-k.ensures in
    omega (arith, few_off c.args.layer.now e.0, e.1, small (goal.at.way_at-requires c).Start)

pub returns-in-Own : goal.returns-in-Own
returns-in-Own c =
    sym (here_own c.seek-k.ensures.0 _ (sym c.way_at.ensures ∙ c.in-Own.is)).0
    ∙ found (goal.at.returns-in-Own c).After-seek-k

-- the mark stays
pub returns-in-Before : goal.returns-in-Before
returns-in-Before c =
    let e = c.seek-k.ensures in
    let before : c.way_at.result ≡ Before =
    ⊎_elim (λ w. w) (λ w. absurd (rw (← c.way_at.ensures, w.1) at e.2)) c.in-Before.is in
    sym (here_base e.0 (sym c.way_at.ensures ∙ before)) ∙ found (goal.at.returns-in-Before c).After-seek-k
