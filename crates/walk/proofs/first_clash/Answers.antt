-- `walk::first_clash` meets its contract: the search is as `Looking` says at every turn.
-- Assumes nothing.
use native.Mathlib.Omega.{arith}
use mathlib.Core.Path.{◌≡◌, sym, ◌∙◌}
use Prim.Native.Nat.{◌≤◌}
use Rattle.theory.proofs.Raw.{layer_length}
use Rattle.walk.proofs.Marks.{few}
use Rattle.walk.proofs.Looking.{looking_start, looking_end, early_here, looking_found, bounds, looking_on}
use Rattle.walk.proofs.first_clash.Goals as goal
use Rattle.walk.proofs.first_clash.Goals.{After-advance-mark}

pub loop-i-init : goal.loop-i-init
loop-i-init c = rw c.outset-mark.ensures (looking_start _ _ _)

pub advance-mark-requires : goal.advance-mark-requires
advance-mark-requires c =
    let M = c.requires.0 in
    let G = c.loop-i.invariant in
    (M.matched.theirs, G.marks, early_here G M c.loop-i-test.true c.head-e.result c.head-e.ensures)

-- the position, and the mark once it has moved on
sizes : (c : After-advance-mark) → let e = c.head-e.result in
    let r = c.advance-mark.result in
    (e.pos ≤ 4096) × (r.strikes ≤ e.pos) × (r.adds ≤ 512)
sizes c =
    let A = c.advance-mark.ensures in
    let b = bounds c.loop-i.invariant c.requires.0 c.loop-i-test.true c.head-e.result c.head-e.ensures A.0 A.1 in
    let y = c.args.y.now in
    (b.0, b.1, omega (arith, (few A.0).0, layer_length y.c y.m y.numbers.now, y.held.entries))

pub returns-then-clashes : goal.returns-then-clashes
returns-then-clashes c =
    let G = c.loop-i.invariant in (
      looking_found G c.requires.0 c.loop-i-test.true c.head-e.result c.head-e.ensures
          c.advance-mark.ensures.0 c.advance-mark.ensures.1 (sym c.clashes.ensures ∙ c.if-clashes.true),
      G.moves,
    )

pub overflow_add-to : goal.overflow_add-to
overflow_add-to c = let b = sizes (goal.at.overflow_add-to c).After-advance-mark in omega (arith, b.0, b.2)

pub overflow_sub-to : goal.overflow_sub-to
overflow_sub-to c = let b = sizes (goal.at.overflow_sub-to c).After-advance-mark in omega (arith, b.1)

pub loop-i-preserved : goal.loop-i-preserved
loop-i-preserved c =
    let G = c.loop-i.invariant in
    looking_on G c.requires.0 c.loop-i-test.true c.head-e.result c.head-e.ensures
    c.advance-mark.ensures.0 c.advance-mark.ensures.1 (sym c.clashes.ensures ∙ c.if-clashes.false)
    (omega (arith, G.size, c.requires.1, c.loop-i-test.true))

pub returns : goal.returns
returns c =
    let G = c.loop-i.invariant in
    let end : c.args.x.now.m ≡ c.loop-i.i = omega (arith, c.loop-i-test.false, c.loop-i.auto.i-end) in
    (end ∙ looking_end G c.loop-i-test.false, λ j h. G.moves j (omega (arith, h, end)))
