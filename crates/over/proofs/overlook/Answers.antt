-- `over::overlook` meets its contract: the pass is as `Overlooking` says at every turn.
-- Assumes nothing.
use native.Mathlib.Omega.{arith}
use mathlib.Core.Path.{◌≡◌, sym, ap, ◌∙◌}
use mathlib.Core.List.{List}
use Prim.Native.Nat.{ℕ, ◌-◌, ◌≤◌}
use lib.ListN.{get_or}
use Rattle.words.specs.Entry.{ADD}
use Rattle.head.specs.declared.Head.{Head}
use Rattle.entry.specs.Look.{entry_of}
use Rattle.over.proofs.Overlooking.{shown, rows_left, set_out, position_small, stopped, goes, ended}
use Rattle.over.proofs.overlook.Goals as goal
use Rattle.over.proofs.overlook.Goals.{After-head-e, After-key_of-next}

pub loop-j-init : goal.loop-j-init
loop-j-init c =
    let l = c.args.lower.now in
    let u = c.args.upper.now in
    let p = c.requires in
    rw c.new-d.ensures (set_out l u c.args.keys.now c.args.rows p.0 p.1 p.2 c.args.names.now _ _
    c.first-low.ensures c.first-here.ensures)

-- the head that was read
low-enough : (c : After-head-e) → c.head-e.result.pos ≤ 4096
low-enough c =
    let l = c.args.lower.now in
    let u = c.args.upper.now in
    let p = c.requires in
    rw c.head-e.ensures (
    position_small l u c.args.keys.now c.args.rows p.0 p.1 p.2 c.loop-j.invariant c.loop-j-test.true)

pub last_before-last-requires : goal.last_before-last-requires
last_before-last-requires c =
    let l = c.args.lower.now in
    let u = c.args.upper.now in
    let p = c.requires in (
      p.0,
      rows_left l u c.args.keys.now c.args.rows p.0 p.1 p.2,
      c.loop-j.invariant.lower,
      low-enough (goal.at.last_before-last-requires c).After-head-e,
    )

pub seek-here-requires : goal.seek-here-requires
seek-here-requires c =
    (c.loop-j.invariant.upper, omega (arith, low-enough (goal.at.seek-here-requires c).After-head-e))

pub key_of-next-requires : goal.key_of-next-requires
key_of-next-requires c =
    let l = c.args.lower.now in
    let u = c.args.upper.now in
    let p = c.requires in
    let s = c.seek-here.ensures in
    (p.0, rows_left l u c.args.keys.now c.args.rows p.0 p.1 p.2, s.0, s.2)

-- the keys before and at the entry's position

abbrev left : (c : After-key_of-next) → List ℕ
left c = shown c.args.lower.now c.args.keys.now

last-is : (c : After-key_of-next) →
    let e = entry_of c.args.upper.now c.loop-j.j in
    e.kind ≡ ADD → c.last_before-last.result.key ≡ get_or (left c) (e.pos - 1) 0
last-is c = rw c.head-e.ensures at c.last_before-last.ensures.1

next-is : (c : After-key_of-next)
    → c.key_of-next.result ≡ get_or (left c) (entry_of c.args.upper.now c.loop-j.j).pos 0
next-is c =
    c.key_of-next.ensures
    ∙ ap (λ (n : ℕ). get_or (left c) n 0) (c.seek-here.ensures.1 ∙ ap (λ (h : Head). h.pos) c.head-e.ensures)

pub returns-then-not-fits : goal.returns-then-not-fits
returns-then-not-fits c =
    let l = c.args.lower.now in
    let u = c.args.upper.now in
    let p = c.requires in
    let g = c.loop-j.invariant in
    let k = (goal.at.returns-then-not-fits c).After-key_of-next in (
      stopped l u c.args.keys.now c.args.rows p.0 p.1 p.2 g c.loop-j-test.true _ _ (last-is k) (next-is k)
          (sym c.if-not-fits.true ∙ c.fits.ensures),
      g.named,
    )

pub loop-j-preserved : goal.loop-j-preserved
loop-j-preserved c =
    let l = c.args.lower.now in
    let u = c.args.upper.now in
    let p = c.requires in
    let k = (goal.at.loop-j-preserved c).After-key_of-next in
    let e = c.head-e.ensures in
    rw e (goes l u c.args.keys.now c.args.rows p.0 p.1 p.2 c.loop-j.invariant c.loop-j-test.true _ _
    (last-is k) (next-is k)
    (sym c.if-not-fits.false ∙ c.fits.ensures)
    c.last_before-last.result.mark c.seek-here.result c.last_before-last.ensures.0 c.seek-here.ensures.0
    c.key_by.result (rw e at c.key_by.ensures)
    (omega (arith, c.loop-j-test.true, c.requires.3, c.loop-j.auto)))

pub returns : goal.returns
returns c =
    let l = c.args.lower.now in
    let u = c.args.upper.now in
    let p = c.requires in
    let g = c.loop-j.invariant in
    let e : c.loop-j.j ≡ u.m = omega (arith, c.loop-j.auto, c.loop-j-test.false) in (
      sym e ∙ ended l u c.args.keys.now c.args.rows p.0 p.1 p.2 g c.loop-j-test.false,
      λ j h. g.named j (omega (arith, h)),
    )
