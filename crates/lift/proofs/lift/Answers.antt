-- Taking a row number out: the base row or the added entry behind it.
-- Assumes nothing.
use native.Mathlib.Omega.{arith}
use mathlib.Core.Path.{◌≡◌, sym, ◌∙◌}
use mathlib.Core.Bool.{false}
use Prim.Native.Nat.{ℕ, ◌+◌, ◌*◌, ◌≤◌, ◌<◌}
use lib.ListN.{length}
use Rattle.words.specs.declared.Origin.TheVariants.{Base as base, Added as added}
use Rattle.order.proofs.Ascending.{At, at_length}
use Rattle.model.specs.Row.{Row}
use Rattle.model.specs.Layer.{at, add, struck}
use Rattle.entry.specs.Look.{edits}
use Rattle.model.specs.Position.{back}
use Rattle.landing.proofs.Known.{known}
use Rattle.plan.proofs.Answers.{may_look}
use Rattle.plan.proofs.Planned.{of_base, of_added}
use Rattle.lift.proofs.Between.{gone_below, gone_own}
use Rattle.lift.proofs.Taken.{values_in, values_of, base_taken_lem, added_taken}
use Rattle.lift.proofs.lift.Goals as goal
use Rattle.lift.proofs.lift.Goals.{After-out-splice, In-Base}

pub origin_of-requires : goal.origin_of-requires
origin_of-requires c = may_look c.requires.0 c.requires.1

-- it is a base row
of_row : (c : In-Base) → let a = c.args in
    let s = c.in-Base.s in
    let L = edits a.layer.now in
    (back (length a.keys.now) L a.r ≡ base s) × (s < length a.keys.now) × (struck s L ≡ false)
of_row c =
    let e = sym c.origin_of.ensures ∙ c.in-Base.is in
    let w = of_base (known c.requires.0) c.args.r c.requires.1 _ e in
    (e, w.0, w.1)

pub strike_base-splice-requires : goal.strike_base-splice-requires
strike_base-splice-requires c =
    let w = of_row (goal.at.strike_base-splice-requires c).In-Base in
    (c.requires.0, w.1, w.2)

pub overflow_add-end : goal.overflow_add-end
overflow_add-end c =
    let N = known c.requires.0 in
    let w = of_row (goal.at.overflow_add-end c).In-Base in
    omega (arith, gone_below N _ w.2 _ c.strike_base-splice.ensures, N.acc.held.entries)

pub shown_row-row-requires : goal.shown_row-row-requires
shown_row-row-requires c =
    let a = c.args in
    let p = c.requires in
    let N = known c.requires.0 in
    let w = of_row (goal.at.shown_row-row-requires c).In-Base in
    let e = c.strike_base-splice.ensures in
    let g = gone_below N _ w.2 _ e in
    let v = values_of p.0 a.w a.table.now p.2 p.3 p.4 _ w.1 in
    (g, v.0, v.1, gone_own N _ w.2 _ e)

-- it is an added entry
of_entry : (c : After-out-splice) → let a = c.args in
    let i = c.in-Added.i in
    let L = edits a.layer.now in
    (back (length a.keys.now) L a.r ≡ added i) × (s : ℕ) × (q : Row) × At (at s (add q)) i 0 L
of_entry c =
    let e = sym c.origin_of.ensures ∙ c.in-Added.is in
    let w = of_added (known c.requires.0) c.args.r c.requires.1 _ e in
    (e, w.0, w.1, w.2)

-- where its values stand
there : (c : After-out-splice) → let a = c.args in
    let i = c.in-Added.i in
    (i * (a.layer.now.c + 2) ≤ 5120) × (i * (a.layer.now.c + 2) + 2 + a.layer.now.c ≤ length a.layer.now.numbers.now)
there c =
    let a = c.args in
    let N = known c.requires.0 in
    let l = a.layer.now in
    values_in l.c l.m _ l.numbers.now N.acc.held (omega (arith, at_length (of_entry c).3, N.acc.size))

pub overflow_mul-i : goal.overflow_mul-i
overflow_mul-i c = omega (arith, (there (goal.at.overflow_mul-i c).After-out-splice).0)

pub overflow_add-i : goal.overflow_add-i
overflow_add-i c = omega (arith, (there (goal.at.overflow_add-i c).After-out-splice).0)

pub row_at-row-requires : goal.row_at-row-requires
row_at-row-requires c =
    let w = there (goal.at.row_at-row-requires c).After-out-splice in
    ((known c.requires.0).acc.held.columns, omega (arith, w.1), omega (arith, w.1))

pub returns-in-Base : goal.returns-in-Base
returns-in-Base c =
    let a = c.args in
    let p = c.requires in
    base_taken_lem p.0 a.w a.table.now p.2 p.3 p.4 a.r p.1 _ (of_row (goal.at.returns-in-Base c).In-Base)
    c.strike_base-splice.result c.shown_row-row.result c.strike_base-splice.ensures c.shown_row-row.ensures

pub returns-in-Added : goal.returns-in-Added
returns-in-Added c =
    let a = c.args in
    let p = c.requires in
    added_taken p.0 a.w a.table.now p.2 p.3 p.4 a.r p.1 _ (of_entry (goal.at.returns-in-Added c).After-out-splice)
    c.out-splice.result c.row_at-row.result c.out-splice.ensures c.row_at-row.ensures
