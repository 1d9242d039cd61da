-- `walk::advance` meets its contract: at every turn all that is passed stands before e.
-- Assumes nothing.
use native.Mathlib.Omega.{arith}
use mathlib.Core.Path.{◌≡◌, sym, ap, ◌∙◌}
use Prim.Native.Nat.{ℕ, ◌<◌}
use lib.Dec.{eqb}
use Rattle.model.specs.Raw.{edit_of}
use Rattle.words.specs.Entry.{ADD, STRIKE}
use Rattle.model.specs.Edits.{before}
use Rattle.theory.proofs.Raw.{layer_length}
use Rattle.head.specs.declared.Head.{Head}
use Rattle.head.specs.Head.{seen}
use Rattle.head.proofs.Heads.{head_before}
use Rattle.entry.specs.Look.{edits, entry_of}
use Rattle.entry.proofs.Looks.{Here}
use Rattle.scan.proofs.ByKind.{add_kind, strike_kind}
use Rattle.walk.proofs.Marks.{entry_here, few, marks_past, early_next, parted_stop, parted_end}
use Rattle.walk.proofs.advance.Goals as goal
use Rattle.walk.proofs.advance.Goals.{After-stands_before}

-- in a turn: the mark is at the entry of the turn, and the test is by the entry itself

below : (c : After-stands_before) → c.loop-i.k.i < c.args.layer.now.m
below c = omega (arith, c.loop-i.invariant.0, c.loop-i-test.true)

this : (c : After-stands_before) → let l = c.args.layer.now in
    Here (edits l) c.loop-i.k.i (edit_of (entry_of l c.loop-i.k.i))
this c = entry_here c.args.layer.now c.loop-i.k.i (below c)

judged : (c : After-stands_before) → let a = c.args in
    c.stands_before.result ≡ before (edit_of (entry_of a.layer.now c.loop-i.k.i)) (seen a.e)
judged c =
    let a = c.args in
    c.stands_before.ensures
    ∙ (ap (λ (h : Head). before (seen h) (seen a.e)) c.head-d.ensures
    ∙ (head_before (entry_of a.layer.now c.loop-i.i) (seen a.e)
    ∙ ap (λ (n : ℕ). before (edit_of (entry_of a.layer.now n)) (seen a.e)) (sym c.loop-i.invariant.0)))

pub returns-then-not-stands_before : goal.returns-then-not-stands_before
returns-then-not-stands_before c =
    let s = (goal.at.returns-then-not-stands_before c).After-stands_before in
    let v = c.loop-i.invariant in
    (v.1, parted_stop v.2 c.requires.0 (this s) (sym (judged s) ∙ c.if-not-stands_before.true))

pub past-k-requires : goal.past-k-requires
past-k-requires c =
    let s = (goal.at.past-k-requires c).After-stands_before in
    let l = c.args.layer.now in
    let f = few c.loop-i.invariant.1 in
    let n = layer_length l.c l.m l.numbers.now in (
      omega (arith, below s, l.held.entries),
      omega (arith, f.0, n, l.held.entries),
      omega (arith, f.1, n, l.held.entries),
    )

pub loop-i-preserved : goal.loop-i-preserved
loop-i-preserved c =
    let s = (goal.at.loop-i-preserved c).After-stands_before in
    let v = c.loop-i.invariant in
    let d = entry_of c.args.layer.now c.loop-i.k.i in
    let is : c.head-d.result.kind ≡ d.kind =
    ap (λ (h : Head). h.kind) c.head-d.ensures ∙ ap (λ (n : ℕ). (entry_of c.args.layer.now n).kind) (sym v.0) in
    rw c.past-k.ensures (
      omega (arith, v.0),
      marks_past v.1 c.head-d.result.kind (this s) (ap (λ (n : ℕ). eqb n ADD) is ∙ sym (add_kind d))
          (ap (λ (n : ℕ). eqb n STRIKE) is ∙ sym (strike_kind d)),
      early_next v.2 (this s) (sym (judged s) ∙ c.if-not-stands_before.false),
    )

pub returns : goal.returns
returns c =
    let l = c.args.layer.now in
    let v = c.loop-i.invariant in
    (v.1, parted_end v.2 (omega (arith, v.0, c.loop-i-test.false, layer_length l.c l.m l.numbers.now)))
