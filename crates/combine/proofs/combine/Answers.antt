-- `combine::combine` meets its contract: past the checks of both layers the walk leaves the combination, given room.
-- Assumes nothing.
use native.Mathlib.Omega.{arith}
use mathlib.Core.Path.{◌≡◌, refl, sym, ap, subst, ◌∙◌}
use mathlib.Core.List.{List}
use Prim.Native.Nat.{ℕ, ◌+◌, ◌*◌, ◌≤◌}
use lib.ListN.{length}
use lib.Dec.{ltb}
use Rattle.words.specs.Answer.{Answer}
use Rattle.std.proofs.Common.{rules}
use Rattle.std.specs.Prelude.{Ok, Err}
use Rattle.model.specs.Raw.{room}
use Rattle.over.specs.Over.{over, Named}
use Rattle.turn.specs.Turn.{Both}
use Rattle.stacked.specs.Checked.{both_answer, NamedIf}
use Rattle.stacked.proofs.Answers.{both_refused}
use Rattle.combine.proofs.Joining.{low, up, both, whole, fit, short, there, enough, written_whole, kept}
use Rattle.combine.proofs.combine.Goals as goal
use Rattle.combine.proofs.combine.Goals.{After-more_than, In_ok-check_both}

-- both layers are checked, and the upper one's keys are known

abbrev names : (c : In_ok-check_both) → List ℕ
names c = c.check_both.new.names

done : (c : In_ok-check_both) → let a = c.args in
    both_answer a.c a.keys.now a.mr a.r.now a.mw a.w.now ≡ Ok c.in_ok-check_both.field-0
done c = sym c.check_both.ensures.0 ∙ c.in_ok-check_both.was

named : (c : In_ok-check_both) → let a = c.args in Named a.c (over a.c a.keys.now a.mr a.r.now) a.mw a.w.now (names c)
named c =
    let a = c.args in
    subst (λ (t : Answer). NamedIf t a.c a.keys.now a.mr a.r.now a.mw a.w.now (names c))
    c.in_ok-check_both.was c.check_both.ensures.1

ready : (c : In_ok-check_both) → let a = c.args in
    Both a.c a.keys.now (over a.c a.keys.now a.mr a.r.now) a.mr a.r.now a.mw a.w.now (names c)
ready c = both (fit _ _ _ _ _ _ c.args.out.now _ (done c)) (names c) (named c)
    (omega (arith, c.check_both.auto.names))

pub invariant_of-s : goal.invariant_of-s
invariant_of-s c =
    let f = fit _ _ _ _ _ _ c.args.out.now _ (done (goal.at.invariant_of-s c).In_ok-check_both) in
    record { lower_held = (low f).held; upper_held = (up f).held }

pub room_of-room-requires : goal.room_of-room-requires
room_of-room-requires c =
    let d = done (goal.at.room_of-room-requires c).In_ok-check_both in
    (low (fit _ _ _ _ _ _ c.args.out.now _ d)).held.columns

pub more_than-requires : goal.more_than-requires
more_than-requires c = ready (goal.at.more_than-requires c).In_ok-check_both

-- the room is compared with what both layers make together

abbrev made : (c : After-more_than) → ℕ
made c =
    let a = c.args in
    length (whole a.c a.keys.now a.mr a.r.now a.mw a.w.now)

tested : (c : After-more_than) → ltb (room c.args.c (length c.args.out.now)) (made c) ≡ c.more_than.result
tested c = sym (c.more_than.ensures.0 ∙ ap (λ (n : ℕ). ltb n (made c)) c.room_of-room.ensures)

pub returns-then-more_than : goal.returns-then-more_than
returns-then-more_than c =
    let p = goal.at.returns-then-more_than c in
    let t = tested p.After-more_than ∙ c.if-more_than.true in
    let e = short _ _ _ _ _ _ c.args.out.now _ (done p.In_ok-check_both) t in
    rw c.refused.ensures (e, c.more_than.ensures.1 ∙ kept _ _ _ _ _ _ _ _ e)

pub weave-requires : goal.weave-requires
weave-requires c =
    let a = c.args in
    let p = goal.at.weave-requires c in
    let t = tested p.After-more_than ∙ c.if-more_than.false in (
      ready p.In_ok-check_both,
      λ _. subst (λ (o : List ℕ). made p.After-more_than * (a.c + 2) ≤ length o) (sym c.more_than.ensures.1)
          (there _ _ _ _ _ _ a.out.now _ (done p.In_ok-check_both) t),
    )

pub returns-in_err-check_both : goal.returns-in_err-check_both
returns-in_err-check_both c =
    let a = c.args in
    let k : c.from_residual.result ≡ Err c.in_err-check_both.field-0.0 = search rules in
    let e = both_refused _ _ _ _ _ _ (length a.out.now) _ (sym c.check_both.ensures.0 ∙ c.in_err-check_both.was) in
    (k ∙ e, kept _ _ _ _ _ _ a.out.now _ e)

pub returns : goal.returns
returns c =
    let o = c.args.out.now in
    let d = done (goal.at.returns c).In_ok-check_both in
    let l = tested (goal.at.returns c).After-more_than ∙ c.if-more_than.false in (
      enough _ _ _ _ _ _ o _ d l _ c.weave.ensures.entries,
      written_whole _ _ _ _ _ _ o _ d l _ _ _ c.more_than.ensures.1 (c.weave.ensures.wrote refl),
    )
