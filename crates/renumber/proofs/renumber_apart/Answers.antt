-- `renumber::renumber_apart` meets its contract: the refusals in the table's order, then the row that is shown.
-- Assumes nothing.
use Prim.Native.Nat.{◌*◌, ◌≤◌}
use mathlib.Core.Path.{◌≡◌, refl, sym, ◌∙◌}
use mathlib.Core.Bool.{true, ◌&&◌}
use lib.ListN.{length, take}
use lib.Seq.{length-take-le}
use lib.Dec.{leb}
use Rattle.std.proofs.Common.{rules}
use Rattle.std.specs.Prelude.{Err}
use Rattle.plan.proofs.Answers.{refuses}
use Rattle.renumber.proofs.Answers.{some_column, bad_args_lem, bad_table, in_slice, refused_before, no_row, asked, ends}
use Rattle.renumber.proofs.renumber_apart.Goals as goal
use Rattle.renumber.proofs.renumber_apart.Goals.{Else-not-args_ok, Else-not-lent_whole}

pub returns-then-not-args_ok : goal.returns-then-not-args_ok
returns-then-not-args_ok c =
    let a = c.args in
    refuses a.c a.m a.layer.now _ _ c.refused.result _ c.refused.ensures
    (bad_args_lem a.c a.n a.w a.m a.layer.now a.table.now a.r a.g
    (sym c.args_ok.ensures ∙ c.if-not-args_ok.true))

-- the arguments pass
some : (c : Else-not-args_ok) → 1 ≤ c.args.c
some c =
    let a = c.args in
    some_column a.c a.n a.m (length a.layer.now) (sym c.args_ok.ensures ∙ c.if-not-args_ok.false)

pub lent_whole-requires : goal.lent_whole-requires
lent_whole-requires c = some (goal.at.lent_whole-requires c).Else-not-args_ok

pub returns-then-not-lent_whole : goal.returns-then-not-lent_whole
returns-then-not-lent_whole c =
    let a = c.args in
    refuses a.c a.m a.layer.now _ _ c.refused-then-not-lent_whole.result _ c.refused-then-not-lent_whole.ensures
    (bad_table a.c a.n a.w a.m a.layer.now a.table.now a.r a.g
    (sym c.lent_whole.ensures ∙ c.if-not-lent_whole.true))

-- and the table is lent whole
whole : (c : Else-not-lent_whole) → let a = c.args in
    leb a.n a.w && leb (a.c * a.w) (length a.table.now) ≡ true
whole c = sym c.lent_whole.ensures ∙ c.if-not-lent_whole.false

pub slice_bounds-keys-end : goal.slice_bounds-keys-end
slice_bounds-keys-end c =
    let a = c.args in
    sym (length-take-le a.n a.table.now
    (in_slice a.c a.n a.w a.m a.layer.now a.table.now a.r a.g (some (goal.at.slice_bounds-keys-end c).Else-not-args_ok) (whole (goal.at.slice_bounds-keys-end c).Else-not-lent_whole)))

pub returns-then-rows-r : goal.returns-then-rows-r
returns-then-rows-r c =
    let a = c.args in
    refuses a.c a.m a.layer.now _ _ c.refused-then-rows-r.result _ c.refused-then-rows-r.ensures
    (no_row a.c a.n a.w a.m a.layer.now a.table.now a.r a.g (some (goal.at.returns-then-rows-r c).Else-not-args_ok) (whole (goal.at.returns-then-rows-r c).Else-not-lent_whole)
    (take a.n a.table.now) refl _ (sym c.ready.ensures ∙ c.in_ok-rows.was) c.if-rows-r.true)

pub reseat-requires : goal.reseat-requires
reseat-requires c =
    let a = c.args in
    asked a.c a.n a.w a.m a.layer.now a.table.now a.r a.g (some (goal.at.reseat-requires c).Else-not-args_ok) (whole (goal.at.reseat-requires c).Else-not-lent_whole)
    (take a.n a.table.now) refl _ (sym c.ready.ensures ∙ c.in_ok-rows.was) c.if-rows-r.false

pub returns-in_err-rows : goal.returns-in_err-rows
returns-in_err-rows c =
    let a = c.args in
    let e : c.from_residual.result ≡ Err c.in_err-rows.field-0.0 = search rules in
    refuses a.c a.m a.layer.now _ _ c.from_residual.result _ e
    (refused_before a.c a.n a.w a.m a.layer.now a.table.now a.r a.g (some (goal.at.returns-in_err-rows c).Else-not-args_ok)
    (whole (goal.at.returns-in_err-rows c).Else-not-lent_whole)
    (take a.n a.table.now) refl _ (sym c.ready.ensures ∙ c.in_err-rows.was))

pub returns : goal.returns
returns c =
    let a = c.args in
    ends a.c a.n a.w a.m a.layer.now a.table.now a.r a.g (some (goal.at.returns c).Else-not-args_ok) (whole (goal.at.returns c).Else-not-lent_whole)
    (take a.n a.table.now) refl _ (sym c.ready.ensures ∙ c.in_ok-rows.was) c.if-rows-r.false _ _ c.reseat.ensures
