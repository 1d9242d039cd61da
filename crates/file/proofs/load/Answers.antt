-- `file::load` meets its contract: an empty layer, else the check, the room of the slice, then the numbers.
-- Assumes nothing.
use native.Mathlib.Omega.{arith}
use mathlib.Core.Path.{◌≡◌, sym, ◌∙◌}
use lib.ListN.{length}
use Rattle.std.specs.Prelude.{Ok, Err}
use Rattle.format.specs.File.{file_answer}
use Rattle.probe.proofs.Answers.{
  kept,
  same_width,
  columns_few,
  width_few,
  reaches_in,
  load_written,
  load_refused,
  load_short,
  load_enough,
  load_after,
  load_none,
}
use borrow.Author.Rules.{rules}
use Rattle.file.proofs.load.Goals as goal
use Rattle.file.proofs.load.Goals.{In_ok-m}

pub returns-then-empty : goal.returns-then-empty
returns-then-empty c = load_none _ _ (c.empty.ensures c.if-empty.true)

-- the check is done
accepted : (c : In_ok-m) → file_answer c.args.file.now ≡ Ok c.in_ok-m.m
accepted c = sym c.whole.ensures ∙ c.in_ok-m.was

pub overflow_sub-len : goal.overflow_sub-len
overflow_sub-len c = omega (arith, (kept _ _ (accepted (goal.at.overflow_sub-len c).In_ok-m)).long)

pub number_at-c-requires : goal.number_at-c-requires
number_at-c-requires c = omega (arith, (kept _ _ (accepted (goal.at.number_at-c-requires c).In_ok-m)).long)

pub overflow_add-k : goal.overflow_add-k
overflow_add-k c = omega (arith, columns_few _ _ (accepted (goal.at.overflow_add-k c).In_ok-m) _ c.number_at-c.ensures)

pub overflow_mul-k : goal.overflow_mul-k
overflow_mul-k c = omega (arith, width_few _ _ (accepted (goal.at.overflow_mul-k c).In_ok-m) _ c.number_at-c.ensures)

pub returns-then-layer-k : goal.returns-then-layer-k
returns-then-layer-k c =
    let d = accepted (goal.at.returns-then-layer-k c).In_ok-m in
    let w = same_width _ _ d _ c.number_at-c.ensures in
    let a = c.args in
    let e = load_short a.file.now (length a.layer.now) _ d (omega (arith, w, c.if-layer-k.true)) in
    (c.refused.ensures ∙ e, load_after _ _ _ e)

pub overflow_sub-len-2 : goal.overflow_sub-len-2
overflow_sub-len-2 c =
    reaches_in _ _ (accepted (goal.at.overflow_sub-len-2 c).In_ok-m) _ c.number_at-c.ensures

pub read_numbers-requires : goal.read_numbers-requires
read_numbers-requires c =
    let r = reaches_in _ _ (accepted (goal.at.read_numbers-requires c).In_ok-m) _ c.number_at-c.ensures in
    (omega (arith, r), search rules)

pub returns-in_err-m : goal.returns-in_err-m
returns-in_err-m c =
    let k : c.from_residual.result ≡ Err c.in_err-m.field-0.0 = search rules in
    let e = load_refused _ _ _ (sym c.whole.ensures ∙ c.in_err-m.was) in
    (k ∙ e, load_after _ _ _ e)

pub returns : goal.returns
returns c =
    let d = accepted (goal.at.returns c).In_ok-m in
    let w = same_width _ _ d _ c.number_at-c.ensures in
    let a = c.args in
    let e = load_enough a.file.now (length a.layer.now) _ d (omega (arith, w, c.if-layer-k.false)) in
    (e, c.read_numbers.ensures ∙ load_written _ _ d _ c.number_at-c.ensures _ ∙ load_after _ _ _ e)
