-- `probe::whole` meets its contract: the length, the limits, the trailer, then what the pass over the entries finds.
-- Assumes nothing.
use native.Mathlib.Omega.{arith}
use mathlib.Core.Path.{◌≡◌, sym, ap, ◌∙◌}
use mathlib.Core.Bool.{true, false}
use mathlib.Core.List.{List}
use Prim.Native.Nat.{ℕ, ◌≤◌}
use lib.ListN.{length}
use Rattle.std.proofs.Common.{rules}
use Rattle.std.specs.Prelude.{Ok, Err}
use Rattle.model.specs.Form.{args_ok}
use Rattle.model.specs.Calls.{form_answer}
use Rattle.form.proofs.Formed as form
use Rattle.format.specs.File.{reach, entries, columns, rows, layer_numbers, misfits}
use Rattle.probe.proofs.Answers.{
  too_short,
  past_limits,
  no_match,
  form_refused,
  form_done,
  args_numbers,
  few,
  few_numbers,
  in_file,
  test_is,
  reaches,
  form_is,
}
use Rattle.probe.proofs.whole.Goals as goal
use Rattle.probe.proofs.whole.Goals.{After-judge, Else-back-reach, Else-not-args_ok}

pub returns-then-len-lt32 : goal.returns-then-len-lt32
returns-then-len-lt32 c = c.refused.ensures ∙ too_short _ c.if-len-lt32.true

-- the limits, as code has read the trailer and as the file has it
limits : (f : List ℕ) {m c n : ℕ} → m ≡ entries f → c ≡ columns f → n ≡ rows f
    → args_ok (columns f) (rows f) (entries f) 5120 ≡ args_ok c n m 5120
limits f em ec en = λ i. args_ok (sym ec i) (sym en i) (sym em i) 5120

pub returns-then-not-args_ok : goal.returns-then-not-args_ok
returns-then-not-args_ok c =
    let t = c.trailer_of-t.ensures in
    c.refused-then-not-args_ok.ensures
    ∙ past_limits _ c.if-len-lt32.false (limits _ t.1 t.2 t.3 ∙ sym c.args_ok.ensures ∙ c.if-not-args_ok.true)

-- the limits are kept
passed : (c : Else-not-args_ok) → let t = c.trailer_of-t.result in args_ok t.columns t.rows t.entries 5120 ≡ true
passed c = sym c.args_ok.ensures ∙ c.if-not-args_ok.false

kept-limits : (c : Else-not-args_ok) → let f = c.args.file.now in args_ok (columns f) (rows f) (entries f) 5120 ≡ true
kept-limits c = limits _ c.trailer_of-t.ensures.1 c.trailer_of-t.ensures.2 c.trailer_of-t.ensures.3 ∙ passed c

pub overflow_add-reach : goal.overflow_add-reach
overflow_add-reach c =
    omega (arith, few _ _ _ c.args.file.now (passed (goal.at.overflow_add-reach c).Else-not-args_ok))

pub overflow_mul-reach : goal.overflow_mul-reach
overflow_mul-reach c =
    omega (arith, few_numbers _ _ _ c.args.file.now (passed (goal.at.overflow_mul-reach c).Else-not-args_ok))

pub overflow_mul-reach-2 : goal.overflow_mul-reach-2
overflow_mul-reach-2 c =
    omega (arith, few_numbers _ _ _ c.args.file.now (passed (goal.at.overflow_mul-reach-2 c).Else-not-args_ok))

pub overflow_add-reach-2 : goal.overflow_add-reach-2
overflow_add-reach-2 c =
    omega (arith, few_numbers _ _ _ c.args.file.now (passed (goal.at.overflow_add-reach-2 c).Else-not-args_ok))

pub overflow_add-reach-3 : goal.overflow_add-reach-3
overflow_add-reach-3 c =
    omega (arith, few_numbers _ _ _ c.args.file.now (passed (goal.at.overflow_add-reach-3 c).Else-not-args_ok))

pub returns-then-back-reach : goal.returns-then-back-reach
returns-then-back-reach c =
    let t = c.trailer_of-t.ensures in
    c.refused-then-back-reach.ensures
    ∙ no_match _ c.if-len-lt32.false (kept-limits (goal.at.returns-then-back-reach c).Else-not-args_ok)
    (sym (test_is _ _ _ _ t.0 t.1 t.2) ∙ c.if-back-reach.true)

-- the trailer fits
fits : (c : Else-back-reach) → misfits c.args.file.now ≡ false
fits c =
    sym (test_is _ _ _ _ c.trailer_of-t.ensures.0 c.trailer_of-t.ensures.1 c.trailer_of-t.ensures.2)
    ∙ c.if-back-reach.false

whole : (c : Else-back-reach) → let t = c.trailer_of-t.result in reach t.columns t.entries ≤ length c.args.file.now
whole c =
    reaches _ _ _ _ c.trailer_of-t.ensures.1 c.trailer_of-t.ensures.2 c.trailer_of-t.ensures.3 (fits c)

pub overflow_sub-len : goal.overflow_sub-len
overflow_sub-len c = whole (goal.at.overflow_sub-len c).Else-back-reach

pub scan_file-requires : goal.scan_file-requires
scan_file-requires c =
    in_file _ _ _ _ (passed (goal.at.scan_file-requires c).Else-not-args_ok)
    (whole (goal.at.scan_file-requires c).Else-back-reach)

pub judge-requires : goal.judge-requires
judge-requires c =
    form.judged _ _ _ _ (args_numbers _ _ _ _ (passed (goal.at.judge-requires c).Else-not-args_ok) _) _ _ _
    c.scan_file.ensures

-- the form check of the file's numbers
judged : (c : After-judge) → misfits c.args.file.now ≡ false → let f = c.args.file.now in
    c.judge.result ≡ form_answer (columns f) (rows f) (entries f) (layer_numbers f)
judged c h =
    c.judge.ensures
    ∙ form.judges _ _ _ _ (args_numbers _ _ _ _ (sym c.args_ok.ensures ∙ c.if-not-args_ok.false) _) _ _ _
    c.scan_file.ensures
    ∙ form_is _ _ _ _ c.trailer_of-t.ensures.1 c.trailer_of-t.ensures.2 c.trailer_of-t.ensures.3 h

pub returns-in_err-judge : goal.returns-in_err-judge
returns-in_err-judge c =
    let p = goal.at.returns-in_err-judge c in
    let h = fits p.Else-back-reach in
    let e : c.from_residual.result ≡ Err c.in_err-judge.field-0.0 = search rules in
    e
    ∙ form_refused _ c.if-len-lt32.false (kept-limits p.Else-not-args_ok) h _
    (sym (judged p.After-judge h) ∙ c.in_err-judge.was)

pub returns : goal.returns
returns c =
    let p = goal.at.returns c in
    let h = fits p.Else-back-reach in
    ap Ok c.trailer_of-t.ensures.1
    ∙ form_done _ c.if-len-lt32.false (kept-limits p.Else-not-args_ok) h _
    (sym (judged p.After-judge h) ∙ c.in_ok-judge.was)
