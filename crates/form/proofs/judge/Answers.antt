-- `form::judge` meets its contract: an entry at fault, then the row total.
-- Assumes nothing.
use native.Mathlib.Omega.{arith}
use mathlib.Core.Path.{◌∙◌}
use Rattle.scan.proofs.Laws.{at_fault, too_many, in_form}
use Rattle.form.proofs.judge.Goals as goal

pub returns-then-place-m : goal.returns-then-place-m
returns-then-place-m c =
    let s = c.args in
    c.refused.ensures ∙ at_fault s.n s.m s.s.place s.s.adds s.s.strikes c.if-place-m.true

pub returns-then-most-shown : goal.returns-then-most-shown
returns-then-most-shown c =
    let s = c.args in
    c.refused-then-most-shown.ensures
    ∙ too_many s.n _ s.s.place s.s.adds s.s.strikes c.if-place-m.false
    c.if-most-shown.true

pub overflow_sub-result : goal.overflow_sub-result
overflow_sub-result c =
    omega (arith, c.requires.struck c.if-place-m.false)

pub returns : goal.returns
returns c =
    let s = c.args in
    in_form s.n s.m s.s.place s.s.adds s.s.strikes c.if-place-m.false
    c.if-most-shown.false
