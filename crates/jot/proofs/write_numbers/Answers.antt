-- `jot::write_numbers` meets its contract: after i turns the bytes of the first i numbers stand in front.
-- Assumes nothing.
use borrow.Author.Rules.{rules}
use native.Mathlib.Omega.{arith}
use mathlib.Core.Path.{◌≡◌, refl, ap, ◌∙◌}
use Rattle.jot.proofs.Written.{front, write_start, write_more}
use Rattle.jot.proofs.write_numbers.Goals as goal

pub loop-i-init : goal.loop-i-init
loop-i-init c = (search rules, refl, write_start c.args.numbers.now c.args.file.now)

pub loop-i-preserved : goal.loop-i-preserved
loop-i-preserved c =
    let p = c.put_number in
    let a = c.args in (
      omega arith,
      c.put_number.auto.file ∙ c.loop-i.invariant.1,
      p.ensures ∙ write_more a.numbers.now a.file.now c.loop-i.file c.loop-i.i c.loop-i.invariant.2 (omega arith),
    )

pub shape_of-file : goal.shape_of-file
shape_of-file c = c.loop-i.invariant.1

pub returns : goal.returns
returns c =
    let a = c.args in
    let e : c.loop-i.i ≡ a.k = omega arith in
    c.loop-i.invariant.2 ∙ ap (front a.numbers.now a.file.now) e
