-- `little::read_numbers` meets its contract: after i turns the first i numbers stand in front.
-- Assumes nothing.
use borrow.Author.Rules.{rules}
use native.Mathlib.Omega.{arith}
use mathlib.Core.Path.{refl, ◌∙◌}
use lib.ListN.{length-set}
use lib.Seq.{paste-zero}
use Rattle.little.specs.Little.{numbers_at}
use Rattle.little.proofs.Runs.{read_more, read_end}
use Rattle.little.proofs.read_numbers.Goals as goal

pub loop-i-init : goal.loop-i-init
loop-i-init c =
    let a = c.args in
    (search rules, refl, paste-zero a.out.now 0 (numbers_at a.k a.at a.file.now))

pub loop-i-preserved : goal.loop-i-preserved
loop-i-preserved c =
    let a = c.args in (
      omega arith,
      simp length-set c.loop-i.invariant.1,
      read_more a.file.now a.at a.k a.out.now c.loop-i.out c.loop-i.i _
          c.loop-i.invariant.2 c.loop-i-test.true c.requires.1 c.number_at.ensures,
    )

pub shape_of-out : goal.shape_of-out
shape_of-out c = c.loop-i.invariant.1

pub returns : goal.returns
returns c =
    let a = c.args in
    c.loop-i.invariant.2 ∙ read_end a.file.now a.at a.k a.out.now c.loop-i.i (omega arith)
