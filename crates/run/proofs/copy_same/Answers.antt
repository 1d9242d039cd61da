-- Copying over a slice of the same length: after k turns the first k numbers are pasted.
-- Assumes nothing.
use native.Mathlib.Omega.{arith}
use mathlib.Core.Path.{refl, ◌∙◌}
use lib.ListN.{length-set}
use lib.Seq.{paste-zero}
use Rattle.run.proofs.Laws.{copy_more, paste_whole}
use borrow.Author.Rules.{rules}
use Rattle.run.proofs.copy_same.Goals as goal

pub loop-k-init : goal.loop-k-init
loop-k-init c = (refl, search rules, refl, paste-zero c.args.dst.now 0 c.args.src.now)

pub loop-k-preserved : goal.loop-k-preserved
loop-k-preserved c =
    let a = c.args in (
      c.loop-k.invariant.0,
      omega arith,
      simp length-set c.loop-k.invariant.2,
      copy_more c.loop-k.dst a.dst.now a.src.now 0 c.loop-k.k c.loop-k.k _
          (omega arith) c.loop-k.invariant.3 (omega arith) (omega arith) refl,
    )

pub shape_of-dst : goal.shape_of-dst
shape_of-dst c = c.loop-k.invariant.2

pub returns : goal.returns
returns c =
    let a = c.args in
    c.loop-k.invariant.3 ∙ paste_whole a.dst.now a.src.now c.loop-k.k c.requires (omega arith)
