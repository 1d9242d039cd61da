-- Copying by pairs: after each turn the numbers up to `a` are pasted.
-- Assumes nothing.
use native.Mathlib.Omega.{arith}
use mathlib.Core.Path.{◌≡◌, refl, ap, ◌∙◌}
use Prim.Native.Nat.{ℕ, ◌-◌}
use lib.ListN.{drop, length-set}
use lib.Seq.{paste, paste-zero}
use Rattle.pairs.proofs.Laws.{copy_last, copy_two}
use Rattle.pairs.proofs.copy_pairs.Goals as goal

pub loop-a-init : goal.loop-a-init
loop-a-init c =
    let a = c.args in
    let n : 0 ≡ a.at - a.at = omega arith in (
      omega arith,
      c.requires.0,
      refl,
      refl,
      paste-zero a.out.now a.o (drop a.at a.layer.now)
          ∙ ap (paste a.out.now a.o (drop a.at a.layer.now)) n,
    )

pub bounds-out-b-in-loop-a : goal.bounds-out-b-in-loop-a
bounds-out-b-in-loop-a c = simp length-set (omega (arith, c.loop-a.invariant.3))

pub loop-a-preserved : goal.loop-a-preserved
loop-a-preserved c =
    let a = c.args in
    let v = c.loop-a.invariant in (
      omega arith,
      omega arith,
      omega arith,
      simp length-set v.3,
      copy_two a.layer.now a.out.now a.at a.o c.loop-a.out c.loop-a.a c.loop-a.b v.0 v.2 (omega arith)
          (omega arith) v.4,
    )

pub returns-then-a-end : goal.returns-then-a-end
returns-then-a-end c =
    let a = c.args in
    let v = c.loop-a.invariant in
    copy_last a.layer.now a.out.now a.at a.o c.loop-a.out c.loop-a.a c.loop-a.b a.end v.0 v.2
    (omega arith) (omega arith) (omega arith) v.4

pub returns-else-a-end : goal.returns-else-a-end
returns-else-a-end c =
    let a = c.args in
    let n : c.loop-a.a ≡ a.end = omega arith in
    c.loop-a.invariant.4 ∙ ap (λ (i : ℕ). paste a.out.now a.o (drop a.at a.layer.now) (i - a.at)) n
