-- Moving a run down, the first number first: those up to k are pasted w places lower.
-- Assumes nothing.
use native.Mathlib.Omega.{arith}
use native.Mathlib.Nat.{sub_self}
use mathlib.Core.Path.{◌≡◌, refl, ap, ◌∙◌}
use Prim.Native.Nat.{ℕ, ◌-◌}
use lib.ListN.{length-set, drop}
use lib.Seq.{paste, paste-zero}
use Rattle.run.proofs.Laws.{down_more}
use borrow.Author.Rules.{rules}
use Rattle.run.proofs.shift_down.Goals as goal

pub loop-k-init : goal.loop-k-init
loop-k-init c =
    let a = c.args in
    (search rules, search rules, refl, rw sub_self (paste-zero a.layer.now (a.a - a.w) (drop a.a a.layer.now)))

pub loop-k-preserved : goal.loop-k-preserved
loop-k-preserved c =
    let a = c.args in
    let pre = c.requires in (
      omega arith,
      omega arith,
      simp length-set c.loop-k.invariant.2,
      down_more c.loop-k.layer a.layer.now a.a c.loop-k.k a.b a.w
          pre.0 c.loop-k.invariant.0 (omega arith) pre.2 c.loop-k.invariant.3,
    )

pub shape_of-layer : goal.shape_of-layer
shape_of-layer c = c.loop-k.invariant.2

pub returns : goal.returns
returns c =
    let a = c.args in
    let e : c.loop-k.k ≡ a.b = omega arith in
    c.loop-k.invariant.3 ∙ ap (λ (n : ℕ). paste a.layer.now (a.a - a.w) (drop a.a a.layer.now) (n - a.a)) e
