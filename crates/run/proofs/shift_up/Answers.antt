-- Moving a run up, the last number first: those from k on are pasted w places higher.
-- Assumes nothing.
use native.Mathlib.Omega.{arith}
use native.Mathlib.Nat.{sub_self}
use mathlib.Core.Path.{◌≡◌, refl, ap, ◌∙◌}
use Prim.Native.Nat.{ℕ, ◌+◌, ◌-◌}
use lib.ListN.{length-set, drop}
use lib.Seq.{paste, paste-zero}
use Rattle.run.proofs.Laws.{up_more}
use borrow.Author.Rules.{rules}
use Rattle.run.proofs.shift_up.Goals as goal

pub loop-k-init : goal.loop-k-init
loop-k-init c =
    let a = c.args in
    (search rules, search rules, refl, rw sub_self (paste-zero a.layer.now (a.b + a.w) (drop a.b a.layer.now)))

pub loop-k-preserved : goal.loop-k-preserved
loop-k-preserved c =
    let a = c.args in (
      omega arith,
      omega arith,
      simp length-set c.loop-k.invariant.2,
      up_more c.loop-k.layer a.layer.now c.loop-k.k a.b a.w
          (omega arith) c.loop-k.invariant.1 c.requires.1 c.loop-k.invariant.3,
    )

pub shape_of-layer : goal.shape_of-layer
shape_of-layer c = c.loop-k.invariant.2

pub returns : goal.returns
returns c =
    let a = c.args in
    let e : c.loop-k.k ≡ a.a = omega arith in
    c.loop-k.invariant.3 ∙ ap (λ (n : ℕ). paste a.layer.now (n + a.w) (drop n a.layer.now) (a.b - n)) e
