-- Zeros where numbers stood further than they do now, if they did.
-- Assumes nothing.
use native.Mathlib.Omega.{arith}
use mathlib.Core.Path.{◌≡◌, ap, ◌∙◌}
use Prim.Native.Nat.{ℕ, ◌-◌}
use lib.ListN.{replicate}
use lib.Seq.{paste, paste-zero}
use Rattle.slide.proofs.clear_behind.Goals as goal

pub returns-then-stop-end : goal.returns-then-stop-end
returns-then-stop-end c = c.clear.ensures

pub returns-else-stop-end : goal.returns-else-stop-end
returns-else-stop-end c =
    let a = c.args in
    let z : 0 ≡ a.end - a.stop = omega arith in
    paste-zero a.layer.now a.stop (replicate 0 0)
    ∙ ap (λ (n : ℕ). paste a.layer.now a.stop (replicate n 0) n) z
