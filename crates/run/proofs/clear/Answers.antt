-- Clearing from a up to b: the part becomes zeros.
-- Assumes nothing.
use native.Mathlib.Omega.{arith}
use mathlib.Core.Path.{◌≡◌, ap, ◌∙◌}
use Prim.Native.Nat.{ℕ, ◌-◌}
use lib.ListN.{drop, length-drop, replicate}
use Rattle.std.proofs.Common.{length-take-le}
use Rattle.std.proofs.Common.{rules}
use Rattle.run.proofs.Laws.{put_zeros}
use Rattle.run.proofs.clear.Goals as goal

pub returns : goal.returns
returns c =
    let a = c.args in
    put_zeros a.layer.now _ a.a a.b
    (c.fill.ensures.after (λ y e. search rules) ∙ ap (λ (n : ℕ). replicate n 0)
    (length-take-le (a.b - a.a) (drop a.a a.layer.now) (omega (arith, length-drop a.a a.layer.now))))
