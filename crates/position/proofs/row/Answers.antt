-- `position::row` meets its contract: refused as the shift is, else it is the position and its shift.
-- Assumes nothing.
use mathlib.Core.Path.{◌≡◌, sym, ap, ◌∙◌}
use native.Mathlib.Omega.{arith}
use lib.IntN.{ℤ, nat_abs}
use lib.Signed.{non_neg}
use mir.Syntax.{w64}
use mir.Val.{to_z, of_z}
use Rattle.std.proofs.Common.{rules}
use Rattle.std.specs.Prelude.{Ok, Err}
use Rattle.tally.proofs.Signed.{bits_small}
use Rattle.position.proofs.Answers.{Asked, asked, row_shifted}
use Rattle.position.proofs.row.Goals as goal
use Rattle.position.proofs.row.Goals.{In_ok-d}

-- what an answered shift gives
known : (c : In_ok-d) → let a = c.args in
    Asked a.c a.m a.layer.now a.s c.in_ok-d.d
known c = asked _ _ _ _ _ (sym c.shift.ensures ∙ c.in_ok-d.was)

-- the shift, read back from its bits
read : (c : In_ok-d) → to_z w64 (of_z w64 c.in_ok-d.d) ≡ c.in_ok-d.d
read c = bits_small _ (omega (arith, (known c).small))

pub shifted-requires : goal.shifted-requires
shifted-requires c =
    let k = known (goal.at.shifted-requires c).In_ok-d in
    rw (read (goal.at.shifted-requires c).In_ok-d) (k.low, k.small, ap non_neg (sym k.row))

pub returns : goal.returns
returns c =
    let a = c.args in
    let d = (goal.at.returns c).In_ok-d in
    rw (row_shifted a.c a.n a.m a.layer.now a.s, ← c.shift.ensures, c.in_ok-d.was)
    (ap (λ (z : ℤ). Ok (nat_abs z)) (rw (read d) at c.shifted.ensures ∙ sym (known d).row))

pub returns-in_err-d : goal.returns-in_err-d
returns-in_err-d c =
    let a = c.args in
    let e : c.from_residual.result ≡ Err c.in_err-d.field-0.0 = search rules in
    e ∙ sym (row_shifted a.c a.n a.m a.layer.now a.s ∙ rw (← c.shift.ensures, c.in_err-d.was))
