-- `told::tell_shift` meets its contract: a small integer is read back as itself.
-- Assumes nothing.
use Prim.Native.Nat.{◌≤◌}
use lib.IntN.{nat_abs}
use mathlib.Core.Path.{sym, ap, subst, ◌∙◌}
use Rattle.words.specs.Answer.{shift_number, shift_value, Shifted}
use Rattle.tally.proofs.Signed.{read_back}
use Rattle.told.proofs.tell_shift.Goals as goal

abbrev Small : Shifted → Type 0
Small a = nat_abs (shift_value a) ≤ 512

pub signed-requires : goal.signed-requires
signed-requires c = subst Small c.in-Err.is c.requires

pub returns-in-Ok : goal.returns-in-Ok
returns-in-Ok c =
    let e = sym c.in-Ok.is in
    (ap shift_number e, read_back _ _ (ap shift_value e) c.requires)

pub returns-in-Err : goal.returns-in-Err
returns-in-Err c =
    let e = sym c.in-Err.is in
    (c.number.ensures ∙ ap shift_number e, read_back _ _ (c.signed.ensures ∙ ap shift_value e) c.requires)
