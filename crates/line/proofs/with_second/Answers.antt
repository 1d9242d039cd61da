-- `line::with_second` meets its contract: a second number ends the line, or is followed by a third.
-- Assumes nothing.
use native.Mathlib.Omega.{arith}
use mathlib.Core.List.{[], ◌∷◌}
use mathlib.Core.Path.{sym, ap, ◌∙◌}
use Rattle.std.specs.Prelude.{Some}
use Rattle.line.proofs.Reading.{ends, goes_on_lem, no_number}
use Rattle.field.proofs.Pass.{next_within}
use Rattle.line.proofs.with_second.Goals as goal

pub with_third-requires : goal.with_third-requires
with_third-requires c =
    let a = c.args in
    let found = c.number_at in
    next_within a.bytes.now a.at found.result c.in-More.b c.in-More.next (omega arith) found.ensures (c.in_ok-b.was ∙ ap Some c.in-More.is)

pub returns-in-Last : goal.returns-in-Last
returns-in-Last c =
    let a = c.args in
    let found = c.number_at in
    c.two.ensures
    ∙ sym (ends (a.sign ∷ []) (a.a ∷ []) a.bytes.now a.at found.result c.in-Last.b found.ensures (c.in_ok-b.was ∙ ap Some c.in-Last.is))

pub returns-in-More : goal.returns-in-More
returns-in-More c =
    let a = c.args in
    let found = c.number_at in
    c.with_third.ensures
    ∙ sym
    (goes_on_lem (a.sign ∷ []) (a.a ∷ []) a.bytes.now a.at found.result c.in-More.b c.in-More.next found.ensures
    (c.in_ok-b.was ∙ ap Some c.in-More.is))

pub returns-in_err-b : goal.returns-in_err-b
returns-in_err-b c =
    let a = c.args in
    let found = c.number_at in
    c.from_residual.ensures
    ∙ sym (no_number (a.sign ∷ []) (a.a ∷ []) a.bytes.now a.at found.result found.ensures c.in_err-b.was)
