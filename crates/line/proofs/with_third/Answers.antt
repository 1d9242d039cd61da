-- `line::with_third` meets its contract: a third number ends the line.
-- Assumes nothing.
use mathlib.Core.List.{[], ◌∷◌}
use lib.ListN.{drop}
use mathlib.Core.Path.{sym, ap, ◌∙◌}
use Rattle.std.specs.Prelude.{Some}
use Rattle.line.proofs.Reading.{ends, goes_on_lem, no_number}
use Rattle.line.proofs.Sign.{too_many}
use Rattle.line.proofs.with_third.Goals as goal

pub returns-in-Last : goal.returns-in-Last
returns-in-Last c =
    let a = c.args in
    let found = c.number_at in
    c.three.ensures
    ∙ sym (ends (a.sign ∷ []) (a.a ∷ a.b ∷ []) a.bytes.now a.at found.result c.in-Last.c found.ensures (c.in_ok-c.was ∙ ap Some c.in-Last.is))

pub returns-in-More : goal.returns-in-More
returns-in-More c =
    let a = c.args in
    let found = c.number_at in
    let next = c.in-More.field-1 in
    sym
    (goes_on_lem (a.sign ∷ []) (a.a ∷ a.b ∷ []) a.bytes.now a.at found.result c.in-More.field-0 next found.ensures (c.in_ok-c.was ∙ ap Some c.in-More.is)
    ∙ too_many (a.sign ∷ []) a.a a.b c.in-More.field-0 (drop next a.bytes.now))

pub returns-in_err-c : goal.returns-in_err-c
returns-in_err-c c =
    let a = c.args in
    let found = c.number_at in
    c.from_residual.ensures
    ∙ sym
    (no_number (a.sign ∷ []) (a.a ∷ a.b ∷ []) a.bytes.now a.at found.result found.ensures c.in_err-c.was)
