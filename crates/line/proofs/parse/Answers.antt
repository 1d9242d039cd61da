-- `line::parse` meets its contract: a sign, a space, and one number, two or three.
-- Assumes nothing.
use native.Mathlib.Omega.{arith}
use mathlib.Core.List.{[], ◌∷◌}
use mathlib.Core.Path.{◌≡◌, sym, ap, ◌∙◌}
use lib.ListN.{drop, get_or}
use Rattle.line.specs.Line.{fields, line_of}
use Rattle.line.specs.Fields.{with_fields}
use Rattle.std.specs.Prelude.{Some}
use Rattle.line.proofs.Reading.{ends, goes_on_lem, no_number}
use Rattle.field.proofs.Pass.{next_within}
use Rattle.line.proofs.Sign.{too_short, space_first, no_space, signed}
use Rattle.line.proofs.parse.Goals as goal
use Rattle.line.proofs.parse.Goals.{Else-bytes-ne32}

pub returns-then-bytes-lt2 : goal.returns-then-bytes-lt2
returns-then-bytes-lt2 c = sym (too_short _ (omega arith))

pub returns-then-sign-eq32 : goal.returns-then-sign-eq32
returns-then-sign-eq32 c = sym (space_first _ (omega arith) (omega arith))

pub returns-then-bytes-ne32 : goal.returns-then-bytes-ne32
returns-then-bytes-ne32 c = sym (no_space _ (omega arith) c.if-sign-eq32.false c.if-bytes-ne32.true)

-- the sign, then numbers
after-sign : (c : Else-bytes-ne32) → let xs = c.args.bytes.now in
    line_of xs ≡ with_fields (get_or xs 0 0 ∷ []) [] (fields (drop 2 xs))
after-sign c = signed _ (omega arith) c.if-sign-eq32.false c.if-bytes-ne32.false

pub with_second-requires : goal.with_second-requires
with_second-requires c =
    let a = c.args in
    let found = c.number_at in
    next_within a.bytes.now 2 found.result c.in-More.a c.in-More.next (omega arith) found.ensures (c.in_ok-a.was ∙ ap Some c.in-More.is)

pub returns-in-Last : goal.returns-in-Last
returns-in-Last c =
    let found = c.number_at in
    let xs = c.args.bytes.now in
    c.one.ensures
    ∙ sym
    (after-sign (goal.at.returns-in-Last c).Else-bytes-ne32
    ∙ ends (get_or xs 0 0 ∷ []) [] xs 2 found.result c.in-Last.a found.ensures (c.in_ok-a.was ∙ ap Some c.in-Last.is))

pub returns-in-More : goal.returns-in-More
returns-in-More c =
    let found = c.number_at in
    let xs = c.args.bytes.now in
    c.with_second.ensures
    ∙ sym
    (after-sign (goal.at.returns-in-More c).Else-bytes-ne32
    ∙ goes_on_lem (get_or xs 0 0 ∷ []) [] xs 2 found.result c.in-More.a c.in-More.next found.ensures (c.in_ok-a.was ∙ ap Some c.in-More.is))

pub returns-in_err-a : goal.returns-in_err-a
returns-in_err-a c =
    let found = c.number_at in
    let xs = c.args.bytes.now in
    c.from_residual.ensures
    ∙ sym
    (after-sign (goal.at.returns-in_err-a c).Else-bytes-ne32
    ∙ no_number (get_or xs 0 0 ∷ []) [] xs 2 found.result found.ensures c.in_err-a.was)
