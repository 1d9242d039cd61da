-- `told::tell_back` meets its contract: an added entry's number is small, and stands past all rows.
-- Assumes nothing.
use mathlib.Core.Path.{◌≡◌, sym, ap, ◌∙◌}
use Rattle.std.specs.Prelude.{Ok}
use Rattle.words.specs.declared.Origin.TheVariants.{Base, Added}
use Rattle.words.specs.Answer.{back_number, back_value}
use Rattle.told.proofs.tell_back.Goals as goal
use Rattle.told.proofs.tell_back.Goals.{In-Ok-Base, In-Ok-Added}

-- what the match tells
is_base : (c : In-Ok-Base) → Ok (Base c.in-Ok-Base.s) ≡ c.args.a
is_base c = sym (c.in-Ok-Base.is ∙ ap Ok (rw c.in-Ok-Base.is at c.in-Ok-Base.field-0-is))

is_added : (c : In-Ok-Added) → Ok (Added c.in-Ok-Added.i) ≡ c.args.a
is_added c = sym (c.in-Ok-Added.is ∙ ap Ok (rw c.in-Ok-Added.is at c.in-Ok-Added.field-0-is))

pub past_rows-requires : goal.past_rows-requires
past_rows-requires c = c.requires _ (sym (is_added (goal.at.past_rows-requires c).In-Ok-Added))

pub returns-in-Ok-Base : goal.returns-in-Ok-Base
returns-in-Ok-Base c = let e = is_base (goal.at.returns-in-Ok-Base c).In-Ok-Base in (ap back_number e, ap back_value e)

pub returns-in-Ok-Added : goal.returns-in-Ok-Added
returns-in-Ok-Added c =
    let e = is_added (goal.at.returns-in-Ok-Added c).In-Ok-Added in (ap back_number e, c.past_rows.ensures ∙ ap back_value e)

pub returns-in-Err : goal.returns-in-Err
returns-in-Err c = let e = sym c.in-Err.is in (c.number.ensures ∙ ap back_number e, ap back_value e)
