-- Each name that the part goes by is one part of the two slices: the base itself, or what begins where a slice begins.
-- Assumes nothing.
use mathlib.Core.Path.{◌≡◌, refl, sym, ap, ◌∙◌}
use Rattle.std.specs.Prelude.{Some}
use lib.ListN.{length}
use lib.Seq.{length-take-le}
use Rattle.model.specs.Read.{whole_base, buffer_front}
use Rattle.model.specs.Calls.{view_part}
use Rattle.view.proofs.Viewing.{front_within, is_base, is_front, is_nothing}
use Rattle.view.proofs.view.Goals as goal
use Rattle.view.proofs.view.Goals.{In-Some-Base, In-Some-Front}

-- the part, by what the match tells
whole : (c : In-Some-Base) → let a = c.args in
    view_part a.c a.m a.layer.now a.base.now a.j (length a.out.now) ≡ whole_base
whole c =
    let e = c.in-Some-Base.is ∙ ap Some (rw c.in-Some-Base.is at c.in-Some-Base.field-0-is) in
    is_base _ _ _ (sym e ∙ c.view_part-p.ensures)

front : (c : In-Some-Front) → let a = c.args in
    view_part a.c a.m a.layer.now a.base.now a.j (length a.out.now) ≡ buffer_front c.in-Some-Front.rows
front c =
    let e = c.in-Some-Front.is ∙ ap Some (rw c.in-Some-Front.is at c.in-Some-Front.field-0-is) in
    is_front _ _ _ (sym e ∙ c.view_part-p.ensures)

pub slice_bounds-result-end : goal.slice_bounds-result-end
slice_bounds-result-end c =
    let a = c.args in
    let k = c.in-Some-Front.rows in
    let e = front (goal.at.slice_bounds-result-end c).In-Some-Front in
    sym (length-take-le k a.out.now (front_within a.c a.m a.layer.now a.base.now a.j (length a.out.now) k e))

pub slice_bounds-result-end-in-None : goal.slice_bounds-result-end-in-None
slice_bounds-result-end-in-None c = refl

pub returns-in-Some-Base : goal.returns-in-Some-Base
returns-in-Some-Base c =
    rw (whole (goal.at.returns-in-Some-Base c).In-Some-Base) (record { numbers = refl; place = refl })

pub returns-in-Some-Front : goal.returns-in-Some-Front
returns-in-Some-Front c =
    rw (front (goal.at.returns-in-Some-Front c).In-Some-Front) (record { numbers = refl; place = refl })

pub returns-in-None : goal.returns-in-None
returns-in-None c = rw (is_nothing _ _ (sym c.in-None.is ∙ c.view_part-p.ensures)) (record { numbers = refl; place = refl })
