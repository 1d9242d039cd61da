-- The part is moved up, or down, or stays.
-- Assumes nothing.
use native.Mathlib.Omega.{arith}
use mathlib.Core.Path.{◌∙◌}
use Rattle.slide.proofs.Moves.{moved_up, moved_down, moved_none}
use Rattle.slide.proofs.one.Goals as goal

pub returns-then-from-to : goal.returns-then-from-to
returns-then-from-to c =
    let a = c.args in
    c.shift_up.ensures ∙ moved_up a.p a.layer.now (omega arith)

pub returns-then-to-from : goal.returns-then-to-from
returns-then-to-from c =
    let a = c.args in
    c.shift_down.ensures ∙ moved_down a.p a.layer.now (omega arith)

pub returns-else-to-from : goal.returns-else-to-from
returns-else-to-from c =
    let a = c.args in
    moved_none a.p a.layer.now (omega arith)
