-- Where the first part moves up the second is moved before it, else after it: either way both arrive as they stood.
-- Assumes nothing.
use native.Mathlib.Omega.{arith}
use Rattle.slide.proofs.Moves.{up_last, down_first}
use Rattle.slide.proofs.two.Goals as goal

pub returns-then-p : goal.returns-then-p
returns-then-p c =
    let a = c.args in
    up_last a.p a.q a.layer.now c.requires c.one.new.layer c.one-then-p.new.layer (omega arith)
    c.one.ensures c.one-then-p.ensures

pub returns : goal.returns
returns c =
    let a = c.args in
    down_first a.p a.q a.layer.now c.requires c.one-2.new.layer c.one-3.new.layer (omega arith)
    c.one-2.ensures c.one-3.ensures
