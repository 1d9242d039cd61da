-- `tally::shift_at` meets its contract: the shift is the adds up to s less the strikes before s, and both are few.
-- Assumes nothing.
use native.Mathlib.Omega.{arith}
use mathlib.Core.Path.{◌≡◌}
use Rattle.model.specs.Position.{add_up_to, strike_before, shift}
use Rattle.entry.specs.Look.{edits}
use Rattle.tally.proofs.Signed.{read_back}
use Rattle.tally.proofs.Small.{count_small, shift_small}
use Rattle.tally.proofs.shift_at.Goals as goal

pub less-requires : goal.less-requires
less-requires c =
    let a = c.args in
    let e = c.counted-w.ensures in
    let x = count_small a.layer.now (add_up_to a.s) in
    let y = count_small a.layer.now (strike_before a.s) in
    (omega (arith, e.0, e.1, x, y), omega (arith, e.0, e.1, x, y))

pub returns : goal.returns
unfolding shift
returns c =
    let a = c.args in
    let l = a.layer.now in
    let L = edits l in
    let e : c.less.result ≡ shift L a.s = rw (← c.counted-w.ensures.0, ← c.counted-w.ensures.1) c.less.ensures in
    read_back c.less.result (shift L a.s) e (shift_small l.c l.m l.numbers.now a.s l.held)
