-- `Reader::keep` meets its contract: a byte within the room is kept, and one past it is not.
-- Assumes nothing.
use native.Mathlib.Omega.{arith}
use mathlib.Core.Path.{refl}
use Rattle.intake.proofs.Taking.{keep_full, keep_more}
use Rattle.intake.proofs.Reader.keep.Goals as goal

pub returns-then-self-lt65 : goal.returns-then-self-lt65
returns-then-self-lt65 c =
    let s = c.args.self.now in
    (rw (keep_more s.line s.kept c.args.b (omega arith) c.if-self-lt65.true) refl, refl, refl)

pub returns-else-self-lt65 : goal.returns-else-self-lt65
returns-else-self-lt65 c =
    let s = c.args.self.now in
    let full = keep_full s.line s.kept c.args.b (omega arith) s.short (omega (arith, c.if-self-lt65.false)) in
    (rw (← full) refl, refl, refl)
