-- `feed::end_input` meets its contract: bytes that are kept are a line that has begun.
-- Assumes nothing.
use native.Mathlib.Omega.{arith}
use mathlib.Core.Path.{refl}
use lib.Seq.{length-take-le}
use Rattle.text.proofs.Writing.{wrote_none}
use Rattle.feed.specs.Input.{anew}
use Rattle.feed.proofs.Feeding.{closed_none, closed_line}
use Rattle.feed.proofs.end_input.Goals as goal

pub returns-then-reader-gt0 : goal.returns-then-reader-gt0
returns-then-reader-gt0 c =
    let s = c.args.reader.now in
    let size = length-take-le s.kept s.line (omega (arith, s.short)) in
    let w = c.end_line.ensures in
    let z = closed_line (omega (arith, size, c.if-reader-gt0.true)) w.0 in
    (record { same = z.same; short = z.short; said = z.said }, w.1 s.out (wrote_none s.out 0), w.2)

pub returns-else-reader-gt0 : goal.returns-else-reader-gt0
returns-else-reader-gt0 c =
    let s = c.args.reader.now in
    let z = closed_none (anew s) (omega (arith, c.if-reader-gt0.false)) in
    (record { same = z.same; short = z.short; said = z.said }, wrote_none s.out 0, refl)
