-- `Reader::take_byte` meets its contract: a line feed ends the line, any other byte is kept.
-- Assumes nothing.
use Rattle.intake.proofs.Taking.{took_line, took_byte, writes_none}
use Rattle.intake.proofs.Reader.take_byte.Goals as goal

pub returns-then-b-eq10 : goal.returns-then-b-eq10
returns-then-b-eq10 c =
    let w = c.end_line.ensures in
    (took_line _ c.if-b-eq10.true w.0, w.1)

pub returns-else-b-eq10 : goal.returns-else-b-eq10
returns-else-b-eq10 c =
    let w = c.keep.ensures in
    (took_byte c.args.b c.if-b-eq10.false w.0 w.1, writes_none w.1 w.2)
