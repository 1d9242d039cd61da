-- `Reader::end_line` meets its contract: the line is heard, and its message is written.
-- Assumes nothing.
use mathlib.Core.Path.{refl}
use Rattle.intake.proofs.Taking.{ended, writes_on}
use Rattle.intake.proofs.Reader.end_line.Goals as goal

pub returns : goal.returns
returns c =
    let w = c.say-self.ensures in
    (ended c.hear-said.ensures refl refl w.0 w.1, writes_on w.0, refl)
