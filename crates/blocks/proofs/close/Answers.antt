-- `blocks::close` meets its contract: the table stands behind what the last line says.
-- Assumes nothing.
use Rattle.blocks.proofs.Blocks.{closed_text}
use Rattle.blocks.proofs.close.Goals as goal

pub returns : goal.returns
returns c =
    let v = c.end_input.ensures in
    (closed_text v.0 v.1 c.finish.ensures, v.2)
