-- `probe::empty` meets its contract: where the trailer's numbers pass, an empty layer has nothing at fault.
-- Assumes nothing.
use mathlib.Core.Path.{sym}
use mathlib.Core.Bool.{true≢false}
use Rattle.probe.proofs.Answers.{told_empty}
use Rattle.probe.proofs.empty.Goals as goal

pub returns-then-bytes-lt32 : goal.returns-then-bytes-lt32
returns-then-bytes-lt32 c = λ e. absurd (true≢false (sym e))

pub returns-then-m-ne0 : goal.returns-then-m-ne0
returns-then-m-ne0 c = λ e. absurd (true≢false (sym e))

pub returns : goal.returns
returns c =
    let t = c.trailer_of-t.ensures in
    told_empty _ _ _ _ _ t.0 t.1 t.2 t.3 c.if-bytes-lt32.false c.if-m-ne0.false _
    c.args_ok.ensures
