-- A table is lent whole if its rows fit between its columns, and its columns into the slice.
-- Assumes nothing.
use mathlib.Core.Path.{ap}
use mathlib.Core.Bool.{Bool, ◌&&◌}
use lib.Dec.{leb}
use Rattle.renumber.proofs.Answers.{fits_times}
use Rattle.renumber.proofs.lent_whole.Goals as goal

pub returns : goal.returns
returns c =
    let a = c.args in
    ap (λ (b : Bool). leb a.n a.w && b) (fits_times a.c a.w a.len c.requires)
