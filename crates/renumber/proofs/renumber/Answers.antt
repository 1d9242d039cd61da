-- `renumber::renumber` meets its contract: columns end to end start as many numbers apart as there are rows.
-- Assumes nothing.
use Rattle.renumber.proofs.Answers.{end_to_end_lem}
use Rattle.renumber.proofs.renumber.Goals as goal

pub returns : goal.returns
returns c =
    let a = c.args in
    end_to_end_lem a.c a.n a.m a.layer.now a.table.now a.r a.g _ _ c.renumber_apart.ensures
