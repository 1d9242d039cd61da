-- `probe::trailer_of` meets its contract: the last four numbers of the file.
-- Assumes nothing.
use Rattle.sift.proofs.Passing.{trailer_reads}
use Rattle.probe.proofs.trailer_of.Goals as goal

pub returns : goal.returns
returns c =
    trailer_reads c.args.file.now _ _ c.requires c.read_numbers.ensures
