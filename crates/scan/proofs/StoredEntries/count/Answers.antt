-- `scan::StoredEntries::count` meets its contract: there are m entries.
-- Assumes nothing.
use mathlib.Core.Path.{sym}
use Rattle.scan.specs.Slice.{slice_length}
use Rattle.scan.proofs.StoredEntries.count.Goals as goal

pub returns : goal.returns
returns c = sym (slice_length c.args.self.now)
