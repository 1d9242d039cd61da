-- `sift::InBytesEntries::count` meets its contract: there are m entries.
-- Assumes nothing.
use mathlib.Core.Path.{sym}
use Rattle.sift.specs.Bytes.{bytes_length}
use Rattle.sift.proofs.InBytesEntries.count.Goals as goal

pub returns : goal.returns
returns c = sym (bytes_length c.args.self.now)
