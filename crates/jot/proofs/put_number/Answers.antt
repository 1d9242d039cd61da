-- `jot::put_number` meets its contract: the number's bytes are pasted.
-- Assumes nothing.
use Rattle.jot.proofs.Written.{put_eight}
use Rattle.jot.proofs.put_number.Goals as goal

pub returns : goal.returns
returns c = put_eight c.args.file.now _ c.args.at c.args.v c.copy_from_slice.ensures.after c.to_le_bytes.ensures
