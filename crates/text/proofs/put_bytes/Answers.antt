-- `text::put_bytes` meets its contract: the bytes are pasted.
-- Assumes nothing.
use Rattle.text.proofs.Writing.{wrote_part}
use Rattle.text.proofs.put_bytes.Goals as goal

pub returns : goal.returns
returns c = wrote_part c.args.bytes.now _ c.args.out.now c.args.at c.copy_from_slice.ensures.after
