-- `entry::Stored::look` meets its contract: past the last entry stands nothing, else what the entry does.
-- Assumes nothing.
use mathlib.Core.Path.{sym}
use Rattle.entry.proofs.Looks.{stored_end}
use Rattle.entry.proofs.slice.Stored.look.Goals as goal

pub returns-then-self-i : goal.returns-then-self-i
returns-then-self-i c = sym (rw (stored_end c.args.self.now c.args.i c.if-self-i.true))
