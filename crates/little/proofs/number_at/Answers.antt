-- `little::number_at` meets its contract: the eight bytes that it reads are those of the number.
-- Assumes nothing.
use mathlib.Core.Path.{◌∙◌}
use Rattle.little.proofs.Bytes.{from_bytes, number_bytes}
use Rattle.little.proofs.number_at.Goals as goal

pub returns : goal.returns
returns c =
    c.from_le_bytes.ensures ∙ (from_bytes _ _ _ _ _ _ _ _ ∙ number_bytes c.args.file.now c.args.at c.requires)
