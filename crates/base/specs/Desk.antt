-- What stands on a desk, and a reply that changes the counts alone.
use Rattle.std.specs.Prelude.{◌≡◌, Option}
use Rattle.text.specs.declared.Said.{Said}
use Rattle.base.specs.declared.desk.Desk.{Desk}
use Rattle.base.specs.declared.Reply.{Reply}
use Rattle.base.specs.Base.{Sheet, sheet_of}

-- the lent numbers
abbrev pub sheet_on : Desk → Sheet
sheet_on t = sheet_of t.table t.layer

-- the counts of the desk after a line, and what was said of it
abbrev pub reply_on : Desk → Option Said → Reply
reply_on t said = record { counts = t.counts; said = said }

-- what is owed for a reply that changes the counts alone
pub record Replied (r : Reply) (s t : Desk) (said : Option Said) : Type 0 where
  pub reply : reply_on t said ≡ r
  pub table : t.table ≡ s.table
  pub layer : t.layer ≡ s.layer
