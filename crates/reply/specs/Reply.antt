-- The reply to an edit line.
use Rattle.words.specs.Answer.{Answer}
use Rattle.std.specs.Prelude.{true, ◌+◌, Some, None, Ok, Err}
use Rattle.text.specs.declared.Said.TheVariants.{Refused}
use Rattle.base.specs.declared.Counts.{Counts}
use Rattle.base.specs.declared.Reply.{Reply}

-- an edit line was read, and the edit answered so
abbrev pub entered : Counts → Answer → Reply
entered d (Ok k) = record {
  counts = record { rows = d.rows; entries = k; edited = true; lines = d.lines + 1 };
  said = None;
}
entered d (Err q) = record {
  counts = record { rows = d.rows; entries = d.entries; edited = true; lines = d.lines + 1 };
  said = Some (Refused q.cause);
}
