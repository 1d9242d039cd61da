-- Any two outcomes that a call's contract allows are equal: answers, numbers and slices.
-- `Post` is the contract as the call is proved to meet it; κs are its lifetimes, a its arguments, s what is lent at its end.
-- Assumes nothing.
use mathlib.Core.Path.{◌≡◌, sym, ◌∙◌}
use contract.Lifetimes.{Lfts}
use denote.Triple.Clauses.{AtExit}
use borrow.Fn.Kinds.{Dens, ended_of}
use Rattle.words.specs.Answer.{Answer}
use Rattle.order.proofs.Unique.{Unique}
use Rattle.file.proofs.entries.Kinds as entries_kinds
use Rattle.file.proofs.entries.Reads as entries_contract
use Rattle.file.proofs.columns.Kinds as columns_kinds
use Rattle.file.proofs.columns.Reads as columns_contract
use Rattle.file.proofs.rows.Kinds as rows_kinds
use Rattle.file.proofs.rows.Reads as rows_contract
use Rattle.file.proofs.note.Kinds as note_kinds
use Rattle.file.proofs.note.Reads as note_contract
use Rattle.file.proofs.load.Kinds as load_kinds
use Rattle.file.proofs.load.Reads as load_contract

pub entries_unique : Unique 1 entries_kinds.ps entries_kinds.r entries_contract.Post
entries_unique κs lent x y s t p q = p ∙ sym q

pub columns_unique : Unique 1 columns_kinds.ps columns_kinds.r columns_contract.Post
columns_unique κs lent x y s t p q = p ∙ sym q

pub rows_unique : Unique 1 rows_kinds.ps rows_kinds.r rows_contract.Post
rows_unique κs lent x y s t p q = p ∙ sym q

pub note_unique : Unique 1 note_kinds.ps note_kinds.r note_contract.Post
note_unique κs lent x y s t p q = p ∙ sym q

-- of the reader: its answer, and the slice afterwards
module _ (κs : Lfts 2) (a : Dens κs load_kinds.ps) (s s' : AtExit (ended_of 2 load_kinds.ps load_kinds.r) κs) where
  pub load_unique : (r r' : Answer) → load_contract.Post κs a r s → load_contract.Post κs a r' s'
      → (r ≡ r') × (s.1.0.now ≡ s'.1.0.now)
  load_unique r r' p q = (p.0 ∙ sym q.0, p.1 ∙ sym q.1)
