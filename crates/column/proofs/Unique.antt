-- Any two outcomes that the reader's contract allows are equal: the row count and the buffer.
-- `Post` is the contract as it is proved to meet it; κs are its lifetimes, a its arguments, s what is lent at its end.
-- Assumes nothing.
use mathlib.Core.Path.{◌≡◌, sym, ◌∙◌}
use Prim.Native.Nat.{ℕ}
use contract.Lifetimes.{Lfts}
use denote.Triple.Clauses.{AtExit}
use borrow.Fn.Kinds.{Dens, ended_of}
use Rattle.column.proofs.read_part.Kinds as core_kinds
use Rattle.column.proofs.read_part.Reads as core_contract

module _ (κs : Lfts 4) (a : Dens κs core_kinds.ps) (s s' : AtExit (ended_of 4 core_kinds.ps core_kinds.r) κs) where
  pub read_part_unique : (r r' : ℕ) → core_contract.Post κs a r s → core_contract.Post κs a r' s'
      → (r ≡ r') × (s.1.1.1.0.now ≡ s'.1.1.1.0.now)
  read_part_unique r r' p q = (p.0 ∙ sym q.0, p.1 ∙ sym q.1)
