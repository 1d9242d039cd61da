-- Any two outcomes that a call's contract allows are equal: answers, numbers and slices.
-- `Post` is the contract as the call is proved to meet it; κs are its lifetimes, a its arguments, s what is lent at its end.
-- Assumes nothing.
use mathlib.Core.Path.{◌≡◌, sym, ◌∙◌}
use contract.Lifetimes.{Lfts}
use denote.Triple.Clauses.{AtExit}
use borrow.Fn.Kinds.{Dens, ended_of}
use Rattle.words.specs.Answer.{Answer}
use Rattle.save.proofs.save.Kinds as save_kinds
use Rattle.save.proofs.save.Reads as save_contract

-- of the writer: its answer, and the bytes afterwards
module _ (κs : Lfts 2) (a : Dens κs save_kinds.ps) (s s' : AtExit (ended_of 2 save_kinds.ps save_kinds.r) κs) where
  pub save_unique : (r r' : Answer) → save_contract.Post κs a r s → save_contract.Post κs a r' s'
      → (r ≡ r') × (s.1.1.1.1.0.now ≡ s'.1.1.1.1.0.now)
  save_unique r r' p q = (p.0 ∙ sym q.0, p.1 ∙ sym q.1)
