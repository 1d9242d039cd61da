-- Any two outcomes that a call's contract allows are equal: answers and buffers.
-- `Post` is the contract as the call is proved to meet it; κs are its lifetimes, a its arguments, s what is lent at its end.
-- Assumes nothing.
use mathlib.Core.Path.{◌≡◌, sym, ◌∙◌}
use mathlib.Core.List.{List}
use Prim.Native.Nat.{ℕ}
use contract.Lifetimes.{Lfts}
use denote.Triple.Clauses.{AtExit}
use borrow.Fn.Kinds.{Dens, ended_of}
use Rattle.words.specs.Answer.{Answer}
use Rattle.read.proofs.answer.Kinds as answer_kinds
use Rattle.read.proofs.answer.Reads as answer_contract
use Rattle.read.proofs.read.Kinds as read_kinds
use Rattle.read.proofs.read.Reads as read_contract

-- of the answer alone
module _ (κs : Lfts 2) (a : Dens κs answer_kinds.ps) (s s' : AtExit (ended_of 2 answer_kinds.ps answer_kinds.r) κs) where
  pub answer_unique : (r r' : Answer) → answer_contract.Post κs a r s → answer_contract.Post κs a r' s' → r ≡ r'
  answer_unique r r' p q = p ∙ sym q

-- of the read: its answer, and the buffer afterwards
module _ (κs : Lfts 3) (a : Dens κs read_kinds.ps) (s s' : AtExit (ended_of 3 read_kinds.ps read_kinds.r) κs) where
  abbrev out : AtExit (ended_of 3 read_kinds.ps read_kinds.r) κs → List ℕ
  out t = t.1.1.1.1.1.0.now

  pub read_unique : (r r' : Answer) → read_contract.Post κs a r s → read_contract.Post κs a r' s'
      → (r ≡ r') × (out s ≡ out s')
  read_unique r r' p q = (p.0 ∙ sym q.0, p.1 ∙ sym q.1)
