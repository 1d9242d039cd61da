-- What each call's contract allows is the outcome of its step, over any table whose keys were lent, or over the table that was
-- lent whole; and any two outcomes are equal.
-- `Post` is the contract as the call is proved to meet it; κs are its lifetimes, a its arguments, s what is lent at its
-- end.
-- Assumes nothing.
use mathlib.Core.Path.{◌≡◌, sym, ◌∙◌}
use mathlib.Core.Bool.{true}
use mathlib.Core.List.{List}
use Prim.Native.Nat.{ℕ, ◌*◌}
use lib.ListN.{length}
use lib.Dec.{leb}
use contract.Lifetimes.{Lfts}
use denote.Triple.Clauses.{AtExit}
use borrow.Fn.Kinds.{Dens, ended_of}
use Rattle.words.specs.Answer.{Answer}
use Rattle.model.specs.Row.{Table, keys, columnwise}
use Rattle.model.specs.Cell.{to}
use Rattle.model.specs.Steps.{Step, adding, striking, changing, renumbering}
use Rattle.edit.specs.Runs.{Allows}
use Rattle.add.proofs.add.Kinds as add_kinds
use Rattle.add.proofs.add.Reads as add_contract
use Rattle.strike.proofs.strike.Kinds as strike_kinds
use Rattle.strike.proofs.strike.Reads as strike_contract
use Rattle.change.proofs.change.Kinds as change_kinds
use Rattle.change.proofs.change.Reads as change_contract
use Rattle.renumber.proofs.renumber.Kinds as renumber_kinds
use Rattle.renumber.proofs.renumber.Reads as renumber_contract

-- the answer and the slice that a contract says
one_outcome : {r r' x : Answer} {new new' y : List ℕ} → (r ≡ x) × (new ≡ y) → (r' ≡ x) × (new' ≡ y) → (r ≡ r') × (new ≡ new')
one_outcome p q = (p.0 ∙ sym q.0, p.1 ∙ sym q.1)

module _ (κs : Lfts 3) (a : Dens κs add_kinds.ps) where
  abbrev adds : Step
  adds = adding a.1.1.1.1.0.now

  module _ (s : AtExit (ended_of 3 add_kinds.ps add_kinds.r) κs) where
    pub add_outcome : (T : Table) → keys T ≡ a.1.1.1.0.now → (r : Answer) → add_contract.Post κs a r s
        → Allows a.0 a.1.0 a.1.1.0.now T adds r s.1.1.0.now
    add_outcome T e r p = rw e p

    pub add_unique : (s' : AtExit (ended_of 3 add_kinds.ps add_kinds.r) κs) (r r' : Answer)
        → add_contract.Post κs a r s → add_contract.Post κs a r' s' → (r ≡ r') × (s.1.1.0.now ≡ s'.1.1.0.now)
    add_unique s' r r' p q = one_outcome p q

module _ (κs : Lfts 2) (a : Dens κs strike_kinds.ps) where
  abbrev strikes : Step
  strikes = striking a.1.1.1.1.0

  module _ (s : AtExit (ended_of 2 strike_kinds.ps strike_kinds.r) κs) where
    pub strike_outcome : (T : Table) → keys T ≡ a.1.1.1.0.now → (r : Answer) → strike_contract.Post κs a r s
        → Allows a.0 a.1.0 a.1.1.0.now T strikes r s.1.1.0.now
    strike_outcome T e r p = rw e p

    pub strike_unique : (s' : AtExit (ended_of 2 strike_kinds.ps strike_kinds.r) κs) (r r' : Answer)
        → strike_contract.Post κs a r s → strike_contract.Post κs a r' s' → (r ≡ r') × (s.1.1.0.now ≡ s'.1.1.0.now)
    strike_unique s' r r' p q = one_outcome p q

module _ (κs : Lfts 2) (a : Dens κs change_kinds.ps) where
  abbrev changes : Step
  changes = changing a.1.1.1.1.0 a.1.1.1.1.1.0 (to a.1.1.1.1.1.1.0)

  module _ (s : AtExit (ended_of 2 change_kinds.ps change_kinds.r) κs) where
    pub change_outcome : (T : Table) → keys T ≡ a.1.1.1.0.now → (r : Answer) → change_contract.Post κs a r s
        → Allows a.0 a.1.0 a.1.1.0.now T changes r s.1.1.0.now
    change_outcome T e r p = rw e p

    pub change_unique : (s' : AtExit (ended_of 2 change_kinds.ps change_kinds.r) κs) (r r' : Answer)
        → change_contract.Post κs a r s → change_contract.Post κs a r' s' → (r ≡ r') × (s.1.1.0.now ≡ s'.1.1.0.now)
    change_unique s' r r' p q = one_outcome p q

module _ (κs : Lfts 2) (a : Dens κs renumber_kinds.ps) where
  abbrev columns : ℕ
  columns = a.0

  abbrev rows : ℕ
  rows = a.1.0

  abbrev table : List ℕ
  table = a.1.1.1.1.0.now

  abbrev renumbers : Step
  renumbers = renumbering a.1.1.1.1.1.0 a.1.1.1.1.1.1.0

  module _ (s : AtExit (ended_of 2 renumber_kinds.ps renumber_kinds.r) κs) where
    pub renumber_outcome : leb (columns * rows) (length table) ≡ true → (r : Answer) → renumber_contract.Post κs a r s
        → Allows columns a.1.1.0 a.1.1.1.0.now (columnwise columns rows rows table) renumbers r
        s.1.1.1.0.now
    renumber_outcome e r p = rw e at p

    pub renumber_unique : (s' : AtExit (ended_of 2 renumber_kinds.ps renumber_kinds.r) κs) (r r' : Answer)
        → renumber_contract.Post κs a r s → renumber_contract.Post κs a r' s'
        → (r ≡ r') × (s.1.1.1.0.now ≡ s'.1.1.1.0.now)
    renumber_unique s' r r' p q = one_outcome p q
