-- The contracts of `take_some` and `close` make one run: whatever blocks come, all that is written is what is printed for their bytes.
-- `Post` is the contract as the function is proved to meet it; κs are its lifetimes, a its arguments, s what is lent at its end.
-- Assumes nothing.
use mathlib.Core.Path.{◌≡◌}
use mathlib.Core.List.{List, ◌∷◌, ◌++◌}
use Prim.Native.Nat.{ℕ}
use lib.ListN.{take}
use contract.Lifetimes.{Lfts}
use denote.Triple.Clauses.{AtExit}
use borrow.Fn.Kinds.{Dens, ended_of}
use Rattle.base.specs.Base.{Sheet}
use Rattle.intake.specs.declared.Reader.{Reader}
use Rattle.intake.specs.Reading.{Reading}
use Rattle.intake.specs.Reader.{reading_of}
use Rattle.feed.specs.Input.{nothing_read}
use Rattle.console.specs.Told.{printed}
use Rattle.console.specs.Run.{end_to_end, Run, next}
use Rattle.console.proofs.Run.{run_printed}
use Rattle.blocks.specs.declared.Went.{Went}
use Rattle.blocks.specs.Going.{came}
use Rattle.blocks.proofs.take_some.Kinds as some_kinds
use Rattle.blocks.proofs.take_some.Reads as some_contract
use Rattle.blocks.proofs.close.Kinds as close_kinds
use Rattle.blocks.proofs.close.Reads as close_contract

-- a block in front of those that follow
module _ (κs : Lfts 2) (a : Dens κs some_kinds.ps) (s : AtExit (ended_of 2 some_kinds.ps some_kinds.r) κs)
    (r : Went) where
  abbrev behind : Reader
  behind = s.0.now

  pub block_next : {blocks texts : List (List ℕ)} {k : Reading} → some_contract.Post κs a r s →
      Run blocks texts (reading_of behind) k →
      Run (take (came a.1.0) a.1.1.0.now ∷ blocks) (take behind.at behind.out ∷ texts) (reading_of a.0.now) k
  block_next p run = next p.0.took.same run

-- the end of the input behind them all
module _ (κs : Lfts 1) (a : Dens κs close_kinds.ps) (s : AtExit (ended_of 1 close_kinds.ps close_kinds.r) κs)
    (r : ℕ) where
  pub all_written : {blocks texts : List (List ℕ)} (x : Sheet) → close_contract.Post κs a r s →
      Run blocks texts (nothing_read x) (reading_of a.0.now) →
      end_to_end texts ++ take r s.0.now.out ≡ printed (end_to_end blocks) x
  all_written x p run = run_printed x run p.0
