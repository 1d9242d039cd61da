-- `meet::changes_ahead` meets its contract: the invariant says that what is passed and what is ahead are the whole.
-- Assumes nothing.
use mathlib.Core.Path.{◌≡◌}
use Prim.Native.Nat.{◌+◌}
use lib.ListN.{drop}
use Rattle.woven.specs.Woven.{changes_ahead}
use Rattle.entry.specs.Look.{edits}
use Rattle.meet.proofs.changes_ahead.Given as goal

abbrev pub invariant-loop-i : goal.invariant-loop-i
invariant-loop-i l =
    l.from + changes_ahead l.p (drop l.from (edits l.layer)) ≡ l.i + changes_ahead l.p (drop l.i (edits l.layer))
