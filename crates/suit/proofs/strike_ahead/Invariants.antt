-- `suit::strike_ahead` meets its contract: what was passed stands at s and strikes nothing.
-- Assumes nothing.
use mathlib.Core.Path.{◌≡◌}
use Rattle.entry.specs.Look.{entries_from}
use Rattle.suit.specs.Suit.{struck_ahead}
use Rattle.suit.proofs.strike_ahead.Given as goal

abbrev pub invariant-loop-j : goal.invariant-loop-j
invariant-loop-j l =
    struck_ahead l.s (entries_from l.layer l.i) ≡ struck_ahead l.s (entries_from l.layer l.j)
