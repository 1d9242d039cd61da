-- `scan::scan_entries` meets its contract: the pass is as `Scanning` says at every turn.
-- Assumes nothing.
use Rattle.scan.proofs.Scanning.{Scanning}
use Rattle.scan.proofs.scan_entries.Given as goal

abbrev pub invariant-loop-i : goal.invariant-loop-i
invariant-loop-i g l =
    Scanning (g.E.Entries.columns l.es) l.n (g.E.Entries.entries l.es) l.i l.d l.found
