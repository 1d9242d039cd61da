-- `files::last_bytes`: each turn takes at most 40 bytes.
-- Assumes nothing.
use Prim.Native.Nat.{◌-◌, ◌≤◌}
use Rattle.files.proofs.last_bytes.Given as goal

abbrev pub invariant-loop-len : goal.invariant-loop-len
invariant-loop-len l =
    l.len ≤ 41

abbrev pub decreases-loop-len : goal.decreases-loop-len
decreases-loop-len l =
    41 - l.len
