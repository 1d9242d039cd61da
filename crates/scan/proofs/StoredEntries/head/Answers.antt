-- `scan::StoredEntries::head` meets its contract: entry i of the layer is the one that stands there.
-- Assumes nothing.
use native.Mathlib.Omega.{arith}
use mathlib.Core.Path.{sym, ap, ◌∙◌}
use Rattle.head.specs.Head.{head_of}
use Rattle.scan.specs.Slice.{slice_entry, slice_length}
use Rattle.scan.proofs.StoredEntries.head.Goals as goal

pub head-requires : goal.head-requires
head-requires c =
    let l = c.args.self.now in
    omega (arith, slice_length l, c.requires)

pub returns : goal.returns
returns c =
    let l = c.args.self.now in
    c.head.ensures
    ∙ sym (ap head_of (slice_entry l c.args.i (omega (arith, slice_length l, c.requires))))
