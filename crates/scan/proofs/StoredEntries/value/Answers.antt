-- `scan::StoredEntries::value` meets its contract: entry i of the layer is the one that stands there.
-- Assumes nothing.
use native.Mathlib.Omega.{arith}
use mathlib.Core.Path.{sym, ap, ◌∙◌}
use lib.ListN.{get_or}
use Rattle.words.specs.declared.Entry.{Entry}
use Rattle.scan.specs.Slice.{slice_entry, slice_length}
use Rattle.scan.proofs.StoredEntries.value.Goals as goal

pub value-requires : goal.value-requires
value-requires c =
    let l = c.args.self.now in
    (omega (arith, slice_length l, c.requires.0), c.requires.1)

pub returns : goal.returns
returns c =
    let l = c.args.self.now in
    c.value.ensures
    ∙ sym (ap (λ (e : Entry). get_or e.vals c.args.j 0)
    (slice_entry l c.args.i (omega (arith, slice_length l, c.requires.0))))
