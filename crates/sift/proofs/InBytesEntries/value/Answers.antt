-- `sift::InBytesEntries::value` meets its contract: entry i of the numbers is the one that stands in the bytes.
-- Assumes nothing.
use Prim.Native.Nat.{ℕ, ◌+◌, ◌*◌}
use native.Mathlib.Omega.{arith}
use mathlib.Core.Path.{sym, ap, ◌∙◌}
use lib.ListN.{get_or}
use Rattle.words.specs.declared.Entry.{Entry}
use Rattle.little.specs.Little.{number_at}
use Rattle.little.proofs.Numbers.{numbers_get}
use Rattle.sift.specs.Bytes.{bytes_entry, bytes_length}
use Rattle.sift.proofs.InBytesEntries.value.Goals as goal

pub at-requires : goal.at-requires
at-requires c = omega (arith, bytes_length c.args.self.now, c.requires.0)

pub returns : goal.returns
returns c =
    let l = c.args.self.now in
    let j = c.args.j in
    let at = l.start + 8 * (c.args.i * (l.c + 2)) in
    c.number_at.ensures
    ∙ ap (λ (i : ℕ). number_at (i + 16 + 8 * j) l.file.now) c.at.ensures.0
    ∙ sym (numbers_get l.c (at + 16) j l.file.now c.requires.1)
    ∙ sym (ap (λ (e : Entry). get_or e.vals j 0) (bytes_entry l c.args.i (omega (arith, bytes_length l, c.requires.0))))
