-- `sift::InBytesEntries::head` meets its contract: entry i of the numbers is the one that stands in the bytes.
-- Assumes nothing.
use Prim.Native.Nat.{ℕ, ◌+◌, ◌*◌}
use native.Mathlib.Omega.{arith}
use mathlib.Core.Path.{◌≡◌, sym, ap, ◌∙◌}
use lib.ListN.{get_or}
use Rattle.little.specs.Little.{number_at, numbers_at}
use Rattle.little.proofs.Numbers.{numbers_get}
use Rattle.sift.specs.Bytes.{bytes_entry, bytes_length}
use Rattle.sift.proofs.InBytesEntries.head.Goals as goal

pub at-at-requires : goal.at-at-requires
at-at-requires c = omega (arith, bytes_length c.args.self.now, c.requires)

pub returns : goal.returns
returns c =
    let l = c.args.self.now in
    let f = l.file.now in
    let s = l.start + 8 * (c.args.i * (l.c + 2)) in
    let e = c.at-at.ensures.0 in
    let z : c.at-at.result + 16 ≡ s + 16 + 8 * 0 = omega (arith, e) in
    let v : c.number_at-3.result ≡ get_or (numbers_at l.c (s + 16) f) 0 0 =
    c.number_at-3.ensures ∙ ap (λ (i : ℕ). number_at i f) z ∙ sym (numbers_get l.c (s + 16) 0 f l.held.some) in
    rw (bytes_entry l c.args.i (omega (arith, bytes_length l, c.requires)), ← v, c.number_at.ensures, c.number_at-2.ensures, e)
