-- `weave::put_entry` meets its contract: three numbers are written one by one, and the rest of the entry is copied.
-- Assumes nothing.
use native.Mathlib.Omega.{arith}
use mathlib.Core.Path.{◌≡◌, ap, ◌∙◌}
use Prim.Native.Nat.{ℕ, ◌+◌, ◌*◌, ◌≤◌}
use lib.ListN.{length, get_or, length-set}
use Rattle.theory.proofs.Raw.{value_at_lem}
use Rattle.entry.proofs.Looks.{stored_here}
use Rattle.weave.proofs.Buffer.{put_entry}
use Rattle.weave.proofs.put_entry.Goals as goal
use Rattle.weave.proofs.put_entry.Goals.{Start}

-- the entry lies within the slice
room : (c : Start) → let l = c.args.layer.now in c.args.i * (l.c + 2) + (l.c + 2) ≤ length l.numbers.now
room c = stored_here c.args.layer.now c.args.i c.requires.0

pub bounds-out-o-2 : goal.bounds-out-o-2
bounds-out-o-2 c = simp length-set (omega (arith, c.requires.1))

pub bounds-out-o-3 : goal.bounds-out-o-3
bounds-out-o-3 c = simp length-set (omega (arith, c.requires.1))

pub copy_pairs-requires : goal.copy_pairs-requires
copy_pairs-requires c =
    let some = c.args.layer.now.held.some in (
      omega (arith, some),
      room (goal.at.copy_pairs-requires c).Start,
      simp length-set (omega (arith, c.requires.1, some)),
    )

pub returns : goal.returns
returns c =
    let a = c.args in
    let l = a.layer.now in
    let at = a.i * (l.c + 2) in
    let first : c.value-first.result ≡ get_or l.numbers.now (at + 2) 0 =
    c.value-first.ensures ∙ (value_at_lem l.c at 0 l.numbers.now (omega (arith, l.held.some))
    ∙ ap (λ (k : ℕ). get_or l.numbers.now k 0) (omega arith)) in
    put_entry l.c a.p at a.o l.numbers.now a.out.now c.copy_pairs.new.out (room (goal.at.returns c).Start) c.requires.1
    l.held.some (rw (← first, ← c.kind-kind.ensures) c.copy_pairs.ensures)
