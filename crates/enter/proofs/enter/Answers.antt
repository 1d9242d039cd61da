-- One splice is two of which the second is none; a value that is set needs no room.
-- Assumes nothing.
use borrow.Author.Tests.{le-ltb}
use native.Mathlib.Omega.{arith}
use mathlib.Core.Path.{◌≡◌, refl}
use Prim.Native.Nat.{◌+◌, ◌-◌, ◌≤◌}
use lib.ListN.{length}
use Rattle.model.specs.Raw.{room}
use Rattle.store.specs.Numbers.{arrivals}
use Rattle.store.proofs.Laws.{room_of}
use Rattle.splice.specs.Splice.{count_two}
use Rattle.enter.specs.Move.{none_at}
use Rattle.enter.proofs.Laws.{two_none}
use Rattle.enter.proofs.enter.Goals as goal

pub enter_two-requires : goal.enter_two-requires
enter_two-requires c =
    let w = rw c.in-Entries.is at c.requires in
    rw c.none.ensures (w.0, record { first = w.1; second = omega arith })

pub returns-in-Entries : goal.returns-in-Entries
returns-in-Entries c =
    let a = c.args in
    let p = c.in-Entries.p in
    let e : count_two a.m p (none_at a.m) ≡ a.m + arrivals p.comes - p.gone = omega arith in
    rw (c.in-Entries.is, ← e, ← two_none a.c a.m p a.layer.now) (rw c.none.ensures at c.enter_two.ensures)

pub enter_two-requires-in-Both : goal.enter_two-requires-in-Both
enter_two-requires-in-Both c = rw c.in-Both.is at c.requires

pub returns-in-Both : goal.returns-in-Both
returns-in-Both c = rw c.in-Both.is c.enter_two-in-Both.ensures

pub set_value-requires : goal.set_value-requires
set_value-requires c = let h = c.requires in (h.0, rw c.in-Number.is at h.1)

pub returns-in-Number : goal.returns-in-Number
returns-in-Number c =
    let a = c.args in
    let H = c.requires.0 in
    let l : a.m ≤ room a.c (length a.layer.now) = room_of a.c (length a.layer.now) a.m H.entries H.room in
    rw (c.in-Number.is, le-ltb (room a.c (length a.layer.now)) a.m l) (refl, c.set_value.ensures)
