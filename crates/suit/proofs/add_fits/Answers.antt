-- `suit::add_fits` meets its contract: past the last row nothing more is asked, and only an equal key looks ahead.
-- Assumes nothing.
use Rattle.entry.specs.Look.{entry_of, entries_from}
use Rattle.suit.proofs.Looks.{add_past, add_other, add_same}
use Rattle.suit.proofs.add_fits.Goals as goal

pub returns-then-n-e : goal.returns-then-n-e
returns-then-n-e c =
    let a = c.args in
    let l = a.layer.now in
    let d = a.d in
    rw (c.rises.ensures, c.head-e.ensures)
    (add_past a.n a.last a.next d.pos d.kind d.first (entry_of l a.i) (entries_from l a.i)
    (rw c.head-e.ensures at c.if-n-e.true))

pub returns-then-e-next : goal.returns-then-e-next
returns-then-e-next c =
    let a = c.args in
    let l = a.layer.now in
    let d = a.d in
    rw (c.rises.ensures, c.head-e.ensures)
    (add_other a.n a.last a.next d.pos d.kind d.first (entry_of l a.i) (entries_from l a.i)
    (rw c.head-e.ensures at c.if-n-e.false) (rw c.head-e.ensures at c.if-e-next.true))

pub returns : goal.returns
returns c =
    let a = c.args in
    let l = a.layer.now in
    let d = a.d in
    rw (c.rises.ensures, c.strike_ahead.ensures, c.head-e.ensures)
    (add_same a.n a.last a.next d.pos d.kind d.first (entry_of l a.i) (entries_from l a.i)
    (rw c.head-e.ensures at c.if-n-e.false) (rw c.head-e.ensures at c.if-e-next.false))
