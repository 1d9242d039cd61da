-- `suit::fits_after` meets its contract: by the entry's kind, what is left of the rules is one test.
-- Assumes nothing.
use mathlib.Core.Path.{◌∙◌}
use mathlib.Core.Bool.{and-true}
use Rattle.entry.specs.Look.{entry_of, entries_from}
use Rattle.suit.specs.Suit.{first}
use Rattle.suit.proofs.Looks.{suits_strike, suits_change, rises_other, add_fits_lem}
use Rattle.suit.proofs.fits_after.Goals as goal

pub returns-then-e-eq-ADD : goal.returns-then-e-eq-ADD
returns-then-e-eq-ADD c =
    let a = c.args in
    let l = a.layer.now in
    let d = a.d in
    c.add_fits.ensures
    ∙ add_fits_lem a.keys.now (entry_of l a.i) (entries_from l a.i)
    c.key_before-last.result c.key_there-next.result d.pos d.kind d.first
    (rw c.head-e.ensures at c.if-e-eq-ADD.true) (λ z. rw c.head-e.ensures at c.key_before-last.ensures)
    (λ z. rw c.head-e.ensures at c.key_there-next.ensures)

pub returns-then-e-eq-STRIKE : goal.returns-then-e-eq-STRIKE
returns-then-e-eq-STRIKE c =
    let a = c.args in
    let l = a.layer.now in
    let e = entry_of l a.i in
    rw (
      suits_strike a.keys.now e (entries_from l a.i) (rw c.head-e.ensures at c.if-e-eq-STRIKE.true),
      rises_other a.d.pos a.d.kind a.d.first e.pos e.kind (first e) (rw c.head-e.ensures at c.if-e-eq-ADD.false),
      c.head-e.ensures,
      and-true,
    )

pub returns : goal.returns
returns c =
    let a = c.args in
    let l = a.layer.now in
    let e = entry_of l a.i in
    rw (
      suits_change a.keys.now e (entries_from l a.i) (rw c.head-e.ensures at c.if-e-eq-ADD.false)
          (rw c.head-e.ensures at c.if-e-eq-STRIKE.false),
      rises_other a.d.pos a.d.kind a.d.first e.pos e.kind (first e) (rw c.head-e.ensures at c.if-e-eq-ADD.false),
    )
