-- `vet::form_and_fit` meets its contract: the pass is as `Vetting` says at every turn.
-- Assumes nothing.
use native.Mathlib.Omega.{arith}
use mathlib.Core.Path.{◌≡◌, sym, ◌∙◌}
use mathlib.Core.Bool.{◌&&◌}
use lib.ListN.{length}
use Rattle.theory.proofs.Raw.{entries_length}
use Rattle.entry.specs.Look.{entry_of}
use Rattle.scan.specs.Scan.{good_after}
use Rattle.scan.specs.Slice.{slice_entry}
use Rattle.vet.proofs.Vetting.{sound_here, onward, misformed, unfit, end}
use Rattle.vet.proofs.form_and_fit.Goals as goal
use Rattle.vet.proofs.form_and_fit.Goals.{After-follows}

-- what the two tests of form say together
formed : (c : After-follows) → let l = c.args.layer.now in
    let d = c.loop-i.form in
    (c.alone_good.result && c.follows.result)
    ≡ good_after l.c (length c.args.keys.now) d.pos d.kind (entry_of l c.loop-i.i)
formed c =
    let l = c.args.layer.now in
    rw (c.alone_good.ensures, c.follows.ensures, c.head-e.ensures, slice_entry l c.loop-i.i c.loop-i-test.true)

pub alone_good-requires : goal.alone_good-requires
alone_good-requires c =
    let l = c.args.layer.now in
    omega (arith, c.loop-i-test.true, entries_length l.c l.m 0 l.numbers.now)

pub returns-then-not-alone_good-follows : goal.returns-then-not-alone_good-follows
returns-then-not-alone_good-follows c =
    misformed c.loop-i.invariant c.loop-i-test.true
    (sym (formed (goal.at.returns-then-not-alone_good-follows c).After-follows) ∙ c.if-not-alone_good-follows.true)

pub fits_after-requires : goal.fits_after-requires
fits_after-requires c = (
  c.loop-i-test.true,
  sound_here c.loop-i.invariant
      (sym (formed (goal.at.fits_after-requires c).After-follows) ∙ c.if-not-alone_good-follows.false),
)

pub returns-then-not-fits_after : goal.returns-then-not-fits_after
returns-then-not-fits_after c =
    unfit c.loop-i.invariant c.loop-i-test.true (sym c.fits_after.ensures ∙ c.if-not-fits_after.true)

pub loop-i-preserved : goal.loop-i-preserved
loop-i-preserved c =
    rw (c.with-seen.ensures, c.head-e.ensures)
    (onward c.loop-i.invariant c.loop-i-test.true
    (sym (formed (goal.at.loop-i-preserved c).After-follows) ∙ c.if-not-alone_good-follows.false)
    (sym c.fits_after.ensures ∙ c.if-not-fits_after.false))

pub returns : goal.returns
returns c = end c.loop-i.invariant c.loop-i-test.false
