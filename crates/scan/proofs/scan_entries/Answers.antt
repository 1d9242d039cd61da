-- `scan::scan_entries` meets its contract: the pass is as `Scanning` says at every turn.
-- Assumes nothing.
use native.Mathlib.Omega.{arith}
use mathlib.Core.Path.{◌≡◌, sym, ap, ◌∙◌}
use mathlib.Core.Bool.{Bool, ◌&&◌, and-false}
use Prim.Native.Nat.{◌<◌}
use lib.ListN.{length, get_or}
use Rattle.model.specs.Raw.{none}
use Rattle.scan.specs.Scan.{good_after, follows_kind}
use Rattle.scan.proofs.Scanning.{onward, stop, end}
use Rattle.scan.proofs.scan_entries.Goals as goal
use Rattle.scan.proofs.scan_entries.Goals.{After-head-e, After-follows}

here : (g : _) (c : After-head-e g) → c.loop-i.i < length (g.E.Entries.entries c.args.es.now)
here g c = omega (arith, c.loop-i-test.true, c.count-i-end.ensures)

-- what the two tests of a turn say together
judged : (g : _) (c : After-follows g) → let es = c.args.es.now in
    good_after (g.E.Entries.columns es) c.args.n c.loop-i.d.pos c.loop-i.d.kind (get_or (g.E.Entries.entries es) c.loop-i.i none)
    ≡ (c.alone_good.result && c.follows.result)
judged g c = rw (c.alone_good.ensures, c.follows.ensures, c.head-e.ensures)

pub returns-then-not-alone_good : goal.returns-then-not-alone_good
returns-then-not-alone_good g c =
    let d = c.loop-i.d in
    let e = get_or (g.E.Entries.entries c.args.es.now) c.loop-i.i none in
    stop c.loop-i.invariant (here g (goal.at.returns-then-not-alone_good g c).After-head-e)
    (ap (λ (b : Bool). b && follows_kind d.pos d.kind e.pos e.kind) (sym c.alone_good.ensures ∙ c.if-not-alone_good.true))

pub returns-then-not-follows : goal.returns-then-not-follows
returns-then-not-follows g c =
    stop c.loop-i.invariant (here g (goal.at.returns-then-not-follows g c).After-head-e)
    (judged g (goal.at.returns-then-not-follows g c).After-follows ∙ rw (c.if-not-follows.true, and-false))

pub loop-i-preserved : goal.loop-i-preserved
loop-i-preserved g c =
    rw (c.with-found.ensures, c.head-e.ensures)
    (onward c.loop-i.invariant (here g (goal.at.loop-i-preserved g c).After-head-e)
    (judged g (goal.at.loop-i-preserved g c).After-follows ∙ rw (c.if-not-alone_good.false, c.if-not-follows.false)))

pub returns : goal.returns
returns g c = end c.loop-i.invariant (omega (arith, c.loop-i-test.false, c.count-i-end.ensures))
