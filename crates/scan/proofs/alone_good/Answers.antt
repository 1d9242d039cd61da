-- `scan::alone_good` meets its contract: by the entry's kind, what is left of the rules is one test.
-- Assumes nothing.
use borrow.Author.Tests.{eq-eqb, ne_eqb}
use mathlib.Core.Path.{◌≡◌, sym, ap, ◌∙◌}
use mathlib.Core.Bool.{Bool, ◌&&◌, and-true, and-false}
use lib.ListN.{get_or, drop}
use lib.Dec.{leb, eqb}
use Rattle.order.specs.Lists.{all}
use Rattle.words.specs.Entry.{ADD}
use Rattle.model.specs.Raw.{none}
use Rattle.head.specs.declared.Head.{Head}
use Rattle.scan.specs.Scan.{alone_good}
use Rattle.scan.proofs.Laws.{alone_add, alone_other}
use Rattle.scan.proofs.alone_good.Goals as goal
use Rattle.scan.proofs.alone_good.Goals.{After-base_good}

pub returns-then-e-eq-ADD : goal.returns-then-e-eq-ADD
returns-then-e-eq-ADD g c =
    let a = c.args in
    let es = a.es.now in
    let e = get_or (g.E.Entries.entries es) a.i none in
    ap (λ (h : Head). leb h.pos a.n) c.head-e.ensures
    ∙ sym (alone_add (g.E.Entries.columns es) a.n e (g.met.E.Entries.wide es a.i c.requires)
    (eq-eqb e.kind ADD (sym (ap (λ (h : Head). h.kind) c.head-e.ensures) ∙ c.if-e-eq-ADD.true)))

-- no add: its values after the first are zero, and it stands and changes as the rules say
other : (g : _) (c : After-base_good g) → let a = c.args in
    let e = get_or (g.E.Entries.entries a.es.now) a.i none in
    alone_good (g.E.Entries.columns a.es.now) a.n e ≡ (all (λ v. eqb v 0) (drop 1 e.vals) && c.base_good.result)
other g c =
    let a = c.args in
    let e = get_or (g.E.Entries.entries a.es.now) a.i none in
    let k = ap (λ (h : Head). h.kind) c.head-e.ensures in
    alone_other (g.E.Entries.columns a.es.now) a.n e (ne_eqb e.kind ADD (λ h. c.if-e-eq-ADD.false (k ∙ h)))
    ∙ ap (λ (b : Bool). all (λ v. eqb v 0) (drop 1 e.vals) && b) (sym (rw (c.columns.ensures, c.head-e.ensures) at c.base_good.ensures))

pub returns-then-not-base_good : goal.returns-then-not-base_good
returns-then-not-base_good g c =
    sym (other g (goal.at.returns-then-not-base_good g c).After-base_good ∙ rw (c.if-not-base_good.true, and-false))

pub returns : goal.returns
returns g c =
    sym (other g (goal.at.returns g c).After-base_good ∙ rw (c.if-not-base_good.false, c.tail_zero.ensures, and-true))
