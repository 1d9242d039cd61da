-- Adding a row: its position among the base keys, where its add lands, whether its key is shown, and its entry.
-- Assumes nothing.
use mathlib.Core.Path.{◌≡◌, ap, ◌∙◌}
use Prim.Native.Nat.{ℕ}
use Rattle.model.specs.Row.{key}
use Rattle.words.specs.Entry.{ADD, add_entry}
use Rattle.model.specs.Fit.{keys_below}
use Rattle.model.specs.Read.{keys_after}
use Rattle.model.specs.Refusals.{shown_key}
use Rattle.entry.specs.Look.{edits}
use Rattle.landing.specs.Landing.{aim, landing}
use Rattle.landing.proofs.Landed.{aimed}
use Rattle.plan.proofs.Answers.{may_land}
use Rattle.plan.proofs.Planned.{key_first, add_is}
use Rattle.plan.proofs.add.Goals as goal

pub landing-i-requires : goal.landing-i-requires
landing-i-requires c = may_land c.requires.0

pub returns : goal.returns
returns c =
    let a = c.args in
    let L = edits a.layer.now in
    let ranks : c.below-p.result ≡ keys_below (key a.row.now) a.keys.now =
    c.below-p.ensures ∙ ap (λ (k : ℕ). keys_below k a.keys.now) (key_first a.row.now) in (
      c.is_shown-shown.ensures ∙ ap (λ (k : ℕ). shown_key k (keys_after a.keys.now L)) (key_first a.row.now),
      add_is a.keys.now L a.row.now c.below-p.result c.landing-i.result ranks
          (aimed L c.landing-i.ensures c.new.ensures
          ∙ ap (λ (k : ℕ). landing (aim c.below-p.result ADD k) L) (key_first a.row.now))
          c.add-entry.result (c.add-entry.ensures ∙ ap (add_entry c.below-p.result) c.eight.ensures),
    )
