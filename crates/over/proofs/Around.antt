-- An entry fits, and concerns a key, by the keys around its position.
-- Assumes nothing.
use mathlib.Core.Path.{◌≡◌, refl, sym}
use mathlib.Core.Bool.{Bool, true, false, cond, not, ◌||◌, and-true}
use mathlib.Core.List.{List}
use Prim.Native.Nat.{ℕ, ◌-◌}
use lib.ListN.{length, get_or}
use lib.Dec.{eqb}
use borrow.Author.Tests.{eqb-true, eqb-false, eq-eqb, ne_eqb}
use Rattle.words.specs.declared.Entry.{Entry}
use Rattle.model.specs.Row.{key}
use Rattle.model.specs.Layer.{at}
use Rattle.model.specs.Raw.{edit_of}
use Rattle.words.specs.Entry.{ADD, STRIKE}
use Rattle.model.specs.Meaning.{key_of}
use Rattle.theory.proofs.Edits.{deed_by}
use Rattle.head.specs.declared.Head.{Head}
use Rattle.head.specs.Head.{head_of}
use Rattle.suit.specs.Suit.{first, suits_ahead, add_fits, fits_after}
use Rattle.suit.proofs.Looks.{add_fits_lem, suits_strike, suits_change, rises_other}
use Rattle.over.specs.Over.{fits_by, named_by}

module _ (N : List ℕ) (e : Entry) (es : List Entry) (last next : ℕ) (d : Head)
    (hl : e.kind ≡ ADD → last ≡ get_or N (e.pos - 1) 0) (hn : next ≡ get_or N e.pos 0) where
  pub fits_by_lem : fits_by (length N) last next d e es ≡ fits_after N d.pos d.kind d.first e es
  fits_by_lem = go (eqb e.kind ADD) refl (eqb e.kind STRIKE) refl
    where
      go : (a : Bool) → eqb e.kind ADD ≡ a → (b : Bool) → eqb e.kind STRIKE ≡ b
          → cond a (add_fits (length N) last next d.pos d.kind d.first e es) (not b || eqb next (first e))
          ≡ fits_after N d.pos d.kind d.first e es
      go true f b g =
          add_fits_lem N e es last next d.pos d.kind d.first (eqb-true e.kind ADD f) (λ z. hl (eqb-true e.kind ADD f)) (λ z. hn)
      go false f b g =
          rw (
            rises_other d.pos d.kind d.first e.pos e.kind (first e) (eqb-false e.kind ADD f),
            and-true,
          )
          (by b g)
        where
          by : (b : Bool) → eqb e.kind STRIKE ≡ b → not b || eqb next (first e) ≡ suits_ahead N e es
          by true g = rw (suits_strike N e es (eqb-true e.kind STRIKE g), hn)
          by false g = sym (suits_change N e es (eqb-false e.kind ADD f) (eqb-false e.kind STRIKE g))

  pub named_by_lem : named_by (head_of e) next ≡ key_of N (edit_of e)
  unfolding key
  named_by_lem = go (eqb e.kind ADD) (eqb e.kind STRIKE)
    where
      go : (a b : Bool)
          → cond (a || b) (first e) next ≡ key_of N (at e.pos (deed_by a b e.vals (first e) e.kind))
      go true b = refl
      go false true = refl
      go false false = hn

-- what is left of the test, by the entry's kind
module _ (n last next : ℕ) (d : Head) (e : Entry) (es : List Entry) where
  pub fits_add : e.kind ≡ ADD → add_fits n last next d.pos d.kind d.first e es ≡ fits_by n last next d e es
  fits_add h = rw (eq-eqb e.kind ADD h)

  pub fits_strike : (e.kind ≡ ADD → ⊥) → e.kind ≡ STRIKE → eqb next (first e) ≡ fits_by n last next d e es
  fits_strike g h = rw (ne_eqb e.kind ADD g, eq-eqb e.kind STRIKE h)

  pub fits_change : (e.kind ≡ ADD → ⊥) → (e.kind ≡ STRIKE → ⊥) → true ≡ fits_by n last next d e es
  fits_change g h = rw (ne_eqb e.kind ADD g, ne_eqb e.kind STRIKE h)
