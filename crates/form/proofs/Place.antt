-- The pass that looks at the one entry before finds the place of the scope, which looks at all the earlier entries.
-- Assumes nothing.
use Prim.Native.Nat.{ℕ, zero, suc, ◌≤◌}
use native.Mathlib.Omega.{arith}
use mathlib.Core.Path.{◌≡◌, refl, ap, ◌∙◌}
use mathlib.Core.Bool.{Bool, true, false, cond, ◌&&◌, ◌||◌}
use mathlib.Core.List.{List, [], ◌∷◌}
use lib.ListN.{length}
use lib.Dec.{ltb, eqb}
use Rattle.order.proofs.Pairs.{AllPairs}
use Rattle.order.proofs.Tests.{lex_lt}
use Rattle.order.proofs.Neighbours.{least_after, from_start}
use Rattle.words.specs.declared.Entry.{Entry}
use Rattle.model.specs.Raw.{edit_of}
use Rattle.words.specs.Entry.{ADD}
use Rattle.model.specs.Form.{zeros, sound, follows, form_place}
use Rattle.scan.specs.Scan.{alone_good, good_after, good_from, good}
use Rattle.scan.proofs.ByKind.{follows_kind_lem, follows_trans}

step : (t : Bool) {u : Bool} (e : Entry) (es : List Entry) {k : ℕ} → t ≡ u → length es ≡ k
    → length (cond t (e ∷ es) []) ≡ cond u (suc k) 0
step true e es p q = rw (← p) (ap suc q)
step false e es p q = rw (← p)

-- before the first entry stands, as it were, an add at position 0, which anything may follow
abbrev start : Entry
start = record { pos = 0; kind = ADD; vals = [] }

from_zero : (s : ℕ) → (ltb 0 s || (eqb 0 s && true)) ≡ true
from_zero zero = refl
from_zero (suc s) = lex_lt 0 (suc s) true (omega arith)

-- the rule that any two entries obey
abbrev any : Entry → Entry → Bool
any d e = true

abbrev sure : Entry → Bool
sure e = true

any_pairs : (es : List Entry) → AllPairs any es
any_pairs [] = tt
any_pairs (e ∷ es) = (λ d m. refl, any_pairs es)

module _ (c n : ℕ) where
  abbrev alone : Entry → Bool
  alone e = zeros e && sound c n (edit_of e)

  abbrev pair : Entry → Entry → Bool
  pair d e = follows (edit_of d) (edit_of e)

  lengths : (d : Entry) (es : List Entry) → length (good_from c n d.pos d.kind es) ≡ least_after alone pair d es
  unfolding good_from alone_good
  lengths d [] = refl
  lengths d (e ∷ es) =
      step (good_after c n d.pos d.kind e) e (good_from c n e.pos e.kind es)
      (ap (λ (t : Bool). alone e && t) (follows_kind_lem d e)) (lengths e es)

  pub place : (es : List Entry) → length (good c n es) ≡ form_place c n es
  unfolding form_place
  place es =
      lengths start es
      ∙ from_start alone sure pair any (λ y d x g h a b. follows_trans (edit_of y) (edit_of d) (edit_of x) a b) start es
      (λ x. from_zero x.pos) (record {
        each = λ x m. refl;
        past = λ y x k m. refl;
        pairs = any_pairs es;
      })

-- where none is at fault the good entries are all
pub all_good : (c n p q : ℕ) (es : List Entry) → length es ≤ length (good_from c n p q es) → good_from c n p q es ≡ es
unfolding good_from
all_good c n p q [] h = refl
all_good c n p q (e ∷ es) h = by (good_after c n p q e) h (λ k. all_good c n e.pos e.kind es k)
  where
    by : (t : Bool) → suc (length es) ≤ length (cond t (e ∷ good_from c n e.pos e.kind es) [])
        → (length es ≤ length (good_from c n e.pos e.kind es) → good_from c n e.pos e.kind es ≡ es)
        → cond t (e ∷ good_from c n e.pos e.kind es) [] ≡ e ∷ es
    by true k ih = ap (λ (l : List Entry). e ∷ l) (ih (omega arith))
    by false k ih = absurd (omega arith)
