-- Keys that ascend from one of them on: from the first, one step further, four steps further, as far again, and from the last.
-- Assumes nothing.
use Prim.Native.Nat.{ℕ, ◌+◌, ◌≤◌, ◌<◌}
use native.Mathlib.Numerals.{add-one}
use native.Mathlib.Omega.{arith}
use mathlib.Core.Path.{◌≡◌, refl, ap, ◌∙◌}
use mathlib.Core.Bool.{Bool, true, false, ◌&&◌}
use mathlib.Core.List.{List, [], ◌∷◌}
use lib.ListN.{length, get_or, drop, drop_of_length-le}
use lib.Seq.{drop-cons}
use lib.Dec.{ltb}
use Rattle.order.specs.Lists.{ascending}
use Rattle.keys.specs.Rising.{ascend_from}

pub from_none : (K : List ℕ) → length K ≡ 0 → true ≡ ascending K
from_none [] h = refl
from_none (k ∷ K) h = absurd (omega arith)

pub from_first : (K : List ℕ) → 0 < length K → ascending K ≡ ascend_from K 0
unfolding ascend_from
from_first [] h = absurd (omega arith)
from_first (k ∷ K) h = refl

four_and : (p q r s t : Bool) → p && (q && (r && (s && t))) ≡ (p && (q && (r && s))) && t
four_and true true true true t = refl
four_and true true true false t = refl
four_and true true false s t = refl
four_and true false r s t = refl
four_and false q r s t = refl

and_on : (p q t : Bool) → p && (q && t) ≡ (p && q) && t
and_on true q t = refl
and_on false q t = refl

module _ (K : List ℕ) where
  abbrev below : ℕ → ℕ → Bool
  below i j = ltb (get_or K i 0) (get_or K j 0)

  pub step : (i j : ℕ) → j ≡ i + 1 → j < length K → ascend_from K i ≡ below i j && ascend_from K j
  unfolding ascend_from
  step i j e h = rw (← e, add-one, drop-cons K j 0)

  pub last : (i : ℕ) → length K ≤ i + 1 → ascend_from K i ≡ true
  unfolding ascend_from
  last i h = rw (drop_of_length-le K {i = i + 1} h)

  pub four_steps : (i : ℕ) → i + 4 < length K
      → ascend_from K i
      ≡ (below i (i + 1) && (below (i + 1) (i + 2) && (below (i + 2) (i + 3) && below (i + 3) (i + 4)))) && ascend_from K (i + 4)
  four_steps i h =
      rw (
        step i (i + 1) refl (omega arith),
        step (i + 1) (i + 2) (omega arith) (omega arith),
        step (i + 2) (i + 3) (omega arith) (omega arith),
        step (i + 3) (i + 4) (omega arith) (omega arith),
      )
      (four_and (below i (i + 1)) (below (i + 1) (i + 2)) (below (i + 2) (i + 3)) (below (i + 3) (i + 4)) (ascend_from K (i + 4)))

  pub on : (i j h k : ℕ) (p q : Bool) → ascend_from K i ≡ p && ascend_from K j → ascend_from K j ≡ q && ascend_from K h → h ≡ k
      → ascend_from K i ≡ (p && q) && ascend_from K k
  on i j h k p q e f g =
      e ∙ (ap (λ (t : Bool). p && t) (f ∙ ap (λ (n : ℕ). q && ascend_from K n) g) ∙ and_on p q (ascend_from K k))
