-- The walk turn by turn: what it leaves of both layers is what the next edits leave and the walk along what is left then.
-- Assumes nothing.
use mathlib.Core.Path.{◌≡◌, refl, ap, ◌∙◌}
use mathlib.Core.List.{List, [], ◌∷◌, map}
use Prim.Native.Nat.{ℕ, zero, suc, ◌+◌, ◌≤◌, ◌<◌}
use native.Mathlib.Omega.{arith}
use lib.ListN.{length, drop, length-drop, length-map}
use Rattle.order.specs.Lists.{one}
use Rattle.model.specs.Layer.{Edit, Layer, position, is_add, is_strike}
use Rattle.woven.specs.declared.Meets.{Meets}
use Rattle.woven.specs.declared.Meets.TheVariants.{Lower, Upper, UpperHere, Drop, Vanish, Patch, Fuse}
use Rattle.woven.specs.Woven.{step_of, placed, rebased, changes_ahead, patched_add, fused, goes_on, woven, walk}

-- two walks on that agree on all shorter layers go on alike
module _ (on to : ℕ → ℕ → Layer → Layer → Layer) (a s : ℕ) (e f : Edit) (R W : Layer)
    (agree : (b d : ℕ) (P Q : Layer) → length P + length Q < suc (length R) + suc (length W) → on b d P Q ≡ to b d P Q) where
  go_alike : (t : Meets) → goes_on on a s e f R W t ≡ goes_on to a s e f R W t
  go_alike Lower = ap (λ (L : Layer). e ∷ L) (agree (a + one (is_add e)) (s + one (is_strike e)) R (f ∷ W) (omega arith))
  go_alike Upper = ap (λ (L : Layer). rebased a s f ∷ L) (agree a s (e ∷ R) W (omega arith))
  go_alike UpperHere = ap (λ (L : Layer). placed (position e) f ∷ L) (agree a s (e ∷ R) W (omega arith))
  go_alike Drop = agree a s R (f ∷ W) (omega arith)
  go_alike Vanish = agree (a + 1) s R W (omega arith)
  go_alike Patch =
      let k = changes_ahead (position f) (f ∷ W) in
      ap (λ (L : Layer). patched_add (position f) (f ∷ W) e ∷ L)
      (agree (a + 1) s R (drop k (f ∷ W)) (omega (arith, length-drop k (f ∷ W))))
  go_alike Fuse = ap (λ (L : Layer). fused e f ∷ L) (agree a s R W (omega arith))

module _ (K N : List ℕ) where
  -- enough steps are as good as more
  enough : (n m a s : ℕ) (R W : Layer) → length R + length W ≤ n → length R + length W ≤ m
      → woven n K N a s R W ≡ woven m K N a s R W
  unfolding woven
  enough zero zero a s R W h l = refl
  enough zero (suc m) a s [] [] h l = refl
  enough zero (suc m) a s (e ∷ R) W h l = absurd (omega arith)
  enough zero (suc m) a s [] (f ∷ W) h l = absurd (omega arith)
  enough (suc n) zero a s [] [] h l = refl
  enough (suc n) zero a s (e ∷ R) W h l = absurd (omega arith)
  enough (suc n) zero a s [] (f ∷ W) h l = absurd (omega arith)
  enough (suc n) (suc m) a s R [] h l = refl
  enough (suc n) (suc m) a s [] (f ∷ W) h l = refl
  enough (suc n) (suc m) a s (e ∷ R) (f ∷ W) h l =
      go_alike (woven n K N) (woven m K N) a s e f R W
      (λ b d P Q q. enough n m b d P Q (omega arith) (omega arith)) (step_of K N e f)

  module _ (a s : ℕ) where
    steps : (R W : Layer) (n : ℕ) → length R + length W ≡ n → walk K N a s R W ≡ woven n K N a s R W
    steps R W n e = ap (λ (k : ℕ). woven k K N a s R W) e

    pub walk_on : (e f : Edit) (R W : Layer)
        → walk K N a s (e ∷ R) (f ∷ W) ≡ goes_on (walk K N) a s e f R W (step_of K N e f)
    unfolding woven
    walk_on e f R W =
        let n = length R + suc (length W) in
        steps (e ∷ R) (f ∷ W) (suc n) (omega arith)
        ∙ go_alike (woven n K N) (walk K N) a s e f R W
        (λ b d P Q q. enough n (length P + length Q) b d P Q (omega arith) (omega arith)) (step_of K N e f)

    -- its ends
    pub walk_lower : (R : Layer) → walk K N a s R [] ≡ R
    unfolding woven
    walk_lower [] = refl
    walk_lower (e ∷ R) = steps (e ∷ R) [] (suc (length R)) (omega arith)

    pub walk_upper : (W : Layer) → walk K N a s [] W ≡ map (rebased a s) W
    unfolding woven
    walk_upper [] = refl
    walk_upper (f ∷ W) = steps [] (f ∷ W) (suc (length W)) (omega arith)

  -- the walk leaves at most the edits of both layers
  woven_most : (n a s : ℕ) (R W : Layer) → length (woven n K N a s R W) ≤ length R + length W
  unfolding woven
  woven_most zero a s R W = omega arith
  woven_most (suc n) a s R [] = omega arith
  woven_most (suc n) a s [] (f ∷ W) = omega (arith, length-map (f ∷ W) (rebased a s))
  woven_most (suc n) a s (e ∷ R) (f ∷ W) = by (step_of K N e f) (woven_most n)
    where
      by : (t : Meets) → ((b d : ℕ) (P Q : Layer) → length (woven n K N b d P Q) ≤ length P + length Q)
          → length (goes_on (woven n K N) a s e f R W t) ≤ suc (length R) + suc (length W)
      by Lower ih = omega (arith, ih (a + one (is_add e)) (s + one (is_strike e)) R (f ∷ W))
      by Upper ih = omega (arith, ih a s (e ∷ R) W)
      by UpperHere ih = omega (arith, ih a s (e ∷ R) W)
      by Drop ih = omega (arith, ih a s R (f ∷ W))
      by Vanish ih = omega (arith, ih (a + 1) s R W)
      by Patch ih =
          let k = changes_ahead (position f) (f ∷ W) in
          omega (arith, ih (a + 1) s R (drop k (f ∷ W)), length-drop k (f ∷ W))
      by Fuse ih = omega (arith, ih a s R W)

  pub walk_most : (a s : ℕ) (R W : Layer) → length (walk K N a s R W) ≤ length R + length W
  walk_most a s R W = woven_most (length R + length W) a s R W
