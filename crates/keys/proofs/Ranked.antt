-- In ascending keys the number below the key at i is i: so a key at i below k has more below k, and one not below k no more than i.
-- Assumes nothing.
use Prim.Native.Nat.{ℕ, zero, suc, ◌+◌, ◌≤◌, ◌<◌}
use native.Mathlib.Omega.{arith}
use mathlib.Core.Path.{◌≡◌, refl, ap, ◌∙◌}
use mathlib.Core.Bool.{Bool, true, false}
use mathlib.Core.List.{List, [], ◌∷◌, map}
use lib.ListN.{length, get_or}
use lib.Dec.{ltb}
use borrow.Author.Tests.{ltb-true, ltb-false}
use Rattle.std.specs.List.{AllWithin}
use Rattle.std.specs.List.Sorted.{IsNonDecreasingBy, IsPartitionPoint}
use Rattle.std.proofs.lemmas.List.Sorted.{IsNonDecreasingBy-from_default}
use Rattle.order.proofs.Counts.{count_le}
use Rattle.order.specs.Lists.{ascending}
use Rattle.order.proofs.Ascending.{AscFrom, asc_of, at_count, at_mem, get_or_at, count_mono, count_strict}
use Rattle.model.specs.Fit.{keys_below}

-- a key is its own key
abbrev self : ℕ → ℕ
self k = k

all_self : (K : List ℕ) → map self K ≡ K
all_self [] = refl
all_self (k ∷ K) = ap (λ (l : List ℕ). k ∷ l) (all_self K)

module _ (k : ℕ) (K : List ℕ) (a : ascending K ≡ true) (i : ℕ) (h : i < length K) where
  rank : keys_below (get_or K i 0) K ≡ i
  rank = omega (arith, at_count self 0 0 K (asc_of self K (ap ascending (all_self K) ∙ a)) (get_or K i 0) i (get_or_at K i 0 h))

  pub past : get_or K i 0 < k → i < keys_below k K
  past l = omega (arith, rank, count_strict self K (get_or K i 0) k (at_mem (get_or_at K i 0 h)) l)

  pub within : k ≤ get_or K i 0 → keys_below k K ≤ i
  within l = omega (arith, rank, count_mono self K k (get_or K i 0) l)

-- keys that ascend do not fall
pub falls_nowhere : (K : List ℕ) → ascending K ≡ true → IsNonDecreasingBy (λ x. x) K
falls_nowhere K a = IsNonDecreasingBy-from_default (λ x. x) K 0 rising
  where
    rising : (i j : ℕ) → i ≤ j → j < length K → get_or K i 0 ≤ get_or K j 0
    rising i j l h = go (ltb (get_or K j 0) (get_or K i 0)) refl
      where
        go : (t : Bool) → ltb (get_or K j 0) (get_or K i 0) ≡ t → get_or K i 0 ≤ get_or K j 0
        go true e =
            omega (arith, past (get_or K i 0) K a j h (ltb-true _ _ e), rank (get_or K i 0) K a i (omega arith))
        go false e = ltb-false _ _ e

-- where those in front of number i lie below k and the others do not, i of them lie below k
pub below_point : (k : ℕ) (K : List ℕ) → ascending K ≡ true → (i : ℕ) → i ≤ length K
    → IsPartitionPoint (λ y. ltb y k ≡ true) (λ y. ltb y k ≡ false) K i → i ≡ keys_below k K
below_point k K a i l p = omega (arith, front i l p.0, behind (ltb i (length K)) refl)
  where
    front : (n : ℕ) → n ≤ length K → AllWithin (λ y. ltb y k ≡ true) K 0 n → n ≤ keys_below k K
    front zero h w = omega arith
    front (suc n) h w = omega (arith, past k K a n (omega arith) (ltb-true _ _ (w n 0 (omega arith) (omega arith))))

    behind : (t : Bool) → ltb i (length K) ≡ t → keys_below k K ≤ i
    behind true e =
        let h = ltb-true i (length K) e in
        within k K a i h (ltb-false _ _ (p.1 i 0 (omega arith) h))
    behind false e = omega (arith, ltb-false i (length K) e, count_le (λ l. ltb l k) K)
