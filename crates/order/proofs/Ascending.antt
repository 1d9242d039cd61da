-- Lists that a number of each element strictly sorts: places, how many lie below a number, equality by members.
-- Assumes nothing.
use mathlib.Core.Path.{◌≡◌, refl, sym, ap, ◌∙◌}
use mathlib.Core.Bool.{Bool, true, false}
use mathlib.Core.List.Memᴰ.{head as here}
use mathlib.Core.List.Memᴰ.{tail as next}
use mathlib.Core.List.{List, [], ◌∷◌, ◌++◌, map, Memᴰ as Mem}
use Prim.Native.Nat.{ℕ, zero, suc, ◌+◌, ◌≤◌, ◌<◌}
use native.Mathlib.Omega.{arith}
use lib.ListN.{length, get_or}
use lib.Dec.{ltb}
use borrow.Author.Tests.{ltb-true, ltb-false, lt-ltb}
use Rattle.order.specs.Lists.{count, rising, ascending}
use Rattle.order.proofs.Tests.{tests, and_l, and_r, and_of, one_lt, one_ge, one_mono}
use Rattle.order.proofs.Pairs.{AllPairs, pairs_ext}

module _ {A : Type 0} where
  -- q stands at place p of a list whose first place is s
  pub data At (q : A) (p : ℕ) : ℕ → List A → Type 0 where
    top : {s : ℕ} {r : A} {M : List A} → q ≡ r → p ≡ s → At q p s (r ∷ M)
    deep : {s : ℕ} {r : A} {M : List A} → At q p (suc s) M → At q p s (r ∷ M)

  -- a member of a list has a place
  pub mem_at : (s : ℕ) (M : List A) (q : A) → Mem q M → (p : ℕ) × At q p s M
  mem_at s [] q x' = elim x' [ ]
  mem_at s (x ∷ M) q (here e) = (s, top e refl)
  mem_at s (x ∷ M) q (next m) = let r = mem_at (suc s) M q m in (r.0, deep r.1)

  pub at_mem : {q : A} {p : ℕ} {M : List A} {s : ℕ} → At q p s M → Mem q M
  at_mem (top e f) = here e
  at_mem (deep a) = next (at_mem a)

  pub at_from : {q : A} {p : ℕ} {M : List A} {s : ℕ} → At q p s M → s ≤ p
  at_from (top e f) = omega arith
  at_from (deep a) = omega (arith, at_from a)

  pub at_cast : {q : A} {p p' s : ℕ} {M : List A} → p ≡ p' → At q p s M → At q p' s M
  at_cast h (top e f) = top e (sym h ∙ f)
  at_cast h (deep n) = deep (at_cast h n)

  pub at_length : {q : A} {p : ℕ} {M : List A} {s : ℕ} → At q p s M → p < s + length M
  at_length (top e f) = omega arith
  at_length (deep n) = omega (arith, at_length n)

  -- one element at one place
  pub at_same : {q : A} {p : ℕ} {M : List A} {r : A} {s : ℕ} → At q p s M → At r p s M → q ≡ r
  at_same (top e f) (top e' f') = e ∙ sym e'
  at_same (top e f) (deep b) = absurd (omega (arith, at_from b))
  at_same (deep a) (top e f) = absurd (omega (arith, at_from a))
  at_same (deep a) (deep b) = at_same a b

  -- what get_or finds stands at its index
  get_or_from : (s i : ℕ) (M : List A) (d : A) → i < length M → At (get_or M i d) (s + i) s M
  get_or_from s i [] d h = absurd (omega arith)
  get_or_from s zero (x ∷ M) d h = top {s = s} refl (omega arith)
  get_or_from s (suc i) (x ∷ M) d h = deep (at_cast {p = suc s + i} (omega arith) (get_or_from (suc s) i M d (omega arith)))

  pub get_or_at : (M : List A) (i : ℕ) (d : A) → i < length M → At (get_or M i d) i 0 M
  get_or_at M i d h = at_cast {p = 0 + i} (omega arith) (get_or_from 0 i M d h)

  pub at_get_or : {M : List A} {q : A} {p : ℕ} (d : A) → At q p 0 M → get_or M p d ≡ q
  at_get_or {M} {q} {p} d n = at_same (get_or_at M p d (omega (arith, at_length n))) n

module _ {A : Type 0} (key : A → ℕ) where
  -- keys from b on, strictly ascending
  abbrev pub AscFrom : ℕ → List A → Type 0
  AscFrom b [] = Unit {0}
  AscFrom b (r ∷ M) = (b ≤ key r) × AscFrom (suc (key r)) M

  -- an element's key is below k
  abbrev pub below : ℕ → A → Bool
  below k r = ltb (key r) k

  pub asc_mem : (b : ℕ) (M : List A) → AscFrom b M → (r : A) → Mem r M → b ≤ key r
  asc_mem b [] a r x'' = elim x'' [ ]
  asc_mem b (x ∷ M) a r (here e) = omega (arith, ap key e)
  asc_mem b (x ∷ M) a r (next m) = omega (arith, asc_mem (suc (key x)) M a.1 r m)

  -- in an ascending table a row's place is the number of keys below its own
  pub asc_none : (b : ℕ) (M : List A) (k : ℕ) → AscFrom b M → k ≤ b → count (below k) M ≡ 0
  asc_none b [] k a h = refl
  asc_none b (x ∷ M) k a h = omega (arith, one_ge (key x) k (omega arith), asc_none (suc (key x)) M k a.1 (omega arith))

  pub at_count : (b s : ℕ) (M : List A) → AscFrom b M → (q : A) (p : ℕ) → At q p s M → s + count (below (key q)) M ≡ p
  at_count b s [] a q p x'' = elim x'' [ ]
  at_count b s (x ∷ M) a q p (top e f) =
      omega (
        arith,
        one_ge (key x) (key q) (omega (arith, ap key e)),
        asc_none (suc (key x)) M (key q) a.1
            (omega (arith, ap key e)),
      )
  at_count b s (x ∷ M) a q p (deep n) =
      omega (
        arith,
        one_lt (key x) (key q) (asc_mem (suc (key x)) M a.1 q (at_mem n)),
        at_count (suc (key x))
            (suc s) M a.1 q p n,
      )

  -- the number of keys below k grows with k, and strictly past a key of the table
  pub count_mono : (M : List A) (k l : ℕ) → k ≤ l → count (below k) M ≤ count (below l) M
  count_mono [] k l h = omega arith
  count_mono (x ∷ M) k l h = omega (arith, one_mono (key x) k l h, count_mono M k l h)

  pub count_strict : (M : List A) (q : A) (l : ℕ) → Mem q M → key q < l → count (below (key q)) M < count (below l) M
  count_strict (x ∷ M) q l (here e) h =
      omega (
        arith,
        one_ge (key x) (key q) (omega (arith, ap key e)),
        one_lt (key x) l
            (omega (arith, ap key e)),
        count_mono M (key q) l (omega arith),
      )
  count_strict [] q l x'' h = elim x'' [ ]
  count_strict (x ∷ M) q l (next m) h = omega (arith, one_mono (key x) (key q) l (omega arith), count_strict M q l m h)

  -- ascending lists lowered, joined
  pub asc_lower : (a b : ℕ) (M : List A) → AscFrom a M → b ≤ a → AscFrom b M
  asc_lower a b [] s h = tt
  asc_lower a b (x ∷ M) s h = (omega arith, s.1)

  pub asc_append : (b c : ℕ) (L M : List A) → AscFrom b L → ((r : A) → Mem r L → key r < c) → b ≤ c → AscFrom c M
      → AscFrom b (L ++ M)
  asc_append b c [] M s h l t = asc_lower c b M t l
  asc_append b c (x ∷ L) M s h l t =
      (s.0, asc_append (suc (key x)) c L M s.1 (λ r m. h r (next m)) (h x (here refl)) t)

  -- ascending is that every element is below every later one
  abbrev pub lower : A → A → Bool
  lower x y = ltb (key x) (key y)

  pub asc_pairs : (b : ℕ) (M : List A) → AscFrom b M → AllPairs lower M
  asc_pairs b [] a = tt
  asc_pairs b (x ∷ M) a =
      (λ y m. lt-ltb (key x) (key y) (asc_mem (suc (key x)) M a.1 y m), asc_pairs (suc (key x)) M a.1)

  pub pairs_asc : (b : ℕ) (M : List A) → AllPairs lower M → ((r : A) → Mem r M → b ≤ key r) → AscFrom b M
  pairs_asc b [] p h = tt
  pairs_asc b (x ∷ M) p h = (h x (here refl), pairs_asc (suc (key x)) M p.1 (λ r m. ltb-true (key x) (key r) (p.0 r m)))

  -- two ascending lists with the same members are equal
  pub ext : (L M : List A) → AscFrom 0 L → AscFrom 0 M → ((r : A) → Mem r L → Mem r M) → ((r : A) → Mem r M → Mem r L) → L ≡ M
  ext L M s t f g = pairs_ext lower (λ x y e h. omega tests) L M (asc_pairs 0 L s) (asc_pairs 0 M t) f g

  -- the test of ascending keys
  asc_rising : (x : A) (M : List A) → rising (key x) (map key M) ≡ true → AscFrom (suc (key x)) M
  asc_rising x [] h = tt
  asc_rising x (y ∷ M) h = (
    ltb-true (key x) (key y) (and_l (ltb (key x) (key y)) (rising (key y) (map key M)) h),
    asc_rising y M (and_r (ltb (key x) (key y)) (rising (key y) (map key M)) h),
  )

  pub asc_of : (M : List A) → ascending (map key M) ≡ true → AscFrom 0 M
  asc_of [] h = tt
  asc_of (x ∷ M) h = (omega arith, asc_rising x M h)

  rising_asc : (x : A) (M : List A) → AscFrom (suc (key x)) M → rising (key x) (map key M) ≡ true
  rising_asc x [] a = refl
  rising_asc x (y ∷ M) a =
      and_of (ltb (key x) (key y)) (rising (key y) (map key M)) (lt-ltb (key x) (key y) a.0) (rising_asc y M a.1)

  pub of_asc : (M : List A) → AscFrom 0 M → ascending (map key M) ≡ true
  of_asc [] a = refl
  of_asc (x ∷ M) a = rising_asc x M a.1

  -- more elements below means a higher number
  pub count_rise : (M : List A) (k l : ℕ) → count (below k) M < count (below l) M → k < l
  count_rise M k l h = go (ltb k l) refl
    where
      go : (t : Bool) → ltb k l ≡ t → k < l
      go true g = ltb-true k l g
      go false g = absurd (omega (arith, count_mono M l k (ltb-false k l g)))

  -- what get_or finds has as many below it as its index says
  pub get_or_count : (M : List A) → AscFrom 0 M → (i : ℕ) (d : A) → i < length M → count (below (key (get_or M i d))) M ≡ i
  get_or_count M a i d h = omega (arith, at_count 0 0 M a (get_or M i d) i (get_or_at M i d h))

  -- one key, one element
  pub asc_same : (M : List A) → AscFrom 0 M → {q r : A} {p s : ℕ} → At q p 0 M → At r s 0 M → key q ≡ key r → p ≡ s
  asc_same M a {q} {r} {p} {s} n m e =
      omega (arith, at_count 0 0 M a q p n, at_count 0 0 M a r s m, ap (λ (k : ℕ). count (below k) M) e)
