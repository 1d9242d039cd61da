-- A layer that keeps form and fits a table, as facts about its edits; the tests of the scope say just these facts.
-- Assumes nothing.
use mathlib.Core.Path.{◌≡◌, refl, sym, ap, ◌∙◌, subst}
use mathlib.Core.Logic.{◌⊎◌, inl, inr}
use mathlib.Core.Bool.{Bool, true, false, ◌&&◌, ◌||◌}
use mathlib.Core.List.{List, [], Memᴰ as Mem}
use Prim.Native.Nat.{ℕ, zero, suc, ◌≤◌, ◌<◌}
use native.Mathlib.Omega.{arith}
use lib.ListN.{length, get_or, length-map, get_or-map}
use lib.Dec.{leb, ltb, eqb}
use borrow.Author.Tests.{ltb-true, ltb-false, lt-ltb, leb-true, leb-false, lt-leb, eqb-true, eq-eqb}
use Rattle.order.specs.Lists.{count, least_broken}
use Rattle.order.proofs.Tests.{tests, and_l, and_r, and_of, or_cases, not_passed}
use Rattle.order.proofs.Counts.{count_le, count_map}
use Rattle.order.proofs.Pairs.{AllPairs, pairs_both, pairs_weaker, Unbroken, broken_le, unbroken, none_broken}
use Rattle.order.proofs.Ascending.{
  AscFrom,
  At,
  below,
  at_mem,
  at_cast,
  at_length,
  at_count,
  get_or_at,
  at_get_or,
  get_or_count,
  count_mono,
  count_strict,
  count_rise,
}
use Rattle.model.specs.Row.{Row, Table, key, keys}
use Rattle.model.specs.Cell.{CellEdit}
use Rattle.model.specs.Layer.{add, strike, change, Edit, at, Layer, struck}
use Rattle.model.specs.Form.{sound, follows, in_order}
use Rattle.model.specs.Fit.{above, under, suits, rises, fit_place, fits, keys_below}
use Rattle.model.specs.Edits.{before}
use Rattle.theory.proofs.Cell.{key_nil}
use Rattle.theory.proofs.Layer.{KeyKept}
use Rattle.theory.proofs.Edits.{before_of, before_follows, before_rises}

-- edits that are sound, and follow one another, are in order
pub in_order_lem : (c n : ℕ) (L : Layer) → ((e : Edit) → Mem e L → sound c n e ≡ true) → AllPairs follows L → in_order c n L ≡ true
unfolding in_order
in_order_lem c n L e p = eq-eqb (least_broken (sound c n) follows [] L) (length L) (none_broken (sound c n) follows L e p)

-- a layer fits where the place of the first entry that does not is no entry's
pub fits_all : (K : List ℕ) (L : Layer) → ltb (fit_place K L) (length L) ≡ false → fits K L ≡ true
unfolding fits fit_place
fits_all K L h =
    eq-eqb (fit_place K L) (length L)
    (omega (arith, ltb-false (fit_place K L) (length L) h, broken_le (suits K L) rises [] L))

pub record Fit (T : Table) (L : Layer) : Type 0 where
  -- an add's position is the number of base keys below its own
  pub sits : (s : ℕ) (r : Row) → Mem (at s (add r)) L → count (below key (key r)) T ≡ s
  -- and where its key is a base row's, that row is struck
  pub fresh : (s : ℕ) (r : Row) → Mem (at s (add r)) L → (i : ℕ) (q : Row) → At q i 0 T → key q ≡ key r → struck i L ≡ true
  -- a strike names the key of its row
  pub strikes : (s k : ℕ) → Mem (at s (strike k)) L → (q : Row) × At q s 0 T × (key q ≡ k)
  -- a change is of a base row, and not of its key
  pub changes : (s j : ℕ) (e : CellEdit) → Mem (at s (change j e)) L → (q : Row) × At q s 0 T × (1 ≤ j)
  -- the edits stand in order
  pub sorted : AllPairs before L

-- a layer of c columns over T that keeps form, but for the row total, and fits
pub record Good (c : ℕ) (T : Table) (L : Layer) : Type 0 where
  pub each : (e : Edit) → Mem e L → sound c (length T) e ≡ true
  pub fit : Fit T L

pub key_kept : (T : Table) (L : Layer) → Fit T L → KeyKept L
key_kept T L F s j e m = (F.changes s j e m).2

-- K[s] is the key of row s
pub keys_at : (T : Table) (s : ℕ) → get_or (keys T) s 0 ≡ key (get_or T s [])
keys_at T s = subst (λ (d : ℕ). get_or (keys T) s d ≡ key (get_or T s [])) key_nil (get_or-map key T s [])

pub key_of_lem : {T : Table} {s : ℕ} {q : Row} → At q s 0 T → get_or (keys T) s 0 ≡ key q
key_of_lem {T} {s} {q} n = keys_at T s ∙ ap key (at_get_or [] n)

pub keys_length : (T : Table) → length (keys T) ≡ length T
keys_length T = length-map T key

pub below_keys : (k : ℕ) (T : Table) → keys_below k (keys T) ≡ count (below key k) T
below_keys k T = count_map key (λ l. ltb l k) T

-- between K[s-1] and K[s] means: s keys are below
module _ (T : Table) (a : AscFrom key 0 T) where
  row_at_lem : (s : ℕ) → s < length T → At (get_or T s []) s 0 T
  row_at_lem s h = get_or_at T s [] h

  pub below_at : (s : ℕ) → s < length T → count (below key (get_or (keys T) s 0)) T ≡ s
  below_at s h = ap (λ (k : ℕ). count (below key k) T) (keys_at T s) ∙ get_or_count key T a s [] h

  above_count : (s k : ℕ) → s ≤ length T → above (keys T) s k ≡ true → s ≤ count (below key k) T
  above_count zero k h e = omega arith
  above_count (suc s) k h e =
      let l : key (get_or T s []) < k = omega (arith, keys_at T s, ltb-true (get_or (keys T) s 0) k e) in
      omega (arith, get_or_count key T a s [] h, count_strict key T (get_or T s []) k (at_mem (row_at_lem s h)) l)

  under_key : (L : Layer) (s k : ℕ) → s < length T → under (keys T) L s k ≡ true
      → (k ≤ get_or (keys T) s 0) × (k ≡ get_or (keys T) s 0 → struck s L ≡ true)
  under_key L s k h e =
      go (or_cases (ltb k K) (eqb k K && struck s L) (rw (lt-leb (length (keys T)) s (omega (arith, keys_length T))) at e))
    where
      K : ℕ
      K = get_or (keys T) s 0

      go : (ltb k K ≡ true) ⊎ (eqb k K && struck s L ≡ true) → (k ≤ K) × (k ≡ K → struck s L ≡ true)
      go (inl f) = (omega tests, λ g. absurd (omega tests))
      go (inr f) = (omega (arith, eqb-true k K (and_l (eqb k K) (struck s L) f)), λ g. and_r (eqb k K) (struck s L) f)

  under_count : (L : Layer) (s k : ℕ) → under (keys T) L s k ≡ true → count (below key k) T ≤ s
  under_count L s k e = go (leb (length T) s) refl
    where
      go : (t : Bool) → leb (length T) s ≡ t → count (below key k) T ≤ s
      go true f = omega (tests, count_le (below key k) T)
      go false f =
          let h : s < length T = leb-false (length T) s f in
          omega (arith, below_at s h, count_mono key T k (get_or (keys T) s 0) (under_key L s k h e).0)

-- the tests say the facts
module _ (c : ℕ) (T : Table) (L : Layer) (a : AscFrom key 0 T) (fm : in_order c (length T) L ≡ true)
    (ft : fits (keys T) L ≡ true) where
  formed : Unbroken (sound c (length T)) follows [] L
  unfolding in_order
  formed = unbroken (sound c (length T)) follows [] L (eqb-true (least_broken (sound c (length T)) follows [] L) (length L) fm)

  fitted : Unbroken (suits (keys T) L) rises [] L
  unfolding fits fit_place
  fitted = unbroken (suits (keys T) L) rises [] L (eqb-true (least_broken (suits (keys T) L) rises [] L) (length L) ft)

  add_sits : (s : ℕ) (r : Row) → Mem (at s (add r)) L → count (below key (key r)) T ≡ s
  add_sits s r m =
      let g = fitted.each (at s (add r)) m in
      let h : s ≤ length T =
      leb-true s (length T) (and_l (leb s (length T)) (eqb (length r) c) (formed.each (at s (add r)) m)) in
      omega (
        arith,
        above_count T a s (key r) h (and_l (above (keys T) s (key r)) (under (keys T) L s (key r)) g),
        under_count T a L s (key r) (and_r (above (keys T) s (key r)) (under (keys T) L s (key r)) g),
      )

  add_fresh : (s : ℕ) (r : Row) → Mem (at s (add r)) L → (i : ℕ) (q : Row) → At q i 0 T → key q ≡ key r → struck i L ≡ true
  add_fresh s r m i q n e =
      let is : i ≡ s = omega (arith, at_count key 0 0 T a q i n, add_sits s r m, ap (λ (k : ℕ). count (below key k) T) e) in
      let u = and_r (above (keys T) s (key r)) (under (keys T) L s (key r)) (fitted.each (at s (add r)) m) in
      ap (λ (t : ℕ). struck t L) is
      ∙ (under_key T a L s (key r) (omega (arith, at_length n)) u).1 (sym (key_of_lem (at_cast is n) ∙ e))

  base_at : (s : ℕ) → ltb s (length T) ≡ true → At (get_or T s []) s 0 T
  base_at s h = get_or_at T s [] (ltb-true s (length T) h)

  pub good_of : Good c T L
  good_of = record {
    each = formed.each;
    fit = record {
      sits = add_sits;
      fresh = add_fresh;
      strikes = λ s k m.
          let n = base_at s (formed.each (at s (strike k)) m) in
          (get_or T s [], n, sym (key_of_lem n) ∙ eqb-true (get_or (keys T) s 0) k (fitted.each (at s (strike k)) m));
      changes = λ s j e m.
          let h = formed.each (at s (change j e)) m in (
            get_or T s [],
            base_at s (and_l (ltb s (length T)) (leb 1 j && ltb j c) h),
            leb-true 1 j (and_l (leb 1 j) (ltb j c) (and_r (ltb s (length T)) (leb 1 j && ltb j c) h)),
          );
      sorted = pairs_both follows rises before L (λ d e m n f r. before_of d e f r) formed.pairs fitted.pairs;
    };
  }

-- and the facts say the tests
module _ (c : ℕ) (T : Table) (L : Layer) (a : AscFrom key 0 T) (G : Good c T L) where
  pub good_form : in_order c (length T) L ≡ true
  good_form =
      in_order_lem c (length T) L G.each (pairs_weaker before follows L (λ d e m n h. before_follows d e h) G.fit.sorted)

  above_of : (s k : ℕ) → count (below key k) T ≡ s → above (keys T) s k ≡ true
  above_of zero k e = refl
  above_of (suc s) k e =
      let h : s < length T = omega (arith, count_le (below key k) T) in
      lt-ltb (get_or (keys T) s 0) k (count_rise key T (get_or (keys T) s 0) k (omega (arith, below_at T a s h)))

  -- an add at s is not above row s
  not_above : (s : ℕ) (r : Row) → Mem (at s (add r)) L → s < length T → ltb (get_or (keys T) s 0) (key r) ≡ false
  not_above s r m h = not_passed (ltb (get_or (keys T) s 0) (key r)) (λ g. omega (
    arith,
    G.fit.sits s r m,
    get_or_count key T a s [] h,
    count_strict key T (get_or T s []) (key r) (at_mem (get_or_at T s [] h))
        (omega (arith, keys_at T s, ltb-true (get_or (keys T) s 0) (key r) g)),
  ))

  under_of : (s : ℕ) (r : Row) → Mem (at s (add r)) L → under (keys T) L s (key r) ≡ true
  under_of s r m = go (leb (length (keys T)) s) refl (ltb (key r) (get_or (keys T) s 0)) refl
    where
      go : (t : Bool) → leb (length (keys T)) s ≡ t → (u : Bool) → ltb (key r) (get_or (keys T) s 0) ≡ u
          → t || (u || (eqb (key r) (get_or (keys T) s 0) && struck s L)) ≡ true
      go true e u f = refl
      go false e true f = refl
      go false e false f =
          let h : s < length T = omega (arith, keys_length T, leb-false (length (keys T)) s e) in
          let k : get_or (keys T) s 0 ≡ key r = omega (tests, not_above s r m h) in
          rw (eq-eqb (key r) (get_or (keys T) s 0) (sym k))
          (G.fit.fresh s r m s (get_or T s []) (get_or_at T s [] h) (sym (keys_at T s) ∙ k))

  pub good_fits : fits (keys T) L ≡ true
  unfolding fits fit_place
  good_fits =
      eq-eqb (least_broken (suits (keys T) L) rises [] L) (length L) (none_broken (suits (keys T) L) rises L each
      (pairs_weaker before rises L (λ d e m n h. before_rises d e h) G.fit.sorted))
    where
      each : (e : Edit) → Mem e L → suits (keys T) L e ≡ true
      each (at s (add r)) m =
          and_of (above (keys T) s (key r)) (under (keys T) L s (key r)) (above_of s (key r) (G.fit.sits s r m))
          (under_of s r m)
      each (at s (strike k)) m = let w = G.fit.strikes s k m in eq-eqb (get_or (keys T) s 0) k (key_of_lem w.1 ∙ w.2)
      each (at s (change j e)) m = refl
