-- Keys, fit and conflict, exactly: which edits keep the rules of the scope, and the place where they do not.
-- Assumes nothing.
use Prim.Native.Nat.{ℕ, zero, suc, ◌≤◌, ◌<◌}
use native.Mathlib.Omega.{arith}
use mathlib.Core.Path.{◌≡◌, refl, sym, ap, ◌∙◌}
use mathlib.Core.Logic.{◌⊎◌, inl, inr, ⊎_elim, ◌↔◌}
use mathlib.Core.Bool.{Bool, true, false, not, ◌&&◌, ◌||◌, true≢false}
use mathlib.Core.List.Memᴰ.{not-nil}
use mathlib.Core.List.{List, [], ◌∷◌, Memᴰ as Mem}
use lib.ListN.{length, get_or}
use lib.Dec.{leb, ltb, eqb}
use borrow.Author.Tests.{ltb-true, ltb-false, leb-false, eqb-true, lt-ltb, le-ltb, lt-leb, eq-eqb, ne_eqb}
use Rattle.order.specs.Lists.{rising, ascending, first_at}
use Rattle.order.proofs.Tests.{and_l, and_r, and_of, or_cases, or_l, or_r, not_passed}
use Rattle.order.proofs.First.{first_least}
use Rattle.model.specs.Row.{key}
use Rattle.model.specs.Cell.{to}
use Rattle.model.specs.Layer.{add, strike, change, Edit, at, Layer, struck}
use Rattle.model.specs.Fit.{above, under, suits, rises, fit_place}
use Rattle.std.specs.Prelude.{Some}
use Rattle.words.specs.declared.Rule.TheVariants.{SameCell as same_cell}
use Rattle.model.specs.Conflict.{clash, met, clashes_with, conflict, conflict_place}
use Rattle.model.specs.Demand.{Conflicting}
use Rattle.theory.proofs.Layer.{of_struck, struck_of}
use Rattle.theory.proofs.Conflict.{conflicting, of_conflicting}
use Rattle.exact.proofs.Places.{least_keeps, keeps_least}

-- Keys ascend strictly.
abbrev pub Ascends : List ℕ → Type 0
Ascends K = (i j : ℕ) → i < j → j < length K → get_or K i 0 < get_or K j 0

rising_at : (k : ℕ) (K : List ℕ) → rising k K ≡ true → (j : ℕ) → j < length K → k < get_or K j 0
rising_at k [] e j h = absurd (omega arith)
rising_at k (l ∷ K) e zero h = ltb-true k l (and_l (ltb k l) (rising l K) e)
rising_at k (l ∷ K) e (suc j) h =
    let g = rising_at l K (and_r (ltb k l) (rising l K) e) j (omega arith) in
    omega (arith, ltb-true k l (and_l (ltb k l) (rising l K) e))

ascends_of : (k : ℕ) (K : List ℕ) → rising k K ≡ true → Ascends (k ∷ K)
ascends_of k K e i zero h l = absurd (omega arith)
ascends_of k K e zero (suc j) h l = rising_at k K e j (omega arith)
ascends_of k [] e (suc i) (suc j) h l = absurd (omega arith)
ascends_of k (x ∷ K) e (suc i) (suc j) h l =
    ascends_of x K (and_r (ltb k x) (rising x K) e) i j (omega arith) (omega arith)

of_ascends : (k : ℕ) (K : List ℕ) → Ascends (k ∷ K) → rising k K ≡ true
of_ascends k [] h = refl
of_ascends k (x ∷ K) h =
    and_of (ltb k x) (rising x K) (lt-ltb k x (h 0 1 (omega arith) (omega arith)))
    (of_ascends x K (λ i j l g. h (suc i) (suc j) (omega arith) (omega arith)))

pub keys_exactly : (K : List ℕ) → (ascending K ≡ true) ↔ Ascends K
keys_exactly [] = (λ e i j h l. absurd (omega arith), λ h. refl)
keys_exactly (k ∷ K) = (ascends_of k K, of_ascends k K)

-- Fit of one edit to the key column K, in a layer L: an add's key lies above the row before its position and under
-- the row at it, or is that row's where the layer strikes it; a strike's key is its row's.
abbrev pub Above : List ℕ → ℕ → ℕ → Type 0
Above K zero k = Unit {0}
Above K (suc s) k = get_or K s 0 < k

abbrev pub Under : List ℕ → Layer → ℕ → ℕ → Type 0
Under K L s k =
    s < length K → (k < get_or K s 0) ⊎ ((k ≡ get_or K s 0) × ((l : ℕ) × Mem (at s (strike l)) L))

abbrev pub Suits : List ℕ → Layer → Edit → Type 0
Suits K L (at s (add r)) = Above K s (key r) × Under K L s (key r)
Suits K L (at s (strike k)) = get_or K s 0 ≡ k
Suits K L (at s (change j e)) = Unit {0}

-- Two edits: adds at one position have strictly ascending keys.
abbrev pub Rises : Edit → Edit → Type 0
Rises (at p (add q)) (at s (add r)) = p ≡ s → key q < key r
Rises (at p (add q)) (at s (strike k)) = Unit {0}
Rises (at p (add q)) (at s (change j e)) = Unit {0}
Rises (at p (strike l)) e = Unit {0}
Rises (at p (change i f)) e = Unit {0}

above_exactly : (K : List ℕ) (s k : ℕ) → (above K s k ≡ true) ↔ Above K s k
above_exactly K zero k = (λ e. tt, λ w. refl)
above_exactly K (suc s) k = (ltb-true (get_or K s 0) k, lt-ltb (get_or K s 0) k)

module _ (K : List ℕ) (L : Layer) (s k : ℕ) where
  abbrev equal_test : Bool
  equal_test = eqb k (get_or K s 0) && struck s L

  under_of : under K L s k ≡ true → Under K L s k
  under_of e h = near (or_cases (ltb k (get_or K s 0)) equal_test (rw (lt-leb (length K) s h) at e))
    where
      near : (ltb k (get_or K s 0) ≡ true) ⊎ (equal_test ≡ true)
          → (k < get_or K s 0) ⊎ ((k ≡ get_or K s 0) × ((l : ℕ) × Mem (at s (strike l)) L))
      near (inl f) = inl (ltb-true k (get_or K s 0) f)
      near (inr f) =
          let e = and_l (eqb k (get_or K s 0)) (struck s L) f in
          inr (eqb-true k (get_or K s 0) e, of_struck s L (and_r (eqb k (get_or K s 0)) (struck s L) f))

  of_under : Under K L s k → under K L s k ≡ true
  of_under w = go (leb (length K) s) refl
    where
      near : (k < get_or K s 0) ⊎ ((k ≡ get_or K s 0) × ((l : ℕ) × Mem (at s (strike l)) L))
          → ltb k (get_or K s 0) || equal_test ≡ true
      near (inl f) = or_l (ltb k (get_or K s 0)) equal_test (lt-ltb k (get_or K s 0) f)
      near (inr f) =
          or_r (ltb k (get_or K s 0)) equal_test
          (and_of (eqb k (get_or K s 0)) (struck s L) (eq-eqb k (get_or K s 0) f.0) (struck_of s f.1.0 L f.1.1))

      go : (t : Bool) → leb (length K) s ≡ t → t || (ltb k (get_or K s 0) || equal_test) ≡ true
      go true e = refl
      go false e = near (w (leb-false (length K) s e))

suits_exactly : (K : List ℕ) (L : Layer) (e : Edit) → (suits K L e ≡ true) ↔ Suits K L e
suits_exactly K L (at s (add r)) =
    let a = above_exactly K s (key r) in (
      λ h. (
        a.0 (and_l (above K s (key r)) (under K L s (key r)) h),
        under_of K L s (key r) (and_r (above K s (key r)) (under K L s (key r)) h),
      ),
      λ w. and_of (above K s (key r)) (under K L s (key r)) (a.1 w.0) (of_under K L s (key r) w.1),
    )
suits_exactly K L (at s (strike k)) = (eqb-true (get_or K s 0) k, eq-eqb (get_or K s 0) k)
suits_exactly K L (at s (change j e)) = (λ h. tt, λ w. refl)

rises_exactly : (d e : Edit) → (rises d e ≡ true) ↔ Rises d e
rises_exactly (at p (add q)) (at s (add r)) = (λ h g. of h g, λ w. go w (eqb p s) refl)
  where
    of : not (eqb p s) || ltb (key q) (key r) ≡ true → p ≡ s → key q < key r
    of h g = ltb-true (key q) (key r) (rw (eq-eqb p s g) at h)

    go : (p ≡ s → key q < key r) → (t : Bool) → eqb p s ≡ t → not t || ltb (key q) (key r) ≡ true
    go w true e = lt-ltb (key q) (key r) (w (eqb-true p s e))
    go w false e = refl
rises_exactly (at p (add q)) (at s (strike k)) = (λ h. tt, λ w. or_r (not (eqb p s)) true refl)
rises_exactly (at p (add q)) (at s (change j e)) = (λ h. tt, λ w. or_r (not (eqb p s)) true refl)
rises_exactly (at p (strike l)) (at s e) = (λ h. tt, λ w. or_r (not (eqb p s)) true refl)
rises_exactly (at p (change i f)) (at s e) = (λ h. tt, λ w. or_r (not (eqb p s)) true refl)

-- edit number i of a layer
abbrev pub edit_no : Layer → ℕ → Edit
edit_no L i = get_or L i (at 0 (strike 0))

-- The rules of fit, of the first k edits of a layer: that the row of an equal key is struck may stand later.
pub record Fitting (K : List ℕ) (L : Layer) (k : ℕ) : Type 0 where
  pub each : (i : ℕ) → i < k → Suits K L (edit_no L i)
  pub rise : (i j : ℕ) → i < j → j < k → Rises (edit_no L i) (edit_no L j)

module _ (K : List ℕ) (L : Layer) where
  -- k is at most the place exactly where the first k edits keep the rules
  pub fit_place_exactly : (k : ℕ) → k ≤ length L → (k ≤ fit_place K L) ↔ Fitting K L k
  unfolding fit_place
  fit_place_exactly k h = (
    λ l. let w = least_keeps (suits K L) rises (at 0 (strike 0)) [] L k l in
        record {
          each = λ i g. (suits_exactly K L (edit_no L i)).0 (w.each i g);
          rise = λ i j g b. (rises_exactly (edit_no L i) (edit_no L j)).0 (w.pairs i j g b);
        },
    λ w. keeps_least (suits K L) rises (at 0 (strike 0)) [] L k h (record {
      each = λ i g. (suits_exactly K L (edit_no L i)).1 (w.each i g);
      past = λ y m i g. absurd (not-nil m);
      pairs = λ i j g b. (rises_exactly (edit_no L i) (edit_no L j)).1 (w.rise i j g b);
    }),
  )

  -- refusal 4 is not met exactly where the layer fits
  pub fit_exactly : (ltb (fit_place K L) (length L) ≡ false) ↔ Fitting K L (length L)
  fit_exactly =
      let w = fit_place_exactly (length L) (omega arith) in
      (λ h. w.0 (ltb-false (fit_place K L) (length L) h), λ f. le-ltb (fit_place K L) (length L) (w.1 f))

-- two changes of one cell conflict exactly where their values differ
pub values_exactly : (s j v w : ℕ) → (clash (at s (change j (to v))) (at s (change j (to w))) ≡ Some same_cell) ↔ (v ≡ w → ⊥)
values_exactly s j v w = (
  λ h e. true≢false (sym (ap met h) ∙ rw (eq-eqb s s refl, eq-eqb j j refl, eq-eqb v w e)),
  λ ne. rw (eq-eqb s s refl, eq-eqb j j refl, ne_eqb v w ne),
)

-- Conflict, and its place: the lowest entry of X in any.
conflict_one : (x : Edit) (Y : Layer) → (clashes_with Y x ≡ true) ↔ Conflicting (x ∷ []) Y
unfolding conflict
conflict_one x Y = (
  λ h. conflicting (x ∷ []) Y (or_l (clashes_with Y x) false h),
  λ w.
      ⊎_elim (λ h. h) (λ h. absurd (true≢false (sym h)))
      (or_cases (clashes_with Y x) false (of_conflicting (x ∷ []) Y w)),
)

least_none : (f : Edit → Bool) (X : Layer) (k : ℕ) → k ≤ length X → ((i : ℕ) → i < k → f (edit_no X i) ≡ false)
    → k ≤ first_at f X
least_none f X zero h w = omega arith
least_none f [] (suc k) h w = absurd (omega arith)
least_none f (x ∷ X) (suc k) h w =
    rw (w 0 (omega arith)) (let ih = least_none f X k (omega arith) (λ i l. w (suc i) (omega arith)) in omega arith)

module _ (X Y : Layer) where
  pub conflict_exactly : (conflict X Y ≡ false) ↔ (Conflicting X Y → ⊥)
  conflict_exactly = (
    λ h w. true≢false (sym (of_conflicting X Y w) ∙ h),
    λ f. not_passed (conflict X Y) (λ h. f (conflicting X Y h)),
  )

  pub conflict_place_exactly : (k : ℕ) → k ≤ length X
      → (k ≤ conflict_place X Y) ↔ ((i : ℕ) → i < k → Conflicting (edit_no X i ∷ []) Y → ⊥)
  unfolding conflict_place
  conflict_place_exactly k h = (
    λ l i g w.
        true≢false (sym ((conflict_one (edit_no X i) Y).1 w)
        ∙ first_least (clashes_with Y) (at 0 (strike 0)) X i (omega arith)),
    λ f. least_none (clashes_with Y) X k h (λ i l.
        not_passed (clashes_with Y (edit_no X i)) (λ e. f i l ((conflict_one (edit_no X i) Y).0 e))),
  )
