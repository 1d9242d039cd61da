-- The order of a layer's edits: strict, and what form and fit say together of any two of them; and by numbers of their kinds.
-- And edits that set a cell.
-- Assumes nothing.
use mathlib.Core.Path.{◌≡◌, refl, sym, ap, ◌∙◌}
use mathlib.Core.Logic.{◌⊎◌, inl, inr, ⊎_elim}
use mathlib.Core.Bool.{Bool, true, false, not, cond, ◌&&◌, ◌||◌, true≢false, or-false}
use mathlib.Core.List.{[], ◌∷◌}
use Prim.Native.Nat.{ℕ, ◌<◌}
use native.Mathlib.Omega.{arith}
use lib.Dec.{ltb, eqb}
use borrow.Author.Tests.{lt-ltb, eq-eqb, ne_eqb}
use Rattle.order.proofs.Tests.{tests, or_l, or_r, lex_cases, lex_lt, lex_eq}
use Rattle.model.specs.Row.{Row, key}
use Rattle.model.specs.Cell.{to, over}
use Rattle.model.specs.Layer.{Deed, add, strike, change, Edit, at, Layer, position}
use Rattle.model.specs.Form.{after, follows}
use Rattle.model.specs.Fit.{keys_rise, rises}
use Rattle.model.specs.Edits.{deed_before, before, over_deed, composed}

-- a cell that is set forgets what was done to it
pub set_over : (j v : ℕ) (d : Deed) → over_deed j (to v) d ≡ to v
set_over j v (add r) = refl
set_over j v (strike k) = refl
set_over j v (change i f) = go (eqb j i)
  where
    go : (t : Bool) → cond t (over (to v) f) (to v) ≡ to v
    go true = refl
    go false = refl

pub set_composed : (s j v : ℕ) (L : Layer) → composed s j (to v) L ≡ to v
set_composed s j v [] = refl
set_composed s j v (at p d ∷ L) =
    rw (set_composed s j v L, set_over j v d) (elim (eqb s p) as (λ t. cond t (to v) (to v) ≡ to v) [ true ↦ refl | false ↦ refl ])

-- any two deeds at one position
deed_of_lem : (d e : Deed) → after d e ≡ true → keys_rise d e ≡ true → deed_before d e ≡ true
deed_of_lem (add q) (add r) a k = k
deed_of_lem (add q) (strike l) a k = refl
deed_of_lem (add q) (change j f) a k = refl
deed_of_lem (strike l) e a k = absurd (true≢false (sym a))
deed_of_lem (change j f) (add r) a k = absurd (true≢false (sym a))
deed_of_lem (change j f) (strike l) a k = absurd (true≢false (sym a))
deed_of_lem (change j f) (change i g) a k = a

deed_after : (d e : Deed) → deed_before d e ≡ true → after d e ≡ true
deed_after (add q) e h = refl
deed_after (strike l) e h = absurd (true≢false (sym h))
deed_after (change j f) (add r) h = absurd (true≢false (sym h))
deed_after (change j f) (strike l) h = absurd (true≢false (sym h))
deed_after (change j f) (change i g) h = h

deed_rises : (d e : Deed) → deed_before d e ≡ true → keys_rise d e ≡ true
deed_rises (add q) (add r) h = h
deed_rises (add q) (strike l) h = refl
deed_rises (add q) (change j f) h = refl
deed_rises (strike l) e h = refl
deed_rises (change j f) e h = refl

pub deed_trans : (d e f : Deed) → deed_before d e ≡ true → deed_before e f ≡ true → deed_before d f ≡ true
deed_trans (add q) (add r) (add x) a b = lt-ltb (key q) (key x) (omega tests)
deed_trans (add q) (add r) (strike l) a b = refl
deed_trans (add q) (add r) (change j f) a b = refl
deed_trans (add q) (strike l) f a b = absurd (true≢false (sym b))
deed_trans (add q) (change j g) (add r) a b = absurd (true≢false (sym b))
deed_trans (add q) (change j g) (strike l) a b = absurd (true≢false (sym b))
deed_trans (add q) (change j g) (change i h) a b = refl
deed_trans (strike l) e f a b = absurd (true≢false (sym a))
deed_trans (change j g) (add r) f a b = absurd (true≢false (sym a))
deed_trans (change j g) (strike l) f a b = absurd (true≢false (sym a))
deed_trans (change j g) (change i h) (add r) a b = absurd (true≢false (sym b))
deed_trans (change j g) (change i h) (strike l) a b = absurd (true≢false (sym b))
deed_trans (change j g) (change i h) (change k m) a b = lt-ltb j k (omega tests)

pub deed_asym : (d e : Deed) → deed_before d e ≡ true → deed_before e d ≡ true → ⊥
deed_asym (add q) (add r) a b = omega tests
deed_asym (add q) (strike l) a b = true≢false (sym b)
deed_asym (add q) (change j f) a b = true≢false (sym b)
deed_asym (strike l) e a b = true≢false (sym a)
deed_asym (change j f) (add r) a b = true≢false (sym a)
deed_asym (change j f) (strike l) a b = true≢false (sym a)
deed_asym (change j f) (change i g) a b = omega tests

-- any two edits
pub before_cases : (p s : ℕ) (d e : Deed) → before (at p d) (at s e) ≡ true → (p < s) ⊎ ((p ≡ s) × (deed_before d e ≡ true))
before_cases p s d e h = lex_cases p s (deed_before d e) h

pub before_lt : (d e : Edit) → position d < position e → before d e ≡ true
before_lt (at p d) (at s e) h = lex_lt p s (deed_before d e) h

pub before_eq : (p s : ℕ) (d e : Deed) → p ≡ s → deed_before d e ≡ true → before (at p d) (at s e) ≡ true
before_eq p s d e h t = lex_eq p s (deed_before d e) h t

pub before_trans : (d e f : Edit) → before d e ≡ true → before e f ≡ true → before d f ≡ true
before_trans (at p d) (at s e) (at t f) a b = go (before_cases p s d e a) (before_cases s t e f b)
  where
    go : (p < s) ⊎ ((p ≡ s) × (deed_before d e ≡ true)) → (s < t) ⊎ ((s ≡ t) × (deed_before e f ≡ true))
        → before (at p d) (at t f) ≡ true
    go (inl x) (inl y) = lex_lt p t (deed_before d f) (omega arith)
    go (inl x) (inr y) = lex_lt p t (deed_before d f) (omega (arith, y.0))
    go (inr x) (inl y) = lex_lt p t (deed_before d f) (omega (arith, x.0))
    go (inr x) (inr y) = lex_eq p t (deed_before d f) (x.0 ∙ y.0) (deed_trans d e f x.1 y.1)

pub before_asym : (d e : Edit) → before d e ≡ true → before e d ≡ true → ⊥
before_asym (at p d) (at s e) a b = go (before_cases p s d e a) (before_cases s p e d b)
  where
    go : (p < s) ⊎ ((p ≡ s) × (deed_before d e ≡ true)) → (s < p) ⊎ ((s ≡ p) × (deed_before e d ≡ true)) → ⊥
    go (inl x) (inl y) = omega arith
    go (inl x) (inr y) = omega (arith, y.0)
    go (inr x) (inl y) = omega (arith, x.0)
    go (inr x) (inr y) = deed_asym d e x.1 y.1

pub before_of : (d e : Edit) → follows d e ≡ true → rises d e ≡ true → before d e ≡ true
before_of (at p d) (at s e) f r = go (lex_cases p s (after d e) f)
  where
    go : (p < s) ⊎ ((p ≡ s) × (after d e ≡ true)) → before (at p d) (at s e) ≡ true
    go (inl x) = lex_lt p s (deed_before d e) x
    go (inr x) = lex_eq p s (deed_before d e) x.0 (deed_of_lem d e x.1 (rw (eq-eqb p s x.0) at r))

pub before_follows : (d e : Edit) → before d e ≡ true → follows d e ≡ true
before_follows (at p d) (at s e) h = go (before_cases p s d e h)
  where
    go : (p < s) ⊎ ((p ≡ s) × (deed_before d e ≡ true)) → follows (at p d) (at s e) ≡ true
    go (inl x) = lex_lt p s (after d e) x
    go (inr x) = lex_eq p s (after d e) x.0 (deed_after d e x.1)

pub before_rises : (d e : Edit) → before d e ≡ true → rises d e ≡ true
before_rises (at p d) (at s e) h = go (before_cases p s d e h)
  where
    go : (p < s) ⊎ ((p ≡ s) × (deed_before d e ≡ true)) → rises (at p d) (at s e) ≡ true
    go (inl x) = or_l (not (eqb p s)) (keys_rise d e) (ap not (ne_eqb p s (λ g. omega arith)))
    go (inr x) = or_r (not (eqb p s)) (keys_rise d e) (deed_rises d e x.1)

-- at one position
pub level : (p s : ℕ) (d e : Deed) → p ≡ s → before (at p d) (at s e) ≡ true → deed_before d e ≡ true
level p s d e ps h = ⊎_elim (λ l. absurd (omega arith)) (λ w. w.1) (before_cases p s d e h)

-- an add's place in the order is its key's
pub deed_key : (d : Deed) (q r : Row) → key q ≡ key r → deed_before d (add q) ≡ deed_before d (add r)
deed_key (add x) q r h = ap (ltb (key x)) h
deed_key (strike k) q r h = refl
deed_key (change i f) q r h = refl

pub before_key : (x : Edit) (p : ℕ) (q r : Row) → key q ≡ key r → before x (at p (add q)) ≡ before x (at p (add r))
before_key (at s d) p q r h = ap (λ (t : Bool). ltb s p || (eqb s p && t)) (deed_key d q r h)

-- a deed by two tests of its kind: an added row, else the struck key u, else a change of column j to u
abbrev pub deed_by : Bool → Bool → Row → ℕ → ℕ → Deed
deed_by is_add is_strike q u j = cond is_add (add q) (cond is_strike (strike u) (change j (to u)))

-- and the order at one position by tests of both kinds
pub by_kinds : (a b x y : Bool) (q r : Row) (u v i j : ℕ)
    → ((a && (not x || ltb (key q) (key r))) || (not a && (not b && (not x && (not y && ltb i j)))))
    ≡ deed_before (deed_by a b q u i) (deed_by x y r v j)
by_kinds true b true y q r u v i j = or-false (ltb (key q) (key r))
by_kinds true b false true q r u v i j = refl
by_kinds true b false false q r u v i j = refl
by_kinds false true x y q r u v i j = refl
by_kinds false false true y q r u v i j = refl
by_kinds false false false true q r u v i j = refl
by_kinds false false false false q r u v i j = refl
