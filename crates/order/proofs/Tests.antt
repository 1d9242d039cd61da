-- Tests joined and taken apart; `omega tests` reads what a test on numbers says, and proves that one passes or fails.
-- Assumes nothing.
use mathlib.Core.Path.{◌≡◌, refl, sym, ap}
use mathlib.Core.Logic.{◌⊎◌, inl, inr}
use mathlib.Core.Bool.{Bool, true, false, ◌&&◌, ◌||◌, true≢false, or-true}
use Prim.Native.Nat.{ℕ, ◌≤◌, ◌<◌}
use native.Mathlib.Omega.{arith}
use lib.Dec.{ltb, eqb}
use borrow.Author.Tests.{
  ltb-true,
  ltb-false,
  leb-true,
  leb-false,
  eqb-true,
  eqb-false,
  lt-ltb,
  le-ltb,
  le-leb,
  lt-leb,
  eq-eqb,
  ne_eqb,
}
use Rattle.order.specs.Lists.{one}

pub ruleset tests = (
  arith,
  ltb-true,
  ltb-false,
  leb-true,
  leb-false,
  eqb-true,
  eqb-false,
  lt-ltb,
  le-ltb,
  le-leb,
  lt-leb,
  eq-eqb,
  ne_eqb,
)

-- nothing is where 0 is 1: `impossible (cc)` where the hypotheses say that two constructors are equal
pub impossible : {A : Type 0} → ◌≡◌ {A = ℕ} 0 1 → A
impossible z = absurd (omega arith)

pub and_l : (a b : Bool) → a && b ≡ true → a ≡ true
and_l true b e = refl
and_l false b e = e

pub and_r : (a b : Bool) → a && b ≡ true → b ≡ true
and_r true b e = e
and_r false b e = absurd (true≢false (sym e))

pub and_of : (a b : Bool) → a ≡ true → b ≡ true → a && b ≡ true
and_of a b e f = rw (e) f

pub or_cases : (a b : Bool) → a || b ≡ true → (a ≡ true) ⊎ (b ≡ true)
or_cases true b e = inl refl
or_cases false b e = inr e

pub or_l : (a b : Bool) → a ≡ true → a || b ≡ true
or_l a b e = rw (e)

pub or_r : (a b : Bool) → b ≡ true → a || b ≡ true
or_r a b e = rw (e) (or-true a)

pub or_false : (a b : Bool) → a || b ≡ false → (a ≡ false) × (b ≡ false)
or_false true b e = absurd (true≢false e)
or_false false b e = (refl, e)

-- two tests that pass together are one test
pub same_test : (a b : Bool) → (a ≡ true → b ≡ true) → (b ≡ true → a ≡ true) → a ≡ b
same_test true b f g = sym (f refl)
same_test false true f g = g refl
same_test false false f g = refl

-- a test that does not pass fails
pub not_passed : (a : Bool) → (a ≡ true → ⊥) → a ≡ false
not_passed true f = absurd (f refl)
not_passed false f = refl

pub eqb_sym : (a b : ℕ) → eqb a b ≡ eqb b a
eqb_sym a b = same_test (eqb a b) (eqb b a) (λ e. eq-eqb b a (sym (eqb-true a b e))) (λ e. eq-eqb a b (sym (eqb-true b a e)))

-- a test as a number
pub one_le : (t : Bool) → one t ≤ 1
one_le true = omega arith
one_le false = omega arith

pub one_lt : (a b : ℕ) → a < b → one (ltb a b) ≡ 1
one_lt a b h = rw (lt-ltb a b h)

pub one_ge : (a b : ℕ) → b ≤ a → one (ltb a b) ≡ 0
one_ge a b h = rw (le-ltb a b h)

pub one_mono : (a k l : ℕ) → k ≤ l → one (ltb a k) ≤ one (ltb a l)
one_mono a k l h = go (ltb a k) refl
  where
    go : (t : Bool) → ltb a k ≡ t → one (ltb a k) ≤ one (ltb a l)
    go true e = omega (arith, one_lt a l (omega (arith, ltb-true a k e)), ap one e)
    go false e = omega (arith, ap one e)

-- first by one number, then by a test
pub lex_cases : (p s : ℕ) (t : Bool) → ltb p s || (eqb p s && t) ≡ true → (p < s) ⊎ ((p ≡ s) × (t ≡ true))
lex_cases p s t h = go (or_cases (ltb p s) (eqb p s && t) h)
  where
    go : (ltb p s ≡ true) ⊎ (eqb p s && t ≡ true) → (p < s) ⊎ ((p ≡ s) × (t ≡ true))
    go (inl e) = inl (ltb-true p s e)
    go (inr e) = inr (eqb-true p s (and_l (eqb p s) t e), and_r (eqb p s) t e)

pub lex_lt : (p s : ℕ) (t : Bool) → p < s → ltb p s || (eqb p s && t) ≡ true
lex_lt p s t h = or_l (ltb p s) (eqb p s && t) (lt-ltb p s h)

pub lex_eq : (p s : ℕ) (t : Bool) → p ≡ s → t ≡ true → ltb p s || (eqb p s && t) ≡ true
lex_eq p s t e h = or_r (ltb p s) (eqb p s && t) (and_of (eqb p s) t (eq-eqb p s e) h)
