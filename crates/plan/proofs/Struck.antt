-- Striking a base row: its changes stand together, right where the strike lands.
-- Assumes nothing.
use Prim.Native.Nat.{ℕ, suc, ◌+◌, ◌-◌, ◌≤◌, ◌<◌}
use native.Mathlib.Omega.{arith}
use mathlib.Core.Path.{◌≡◌, refl, sym, ap, ◌∙◌}
use mathlib.Core.Logic.{⊎_elim}
use mathlib.Core.Bool.{Bool, true, false, not, cond, true≢false}
use mathlib.Core.List.{List, [], ◌∷◌, ◌++◌, Memᴰ as Mem}
use lib.ListN.{length, get_or, take, drop}
use lib.Dec.{ltb}
use borrow.Author.Tests.{eq-eqb, ne_eqb, ltb-true}
use Rattle.order.specs.Lists.{first_at}
use Rattle.order.proofs.Tests.{tests, not_passed}
use Rattle.order.proofs.Pairs.{AllPairs}
use Rattle.order.proofs.Splice.{drop_mem, take_mem, part, splice}
use Rattle.model.specs.Row.{key}
use Rattle.model.specs.Layer.{Deed, add, strike, change, Edit, at, Layer, position, struck, changes_row}
use Rattle.words.specs.Entry.{ADD, STRIKE}
use Rattle.model.specs.Edits.{deed_before, before, strike_base}
use Rattle.theory.proofs.Edits.{before_cases, before_lt, before_eq}
use Rattle.theory.proofs.Layer.{struck_of}
use Rattle.landing.specs.Landing.{aim, landing}
use Rattle.landing.proofs.Landed.{landing_le, lands_after, lands_first}

-- a strike stands where its position puts it, whatever its key
same_strike : (d : Edit) (s k l : ℕ) → before d (at s (strike k)) ≡ before d (at s (strike l))
same_strike (at p (add q)) s k l = refl
same_strike (at p (strike x)) s k l = refl
same_strike (at p (change j f)) s k l = refl

-- before the first add that may stand at s + 1: the edits at positions up to s
pub up_to : (d : Edit) (s : ℕ) → before d (aim (s + 1) ADD 0) ≡ true → position d ≤ s
unfolding key
up_to (at p b) s h = ⊎_elim (λ l. omega arith) (λ w. absurd (none b w.1)) (before_cases p (s + 1) b (add (0 ∷ [])) h)
  where
    none : (b : Deed) → deed_before b (add (0 ∷ [])) ≡ true → ⊥
    none (add q) e = omega (arith, ltb-true (key q) 0 e)
    none (strike k) e = true≢false (sym e)
    none (change j f) e = true≢false (sym e)

past : (d : Edit) (s : ℕ) → before d (aim (s + 1) ADD 0) ≡ false → s < position d
past (at p b) s h = go (ltb p (s + 1)) refl
  where
    go : (t : Bool) → ltb p (s + 1) ≡ t → s < p
    go true e = absurd (true≢false (sym (before_lt (at p b) (at (s + 1) (add (0 ∷ []))) (ltb-true p (s + 1) e)) ∙ h))
    go false e = omega tests

-- The edits before the strike of row s do not change it; those at or before s that do not stand before it do; those
-- past s do not.
module _ (s k : ℕ) where
  keeps : (d : Edit) → before d (at s (strike k)) ≡ true → changes_row s d ≡ false
  keeps (at p (add q)) h = refl
  keeps (at p (strike l)) h = refl
  keeps (at p (change j f)) h =
      ⊎_elim (λ l. ne_eqb s p (λ e. omega arith)) (λ w. absurd (true≢false (sym w.1)))
      (before_cases p s (change j f) (strike k) h)

  goes : (d : Edit) → before d (at s (strike k)) ≡ false → position d ≤ s → ((l : ℕ) → d ≡ at s (strike l) → ⊥)
      → changes_row s d ≡ true
  goes (at p b) h l none = go (ltb p s) refl
    where
      level : p ≡ s → (b : Deed) → before (at p b) (at s (strike k)) ≡ false
          → ((l : ℕ) → at p b ≡ at s (strike l) → ⊥) → changes_row s (at p b) ≡ true
      level e (add q) f never = absurd (true≢false (sym (before_eq p s (add q) (strike k) e refl) ∙ f))
      level e (strike x) f never = absurd (never x (ap (λ (n : ℕ). at n (strike x)) e))
      level e (change j g) f never = eq-eqb s p (sym e)

      go : (t : Bool) → ltb p s ≡ t → changes_row s (at p b) ≡ true
      go true e = absurd (true≢false (sym (before_lt (at p b) (at s (strike k)) (ltb-true p s e)) ∙ h))
      go false e = level (omega tests) b h none

  beyond : (d : Edit) → s < position d → (before d (at s (strike k)) ≡ false) × (changes_row s d ≡ false)
  beyond (at p b) h = (not_passed (before (at p b) (at s (strike k))) never, cell b)
    where
      never : before (at p b) (at s (strike k)) ≡ true → ⊥
      never e = ⊎_elim (λ l. omega arith) (λ w. omega (arith, w.0)) (before_cases p s b (strike k) e)

      cell : (b : Deed) → changes_row s (at p b) ≡ false
      cell (add q) = refl
      cell (strike l) = refl
      cell (change j f) = ne_eqb s p (λ e. omega arith)

-- what stands before one of two edits stands before the other
pub land_mono : (e f : Edit) → ((d : Edit) → before d e ≡ true → before d f ≡ true) → (L : Layer)
    → landing e L ≤ landing f L
unfolding landing
land_mono e f h [] = omega arith
land_mono e f h (x ∷ L) = go (land_mono e f h L) (before x e) refl
  where
    go : landing e L ≤ landing f L → (t : Bool) → before x e ≡ t
        → cond (not t) 0 (suc (first_at (λ d. not (before d e)) L)) ≤ cond (not (before x f)) 0
        (suc (first_at (λ d. not (before d f)) L))
    go ih true g = rw (h x g) (omega arith)
    go ih false g = omega arith

-- i is where the strike of row s lands, and end where the first add past it would
module _ (s : ℕ) (L : Layer) (sorted : AllPairs before L) (i end : ℕ) (p : i ≡ landing (aim s STRIKE 0) L)
    (q : end ≡ landing (aim (s + 1) ADD 0) L) where
  pub in_turn_lem : (i ≤ end) × (i + (end - i) ≤ length L)
  in_turn_lem =
      let t = land_mono (at s (strike 0)) (aim (s + 1) ADD 0) below L in
      omega (arith, p, q, t, landing_le (aim (s + 1) ADD 0) L)
    where
      below : (d : Edit) → before d (at s (strike 0)) ≡ true → before d (aim (s + 1) ADD 0) ≡ true
      below (at p b) h =
          before_lt (at p b) (at (s + 1) (add (0 ∷ [])))
          (⊎_elim (λ l. omega arith) (λ w. omega (arith, w.0)) (before_cases p s b (strike 0) h))

  pub strike_splice_lem : (K : List ℕ) → struck s L ≡ false
      → strike_base K s L ≡ take i L ++ (at s (strike (get_or K s 0)) ∷ drop (i + (end - i)) L)
  unfolding strike_base
  strike_splice_lem K u = splice before (at s (strike k)) (changes_row s) i (end - i) L first gone last
    where
      k : ℕ
      k = get_or K s 0

      turn : i + (end - i) ≡ end
      turn = omega (arith, in_turn_lem.0)

      first : (d : Edit) → Mem d (take i L) → (before d (at s (strike k)) ≡ true) × (changes_row s d ≡ false)
      first d m =
          let h = same_strike d s k 0 ∙ lands_after (aim s STRIKE 0) L i p d m in (h, keeps s k d h)

      gone : (d : Edit) → Mem d (take (end - i) (drop i L)) → changes_row s d ≡ true
      gone d m =
          let inside = rw (part i end L) at m in
          goes s k d
          (same_strike d s k 0 ∙ lands_first (aim s STRIKE 0) L i p sorted d (take_mem (end - i) (drop i L) d m))
          (up_to d s (lands_after (aim (s + 1) ADD 0) L end q d (drop_mem i (take end L) d inside)))
          (λ l e. true≢false (sym (struck_of s l L (rw (sym e) (take_mem end L d (drop_mem i (take end L) d inside))))
          ∙ u))

      last : (d : Edit) → Mem d (drop (i + (end - i)) L) → (before d (at s (strike k)) ≡ false)
          × (changes_row s d ≡ false)
      last d m = beyond s k d (past d s (lands_first (aim (s + 1) ADD 0) L end q sorted d (rw turn at m)))
