-- Reading run by run is the reading rule: an edit that says nothing of a position changes nothing there.
-- Assumes nothing.
use Prim.Native.Nat.{ℕ, zero, suc, ◌+◌, ◌-◌, ◌≤◌, ◌<◌}
use native.Mathlib.Nat.{add-zero}
use native.Mathlib.Omega.{arith}
use mathlib.Core.Path.{◌≡◌, refl, sym, ap, subst, ◌∙◌}
use mathlib.Core.Bool.{Bool, true, false, cond, and-false}
use mathlib.Core.List.{List, [], ◌∷◌, ◌++◌}
use lib.ListN.{length, get_or, drop}
use lib.Seq.{slice, slice_empty, slice-cons, drop-cons}
use lib.Dec.{eqb}
use borrow.Author.Tests.{eq-eqb, ne_eqb}
use Rattle.model.specs.Row.{Row, cell}
use Rattle.model.specs.Cell.{CellEdit, done}
use Rattle.model.specs.Layer.{
  Deed,
  add,
  strike,
  change,
  Edit,
  at,
  Layer,
  position,
  added_by,
  strikes_row,
  change_cell,
  adds_at,
  struck,
  changed_cell,
}
use Rattle.model.specs.Read.{read_column_from, read_column, touches}
use Rattle.column.specs.Runs.{runs_from, Ready}

-- the edit says nothing of column j at p
pub record Silent (j p : ℕ) (e : Edit) : Type 0 where
  pub adds : added_by p e ≡ []
  pub strikes : strikes_row p e ≡ false
  pub changes : (v : ℕ) → change_cell p j e v ≡ v

silent_elsewhere : (j p : ℕ) (e : Edit) → (p ≡ position e → ⊥) → Silent j p e
silent_elsewhere j p (at s (add r)) h = record { adds = rw (ne_eqb p s h); strikes = refl; changes = λ v. refl }
silent_elsewhere j p (at s (strike k)) h = record { adds = refl; strikes = ne_eqb p s h; changes = λ v. refl }
silent_elsewhere j p (at s (change i e)) h = record { adds = refl; strikes = refl; changes = λ v. rw (ne_eqb p s h) }

silent_other : (j p s i : ℕ) (e : CellEdit) → eqb j i ≡ false → Silent j p (at s (change i e))
silent_other j p s i e h = record { adds = refl; strikes = refl; changes = λ v. rw (h, and-false (eqb p s)) }

-- from s on it may be left out
without : (j : ℕ) (e : Edit) (L : Layer) (s : ℕ) (xs : List ℕ) → ((p : ℕ) → s ≤ p → Silent j p e)
    → read_column_from j s xs (e ∷ L) ≡ read_column_from j s xs L
without j e L s [] h = rw (h s (omega arith)).adds
without j e L s (x ∷ xs) h =
    let q = h s (omega arith) in
    rw (q.adds, q.strikes, q.changes x, without j e L (suc s) xs (λ p k. h p (omega arith)))

-- every edit that shows in column j stands at t or later
unfoldable Later : ℕ → ℕ → Layer → Type 0
Later j t [] = Unit {0}
Later j t (e ∷ L) = (touches j e ≡ true → t ≤ position e) × Later j t L

later_less : (j t u : ℕ) (L : Layer) → t ≤ u → Later j u L → Later j t L
unfolding Later
later_less j t u [] h l = tt
later_less j t u (e ∷ L) h l = (λ w. omega (arith, l.0 w), later_less j t u L h l.1)

ready_later : (j n s : ℕ) (L : Layer) → Ready j n s L → Later j s L
unfolding Ready Later
ready_later j n s [] r = tt
ready_later j n s (at p (add q) ∷ L) r = (λ w. r.0, later_less j s p L r.0 (ready_later j n p L r.2))
ready_later j n s (at p (strike k) ∷ L) r =
    (λ w. r.0, later_less j s (suc p) L (omega (arith, r.0)) (ready_later j n (suc p) L r.2))
ready_later j n s (at p (change i e) ∷ L) r =
    by (eqb j i) refl (λ z. ready_later j n (suc p) L z) (λ z. ready_later j n s L z)
  where
    by : (b : Bool) → eqb j i ≡ b → (Ready j n (suc p) L → Later j (suc p) L) → (Ready j n s L → Later j s L)
        → (eqb j i ≡ true → s ≤ p) × Later j s L
    by true h f g = (λ w. (r.0 h).0, later_less j s (suc p) L (omega (arith, (r.0 h).0)) (f (r.0 h).2))
    by false h f g = (λ w. (r.0 w).0, g (r.1 h))

ready_le : (j n s : ℕ) (L : Layer) → Ready j n s L → s ≤ n
unfolding Ready
ready_le j n s [] r = r
ready_le j n s (at p (add q) ∷ L) r = omega (arith, r.0, r.1)
ready_le j n s (at p (strike k) ∷ L) r = omega (arith, r.0, r.1)
ready_le j n s (at p (change i e) ∷ L) r = by (eqb j i) refl (λ z. ready_le j n s L z)
  where
    by : (b : Bool) → eqb j i ≡ b → (Ready j n s L → s ≤ n) → s ≤ n
    by true h f = omega (arith, (r.0 h).0, (r.0 h).1)
    by false h f = f (r.1 h)

-- where all stand later, no one says anything
pub record Quiet (j p : ℕ) (L : Layer) : Type 0 where
  pub adds : adds_at p L ≡ []
  pub strikes : struck p L ≡ false
  pub changes : (v : ℕ) → changed_cell p j L v ≡ v

silent_later : (j p : ℕ) (e : Edit) → (touches j e ≡ true → suc p ≤ position e) → Silent j p e
silent_later j p (at s (add r)) h = silent_elsewhere j p (at s (add r)) (λ q. omega (arith, h refl))
silent_later j p (at s (strike k)) h = silent_elsewhere j p (at s (strike k)) (λ q. omega (arith, h refl))
silent_later j p (at s (change i e)) h = by (eqb j i) refl
  where
    by : (b : Bool) → eqb j i ≡ b → Silent j p (at s (change i e))
    by true k = silent_elsewhere j p (at s (change i e)) (λ q. omega (arith, h k))
    by false k = silent_other j p s i e k

quiet : (j p : ℕ) (L : Layer) → Later j (suc p) L → Quiet j p L
unfolding Later
quiet j p [] l = record { adds = refl; strikes = refl; changes = λ v. refl }
quiet j p (e ∷ L) l =
    let a = silent_later j p e l.0 in
    let b = quiet j p L l.1 in
    record {
      adds = rw a.adds b.adds;
      strikes = rw a.strikes b.strikes;
      changes = λ v. rw (a.changes v) (b.changes v);
    }

-- up to t the base rows are shown
run : (j : ℕ) (xs : List ℕ) (L : Layer) (d s : ℕ) → Later j (s + d) L → s + d ≤ length xs
    → read_column_from j s (drop s xs) L ≡ slice s (s + d) xs ++ read_column_from j (s + d) (drop (s + d) xs) L
run j xs L zero s l h = rw (add-zero, slice_empty s xs)
run j xs L (suc d) s l h =
    let e : s + suc d ≡ suc s + d = omega arith in
    let q = quiet j s L (later_less j (suc s) (s + suc d) L (omega arith) l) in
    let x = get_or xs s 0 in
    rw (drop-cons xs s 0 (omega arith), q.adds, q.strikes, q.changes x, slice-cons s (s + suc d) xs 0 (omega arith) h, e)
    (ap (λ (t : List ℕ). get_or xs s 0 ∷ t) (run j xs L d (suc s) (subst (λ (n : ℕ). Later j n L) e l) (omega arith)))

-- and then what the layer shows from p on
run_then : (j : ℕ) (xs : List ℕ) (L : Layer) (s p : ℕ) (ys : List ℕ) → s ≤ p → p ≤ length xs → Later j p L
    → read_column_from j p (drop p xs) L ≡ ys → slice s p xs ++ ys ≡ read_column_from j s (drop s xs) L
run_then j xs L s p ys h k l q =
    let e : s + (p - s) ≡ p = omega arith in
    let r = run j xs L (p - s) s (subst (λ (t : ℕ). Later j t L) (sym e) l) (omega arith) in
    sym (r ∙ ap (λ (t : ℕ). slice s t xs ++ read_column_from j t (drop t xs) L) e
    ∙ ap (λ (zs : List ℕ). slice s p xs ++ zs) q)

bare : (j s : ℕ) (xs : List ℕ) → read_column_from j s xs [] ≡ xs
bare j s [] = refl
bare j s (x ∷ xs) = ap (λ (t : List ℕ). x ∷ t) (bare j (suc s) xs)

-- at its own position the edit shows what it does
module _ (j p : ℕ) (L : Layer) where
  behind : (d : Deed) (xs : List ℕ) → read_column_from j (suc p) xs (at p d ∷ L) ≡ read_column_from j (suc p) xs L
  behind d xs = without j (at p d) L (suc p) xs (λ q k. silent_elsewhere j q (at p d) (λ z. omega arith))

  at_add_lem : (r : Row) (xs : List ℕ) → read_column_from j p xs (at p (add r) ∷ L) ≡ cell j r ∷ read_column_from j p xs L
  at_add_lem r [] = rw (eq-eqb p p refl)
  at_add_lem r (x ∷ xs) = rw (eq-eqb p p refl, behind (add r) xs)

  at_strike : (k : ℕ) (xs : List ℕ) → p < length xs → Later j (suc p) L
      → read_column_from j p (drop p xs) (at p (strike k) ∷ L) ≡ read_column_from j (suc p) (drop (suc p) xs) L
  at_strike k xs h l = rw (drop-cons xs p 0 h, eq-eqb p p refl, (quiet j p L l).adds, behind (strike k) (drop (suc p) xs))

  at_change : (i : ℕ) (e : CellEdit) (xs : List ℕ) → eqb j i ≡ true → p < length xs → Later j (suc p) L
      → read_column_from j p (drop p xs) (at p (change i e) ∷ L)
      ≡ done e (get_or xs p 0) ∷ read_column_from j (suc p) (drop (suc p) xs) L
  at_change i e xs t h l =
      let q = quiet j p L l in
      let v = done e (get_or xs p 0) in
      rw (drop-cons xs p 0 h, behind (change i e) (drop (suc p) xs), eq-eqb p p refl, t, q.adds, q.strikes, q.changes v)

-- run by run from s is the rule from s
pub same_from : (j s : ℕ) (xs : List ℕ) (L : Layer) → Ready j (length xs) s L
    → runs_from j s xs L ≡ read_column_from j s (drop s xs) L
unfolding runs_from Ready Later
same_from j s xs [] r = sym (bare j s (drop s xs))
same_from j s xs (at p (add q) ∷ L) r =
    let l = ready_later j (length xs) p L r.2 in
    run_then j xs (at p (add q) ∷ L) s p (cell j q ∷ runs_from j p xs L) r.0 r.1 (λ w. omega arith, l)
    (at_add_lem j p L q (drop p xs) ∙ rw (same_from j p xs L r.2))
same_from j s xs (at p (strike k) ∷ L) r =
    let l = ready_later j (length xs) (suc p) L r.2 in
    run_then j xs (at p (strike k) ∷ L) s p (runs_from j (suc p) xs L) r.0 (omega (arith, r.1))
    (λ w. omega arith, later_less j p (suc p) L (omega arith) l)
    (at_strike j p L k xs r.1 l ∙ rw (same_from j (suc p) xs L r.2))
same_from j s xs (at p (change i e) ∷ L) r =
    by (eqb j i) refl (λ z. same_from j (suc p) xs L z) (λ z. same_from j s xs L z)
  where
    by : (b : Bool) → eqb j i ≡ b
        → (Ready j (length xs) (suc p) L → runs_from j (suc p) xs L ≡ read_column_from j (suc p) (drop (suc p) xs) L)
        → (Ready j (length xs) s L → runs_from j s xs L ≡ read_column_from j s (drop s xs) L)
        → cond b (slice s p xs ++ (done e (get_or xs p 0) ∷ runs_from j (suc p) xs L)) (runs_from j s xs L)
        ≡ read_column_from j s (drop s xs) (at p (change i e) ∷ L)
    by true h f g =
        let r' = r.0 h in
        let l = ready_later j (length xs) (suc p) L r'.2 in
        run_then j xs (at p (change i e) ∷ L) s p (done e (get_or xs p 0) ∷ runs_from j (suc p) xs L) r'.0
        (omega (arith, r'.1))
        (λ w. omega arith, later_less j p (suc p) L (omega arith) l)
        (at_change j p L i e xs h r'.1 l ∙ rw (f r'.2))
    by false h f g = g (r.1 h) ∙ sym (without j (at p (change i e)) L s (drop s xs) (λ q z. silent_other j q p i e h))

pub same : (j : ℕ) (xs : List ℕ) (L : Layer) → Ready j (length xs) 0 L → runs_from j 0 xs L ≡ read_column j xs L
same j xs L r = same_from j 0 xs L r
