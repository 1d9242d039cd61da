-- Conflict is met exactly on the demand's three cases, is the same either way round, and where it is not met the two
-- layers keep apart.
-- Assumes nothing.
use mathlib.Core.Path.{◌≡◌, refl, sym, ap, ◌∙◌}
use mathlib.Core.Logic.{◌⊎◌, inl, inr}
use mathlib.Core.Bool.{Bool, true, false, not, cond, ◌&&◌, ◌||◌, true≢false}
use mathlib.Core.List.Memᴰ.{cast as mem_cast}
use mathlib.Core.List.{Memᴰ as Mem}
use Prim.Native.Nat.{ℕ}
use lib.Dec.{eqb}
use borrow.Author.Tests.{eqb-true, eq-eqb, not-true}
use Rattle.order.proofs.Tests.{and_l, and_r, or_cases, or_l, or_r, eqb_sym, not_passed, same_test}
use Rattle.order.proofs.Members.{any_mem, any_of}
use Rattle.model.specs.Row.{Row, key}
use Rattle.model.specs.Cell.{CellEdit, to, agree}
use Rattle.model.specs.Layer.{add, strike, change, Edit, at, Layer, struck, changes_row}
use Rattle.std.specs.Prelude.{Some, None}
use Rattle.words.specs.declared.Rule.{Rule}
use Rattle.words.specs.declared.Rule.TheVariants.{StruckRow as struck_row, SameCell as same_cell, SameKey as same_key}
use Rattle.model.specs.Conflict.{clash, met, clashes_with, conflict}
use Rattle.model.specs.Demand.{
  row_changed,
  adds_key,
  key_added,
  Conflicting,
  mine_strikes,
  theirs_strikes,
  both_change,
  both_add,
}
use Rattle.theory.proofs.Layer.{of_struck, struck_of, Trade}

-- a rule that is met where a test passes: where it is met, the test passes
pub met_test : (t : Bool) (r : Rule) → met (cond t (Some r) None) ≡ true → t ≡ true
met_test true r h = refl
met_test false r h = h

-- conflict by members
pub conflict_of : (X Y : Layer) (e f : Edit) → Mem e X → Mem f Y → met (clash e f) ≡ true → conflict X Y ≡ true
unfolding conflict
conflict_of X Y e f m n h = any_of (clashes_with Y) X e m (any_of (λ y. met (clash e y)) Y f n h)

pub of_conflict : (X Y : Layer) → conflict X Y ≡ true → (e : Edit) × (f : Edit) × Mem e X × Mem f Y × (met (clash e f) ≡ true)
unfolding conflict
of_conflict X Y h =
    let w = any_mem (clashes_with Y) X h in
    let z = any_mem (λ y. met (clash w.0 y)) Y w.2 in
    (w.0, z.0, w.1, z.1, z.2)

-- a cell edit passes itself, and either way round
pub agree_same : (e : CellEdit) → agree e e ≡ true
agree_same (to v) = eq-eqb v v refl

agree_sym : (e f : CellEdit) → agree e f ≡ agree f e
agree_sym (to v) (to w) = eqb_sym v w

pub clash_sym : (e f : Edit) → clash e f ≡ clash f e
clash_sym (at p (add q)) (at s (add r)) = rw (eqb_sym (key q) (key r))
clash_sym (at p (add q)) (at s (strike k)) = refl
clash_sym (at p (add q)) (at s (change j e)) = refl
clash_sym (at p (strike l)) (at s (add r)) = refl
clash_sym (at p (strike l)) (at s (strike k)) = rw (eqb_sym p s)
clash_sym (at p (strike l)) (at s (change j e)) = rw (eqb_sym p s)
clash_sym (at p (change i f)) (at s (add r)) = refl
clash_sym (at p (change i f)) (at s (strike k)) = rw (eqb_sym p s)
clash_sym (at p (change i f)) (at s (change j e)) = rw (eqb_sym p s, eqb_sym i j, agree_sym f e)

turned : (X Y : Layer) → conflict X Y ≡ true → conflict Y X ≡ true
turned X Y h =
    let w = of_conflict X Y h in conflict_of Y X w.1 w.0 w.3 w.2 (ap met (clash_sym w.1 w.0) ∙ w.4)

pub conflict_sym : (X Y : Layer) → conflict X Y ≡ conflict Y X
conflict_sym X Y = same_test (conflict X Y) (conflict Y X) (turned X Y) (turned Y X)

-- the changes of a row, and the adds of a key, by members
of_changed : (s : ℕ) (L : Layer) → row_changed s L ≡ true → (j : ℕ) × (e : CellEdit) × Mem (at s (change j e)) L
of_changed s L h = let w = any_mem (changes_row s) L h in go w.0 w.1 w.2
  where
    go : (e : Edit) → Mem e L → changes_row s e ≡ true → (j : ℕ) × (e : CellEdit) × Mem (at s (change j e)) L
    go (at p (add r)) n g = absurd (true≢false (sym g))
    go (at p (strike k)) n g = absurd (true≢false (sym g))
    go (at p (change j e)) n g = (j, e, mem_cast {b = at p (change j e)} (ap (λ (t : ℕ). at t (change j e)) (eqb-true s p g)) n)

changed_of : (s j : ℕ) (e : CellEdit) (L : Layer) → Mem (at s (change j e)) L → row_changed s L ≡ true
changed_of s j e L m = any_of (changes_row s) L (at s (change j e)) m (eq-eqb s s refl)

of_added : (k : ℕ) (L : Layer) → key_added k L ≡ true → (s : ℕ) × (r : Row) × Mem (at s (add r)) L × (k ≡ key r)
of_added k L h = let w = any_mem (adds_key k) L h in go w.0 w.1 w.2
  where
    go : (e : Edit) → Mem e L → adds_key k e ≡ true → (s : ℕ) × (r : Row) × Mem (at s (add r)) L × (k ≡ key r)
    go (at s (add r)) n g = (s, r, n, eqb-true k (key r) g)
    go (at s (strike l)) n g = absurd (true≢false (sym g))
    go (at s (change j e)) n g = absurd (true≢false (sym g))

added_of : (k s : ℕ) (r : Row) (L : Layer) → Mem (at s (add r)) L → k ≡ key r → key_added k L ≡ true
added_of k s r L m h = any_of (adds_key k) L (at s (add r)) m (eq-eqb k (key r) h)

-- two edits that meet a rule are one of the demand's cases
case_of : (X Y : Layer) (e f : Edit) → Mem e X → Mem f Y → met (clash e f) ≡ true → Conflicting X Y
case_of X Y (at p (add q)) (at s (add r)) m n h =
    let k : key q ≡ key r = eqb-true (key q) (key r) (met_test (eqb (key q) (key r)) same_key h) in
    both_add (key q) (added_of (key q) p q X m refl) (added_of (key q) s r Y n k)
case_of X Y (at p (add q)) (at s (strike k)) m n h = absurd (true≢false (sym h))
case_of X Y (at p (add q)) (at s (change j e)) m n h = absurd (true≢false (sym h))
case_of X Y (at p (strike l)) (at s (add r)) m n h = absurd (true≢false (sym h))
case_of X Y (at p (strike l)) (at s (strike k)) m n h =
    let ps : p ≡ s = eqb-true p s (met_test (eqb p s) struck_row h) in
    mine_strikes s (rw (← ps) (struck_of p l X m)) (or_l (struck s Y) (row_changed s Y) (struck_of s k Y n))
case_of X Y (at p (strike l)) (at s (change j e)) m n h =
    let ps : p ≡ s = eqb-true p s (met_test (eqb p s) struck_row h) in
    mine_strikes s (rw (← ps) (struck_of p l X m)) (or_r (struck s Y) (row_changed s Y) (changed_of s j e Y n))
case_of X Y (at p (change i f)) (at s (add r)) m n h = absurd (true≢false (sym h))
case_of X Y (at p (change i f)) (at s (strike k)) m n h =
    let ps : p ≡ s = eqb-true p s (met_test (eqb p s) struck_row h) in
    theirs_strikes s (struck_of s k Y n) (or_r (struck s X) (row_changed s X) (rw (← ps) (changed_of p i f X m)))
case_of X Y (at p (change i f)) (at s (change j e)) m n h =
    let t = met_test (eqb p s && (eqb i j && not (agree f e))) same_cell h in
    let u = and_r (eqb p s) (eqb i j && not (agree f e)) t in
    let ps : p ≡ s = eqb-true p s (and_l (eqb p s) (eqb i j && not (agree f e)) t) in
    let ij : i ≡ j = eqb-true i j (and_l (eqb i j) (not (agree f e)) u) in
    both_change s j f e (mem_cast {b = at p (change i f)} (cc) m) n (not-true (agree f e) (and_r (eqb i j) (not (agree f e)) u))

-- a struck row that is struck or changed
struck_met : (X Y : Layer) (s : ℕ) → struck s X ≡ true → struck s Y || row_changed s Y ≡ true → conflict X Y ≡ true
struck_met X Y s h t = go (or_cases (struck s Y) (row_changed s Y) t)
  where
    mine : (k : ℕ) × Mem (at s (strike k)) X
    mine = of_struck s X h

    go : (struck s Y ≡ true) ⊎ (row_changed s Y ≡ true) → conflict X Y ≡ true
    go (inl g) =
        let w = of_struck s Y g in
        conflict_of X Y (at s (strike mine.0)) (at s (strike w.0)) mine.1 w.1 (rw (eq-eqb s s refl))
    go (inr g) =
        let w = of_changed s Y g in
        conflict_of X Y (at s (strike mine.0)) (at s (change w.0 w.1)) mine.1 w.2 (rw (eq-eqb s s refl))

-- and each case is two edits that meet a rule
pub of_conflicting : (X Y : Layer) → Conflicting X Y → conflict X Y ≡ true
of_conflicting X Y (mine_strikes s h t) = struck_met X Y s h t
of_conflicting X Y (theirs_strikes s h t) = turned Y X (struck_met Y X s h t)
of_conflicting X Y (both_change s j e f m n h) =
    conflict_of X Y (at s (change j e)) (at s (change j f)) m n (rw (eq-eqb s s refl, eq-eqb j j refl, h))
of_conflicting X Y (both_add k h t) =
    let w = of_added k X h in
    let z = of_added k Y t in
    conflict_of X Y (at w.0 (add w.1)) (at z.0 (add z.1)) w.2 z.2
    (rw (eq-eqb (key w.1) (key z.1) (sym w.3 ∙ z.3)))

pub conflicting : (X Y : Layer) → conflict X Y ≡ true → Conflicting X Y
conflicting X Y h = let w = of_conflict X Y h in case_of X Y w.0 w.1 w.2 w.3 w.4

-- two layers with no conflict
pub record Apart (X Y : Layer) : Type 0 where
  pub strikes : (s k : ℕ) → Mem (at s (strike k)) X → struck s Y ≡ false
  pub changes : (s j : ℕ) (e : CellEdit) → Mem (at s (change j e)) X → struck s Y ≡ false
  pub cells : (s : ℕ) → Trade s X Y
  pub keys : (p s : ℕ) (q r : Row) → Mem (at p (add q)) X → Mem (at s (add r)) Y → key q ≡ key r → ⊥

pub apart : (X Y : Layer) → conflict X Y ≡ false → Apart X Y
apart X Y h = record {
  strikes = λ s k m. not_passed (struck s Y) (λ t.
      no (mine_strikes s (struck_of s k X m) (or_l (struck s Y) (row_changed s Y) t)));
  changes = λ s j e m. not_passed (struck s Y) (λ t.
      no (theirs_strikes s t (or_r (struck s X) (row_changed s X) (changed_of s j e X m))));
  cells = λ s j i e f m n ji. passed (agree e f) (λ t. no (both_change s i e f (mem_cast {b = at s (change j e)} (cc) m) n t));
  keys = λ p s q r m n k. no (both_add (key q) (added_of (key q) p q X m refl) (added_of (key q) s r Y n k));
}
  where
    no : Conflicting X Y → ⊥
    no C = true≢false (sym (of_conflicting X Y C) ∙ h)

    passed : (t : Bool) → (t ≡ false → ⊥) → t ≡ true
    passed true f = refl
    passed false f = absurd (f refl)
