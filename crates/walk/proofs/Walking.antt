-- The walk along two layers: what the mark has passed tells the new position, and a conflict is met right ahead.
-- Assumes nothing.
use mathlib.Core.Path.{◌≡◌, refl, sym, ap, ◌∙◌}
use mathlib.Core.Logic.{⊎_elim}
use mathlib.Core.Bool.{Bool, true, false, not, ◌&&◌, ◌||◌, and-false, or-false, true≢false}
use mathlib.Core.List.Memᴰ.{head as here}
use mathlib.Core.List.Memᴰ.{tail as next}
use mathlib.Core.List.{List, [], ◌∷◌, ◌++◌, Memᴰ as Mem}
use Prim.Native.Nat.{ℕ, ◌+◌, ◌-◌, ◌≤◌}
use native.Mathlib.Omega.{arith}
use lib.ListN.{take, drop, take-append-drop}
use lib.Dec.{leb, ltb, eqb}
use borrow.Author.Tests.{ltb-true, le-leb, lt-leb, eqb-true, eq-eqb}
use Rattle.order.specs.Lists.{one, count, any}
use Rattle.order.proofs.Tests.{tests, and_l, and_r, eqb_sym, same_test, not_passed, or_cases, or_l}
use Rattle.order.proofs.Members.{any_mem}
use Rattle.order.proofs.Counts.{count_same, count_sum}
use Rattle.order.proofs.Pairs.{pairs_weaker}
use Rattle.order.proofs.Splice.{take_mem, drop_mem, pairs_drop}
use Rattle.model.specs.Row.{Row, key}
use Rattle.model.specs.Cell.{agree}
use Rattle.model.specs.Layer.{Deed, add, strike, change, Edit, at, Layer, is_add, is_strike}
use Rattle.model.specs.Form.{follows}
use Rattle.model.specs.Position.{add_up_to, strike_before, row_of}
use Rattle.model.specs.Edits.{deed_before, before}
use Rattle.words.specs.declared.Rule.TheVariants.{StruckRow as struck_row, SameCell as same_cell, SameKey as same_key}
use Rattle.model.specs.Conflict.{clash, met, clashes_with}
use Rattle.model.specs.Move.{add_before, add_here_below, add_position, moved}
use Rattle.theory.proofs.Edits.{before_cases, before_lt, before_eq, before_follows, deed_key}
use Rattle.theory.proofs.Conflict.{met_test}
use Rattle.theory.proofs.Position.{strikes_few}
use Rattle.walk.specs.Walk.{Parted, InOrder, rule_ahead, Matched}
use Rattle.walk.proofs.Marks.{parted_count}

-- where the first i edits are those before an edit at s, they tell its new position
module _ (L : Layer) (i s : ℕ) where
  strikes_gone : (d : Deed) → Parted L i (at s d) → count is_strike (take i L) ≡ count (strike_before s) L
  strikes_gone d P =
      parted_count P is_strike ∙ count_same (λ y. is_strike y && before y (at s d)) (strike_before s) L each
    where
      each : (y : Edit) → Mem y L → one (is_strike y && before y (at s d)) ≡ one (strike_before s y)
      each (at p (add r)) m = refl
      each (at p (strike k)) m = ap one (ap (λ (t : Bool). ltb p s || t) (and-false (eqb p s)) ∙ or-false (ltb p s))
      each (at p (change j f)) m = refl

  -- the sum never falls below zero
  pub few_strikes : (d : Deed) → Parted L i (at s d) → InOrder L → count is_strike (take i L) ≤ s
  few_strikes d P o =
      omega (arith, strikes_gone d P, strikes_few s L (pairs_weaker before follows L (λ x y m n h. before_follows x y h) o))

  adds_gone : (r : Row) → Parted L i (at s (add r))
      → count (add_before s) L + count (add_here_below s (key r)) L ≡ count is_add (take i L)
  adds_gone r P =
      count_sum (add_before s) (add_here_below s (key r)) (λ y. is_add y && before y (at s (add r))) L each
      ∙ sym (parted_count P is_add)
    where
      case : (p : ℕ) (u : Bool) (a b : Bool) → ltb p s ≡ a → eqb p s ≡ b → one a + one (eqb s p && u) ≡ one (a || (b && u))
      case p u true true e f = absurd (omega tests)
      case p u true false e f = rw (eqb_sym s p, f) (omega arith)
      case p u false true e f = rw (eqb_sym s p, f) (omega arith)
      case p u false false e f = rw (eqb_sym s p, f)

      each : (y : Edit) → Mem y L
          → one (add_before s y) + one (add_here_below s (key r) y) ≡ one (is_add y && before y (at s (add r)))
      each (at p (add q)) m = case p (ltb (key q) (key r)) (ltb p s) (eqb p s) refl refl
      each (at p (strike k)) m = refl
      each (at p (change j f)) m = refl

  -- before a strike or a change stand the adds up to and including its position
  row_gone : (d : Deed) → Parted L i (at s d) → ((q : Row) → deed_before (add q) d ≡ true)
      → count is_add (take i L) ≡ count (add_up_to s) L
  row_gone d P h = parted_count P is_add ∙ count_same (λ y. is_add y && before y (at s d)) (add_up_to s) L each
    where
      case : (p : ℕ) (a b : Bool) → ltb p s ≡ a → eqb p s ≡ b → one (a || (b && true)) ≡ one (leb p s)
      case p true b e f = ap one (sym (le-leb p s (omega tests)))
      case p false true e f = ap one (sym (le-leb p s (omega tests)))
      case p false false e f = ap one (sym (lt-leb p s (omega tests)))

      each : (y : Edit) → Mem y L → one (is_add y && before y (at s d)) ≡ one (add_up_to s y)
      each (at p (add q)) m = rw (h q) (case p (ltb p s) (eqb p s) refl refl)
      each (at p (strike k)) m = refl
      each (at p (change j f)) m = refl

  pub new_position : (d : Deed) → Parted L i (at s d)
      → moved L (at s d) ≡ at ((s + count is_add (take i L)) - count is_strike (take i L)) d
  unfolding add_position row_of
  new_position (add r) P =
      ap (λ (p : ℕ). at p (add r)) (omega (arith, adds_gone r P, strikes_gone (add r) P))
  new_position (strike k) P =
      ap (λ (p : ℕ). at p (strike k)) (omega (arith, row_gone (strike k) P (λ q. refl), strikes_gone (strike k) P))
  new_position (change j f) P =
      ap (λ (p : ℕ). at p (change j f))
      (omega (arith, row_gone (change j f) P (λ q. refl), strikes_gone (change j f) P))

-- those that fail a test in front decide nothing
any_append : {A : Type 0} (f : A → Bool) (xs ys : List A) → ((x : A) → Mem x xs → f x ≡ false)
    → any f (xs ++ ys) ≡ any f ys
any_append f [] ys h = refl
any_append f (x ∷ xs) ys h = rw (h x (here refl)) (any_append f xs ys (λ y m. h y (next m)))

-- two edits at one position, before which the same deeds stand
same_before : (t p s : ℕ) (d y e : Deed) → p ≡ s → deed_before d y ≡ deed_before d e
    → before (at t d) (at p y) ≡ before (at t d) (at s e)
same_before t p s d y e ps h = rw (ps, h)

-- a conflict is met with the first edit ahead, or with none
module _ (X Y : Layer) (M : Matched X Y) where
  -- what stands before meets no rule
  before_none : (e d : Edit) → Mem e X → Mem d Y → before d e ≡ true → met (clash e d) ≡ true → ⊥
  before_none (at s (add r)) (at p (add q)) m n h t =
      let k : key r ≡ key q = eqb-true (key r) (key q) (met_test (eqb (key r) (key q)) same_key t) in
      let sp : s ≡ p = M.level s p r q m n k in
      ⊎_elim (λ l. omega arith) (λ w. omega (arith, ltb-true (key q) (key r) w.1)) (before_cases p s (add q) (add r) h)
  before_none (at s (add r)) (at p (strike k)) m n h t = true≢false (sym t)
  before_none (at s (add r)) (at p (change j g)) m n h t = true≢false (sym t)
  before_none (at s (strike l)) (at p (add q)) m n h t = true≢false (sym t)
  before_none (at s (strike l)) (at p (strike k)) m n h t =
      let sp = eqb-true s p (met_test (eqb s p) struck_row t) in
      ⊎_elim (λ l. omega arith) (λ w. true≢false (sym w.1)) (before_cases p s (strike k) (strike l) h)
  before_none (at s (strike l)) (at p (change j g)) m n h t =
      let sp = eqb-true s p (met_test (eqb s p) struck_row t) in
      ⊎_elim (λ l. omega arith) (λ w. true≢false (sym w.1)) (before_cases p s (change j g) (strike l) h)
  before_none (at s (change i f)) (at p (add q)) m n h t = true≢false (sym t)
  before_none (at s (change i f)) (at p (strike k)) m n h t =
      let sp = eqb-true s p (met_test (eqb s p) struck_row t) in
      ⊎_elim (λ l. omega arith) (λ w. true≢false (sym w.1)) (before_cases p s (strike k) (change i f) h)
  before_none (at s (change i f)) (at p (change j g)) m n h t =
      let u = met_test (eqb s p && (eqb i j && not (agree f g))) same_cell t in
      let sp = eqb-true s p (and_l (eqb s p) (eqb i j && not (agree f g)) u) in
      let ij = eqb-true i j (and_l (eqb i j) (not (agree f g)) (and_r (eqb s p) (eqb i j && not (agree f g)) u)) in
      ⊎_elim (λ l. omega arith) (λ w. omega (arith, ltb-true j i w.1)) (before_cases p s (change j g) (change i f) h)

  -- where a later edit meets a rule, the first that does not stand before e meets one
  first_meets : (e d y : Edit) → Mem e X → Mem y Y → before d y ≡ true → before d e ≡ false → met (clash e y) ≡ true
      → met (clash e d) ≡ true
  first_meets (at s (add r)) (at p d) (at z (add q)) m n h g t =
      let k : key r ≡ key q = eqb-true (key r) (key q) (met_test (eqb (key r) (key q)) same_key t) in
      let z-s = sym (M.level s z r q m n k) in
      absurd (true≢false (sym h ∙ (same_before p z s d (add q) (add r) z-s (deed_key d q r (sym k)) ∙ g)))
  first_meets (at s (add r)) (at p d) (at z (strike k)) m n h g t = absurd (true≢false (sym t))
  first_meets (at s (add r)) (at p d) (at z (change j f)) m n h g t = absurd (true≢false (sym t))
  first_meets (at s (strike l)) (at p d) (at z (add q)) m n h g t = absurd (true≢false (sym t))
  first_meets (at s (strike l)) (at p d) (at z (strike k)) m n h g t =
      let sz = eqb-true s z (met_test (eqb s z) struck_row t) in
      absurd (true≢false (sym h ∙ (same_before p z s d (strike k) (strike l) (sym sz) (level d) ∙ g)))
    where
      level : (d : Deed) → deed_before d (strike k) ≡ deed_before d (strike l)
      level (add x) = refl
      level (strike l) = refl
      level (change j f) = refl
  first_meets (at s (strike l)) (at p d) (at z (change j f)) m n h g t =
      let sz : s ≡ z = eqb-true s z (met_test (eqb s z) struck_row t) in
      ⊎_elim (λ x. absurd (true≢false (sym (before_lt (at p d) (at s (strike l)) (omega arith)) ∙ g)))
      (λ w. level d (w.0 ∙ sym sz) w.1 g) (before_cases p z d (change j f) h)
    where
      level : (d : Deed) → p ≡ s → deed_before d (change j f) ≡ true → before (at p d) (at s (strike l)) ≡ false
          → met (clash (at s (strike l)) (at p d)) ≡ true
      level (add x) ps b g = absurd (true≢false (sym (before_eq p s (add x) (strike l) ps refl) ∙ g))
      level (strike k) ps b g = absurd (true≢false (sym b))
      level (change i e) ps b g = rw (eq-eqb s p (sym ps))
  first_meets (at s (change i e)) (at p d) (at z (add q)) m n h g t = absurd (true≢false (sym t))
  first_meets (at s (change i e)) (at p d) (at z (strike k)) m n h g t =
      let sz : s ≡ z = eqb-true s z (met_test (eqb s z) struck_row t) in
      ⊎_elim (λ x. absurd (true≢false (sym (before_lt (at p d) (at s (change i e)) (omega arith)) ∙ g)))
      (λ w. absurd (level d (w.0 ∙ sym sz) w.1 g)) (before_cases p z d (strike k) h)
    where
      level : (d : Deed) → p ≡ s → deed_before d (strike k) ≡ true → before (at p d) (at s (change i e)) ≡ false → ⊥
      level (add x) ps b g = true≢false (sym (before_eq p s (add x) (change i e) ps refl) ∙ g)
      level (strike l) ps b g = true≢false (sym b)
      level (change j f) ps b g = true≢false (sym b)
  first_meets (at s (change i e)) (at p d) (at z (change j f)) m n h g t =
      let u = met_test (eqb s z && (eqb i j && not (agree e f))) same_cell t in
      let sz = eqb-true s z (and_l (eqb s z) (eqb i j && not (agree e f)) u) in
      let ij = eqb-true i j (and_l (eqb i j) (not (agree e f)) (and_r (eqb s z) (eqb i j && not (agree e f)) u)) in
      absurd (true≢false (sym h ∙ (same_before p z s d (change j f) (change i e) (sym sz) (level d (sym ij)) ∙ g)))
    where
      level : (d : Deed) → j ≡ i → deed_before d (change j f) ≡ deed_before d (change i e)
      level (add x) k = refl
      level (strike l) k = refl
      level (change l c) k = rw k

  -- of the edits that do not stand before e, only the first is asked
  ahead_meets : (e : Edit) → Mem e X → (L : Layer) → InOrder L → ((y : Edit) → Mem y L → Mem y Y)
      → ((y : Edit) → Mem y L → before y e ≡ false) → clashes_with L e ≡ met (rule_ahead e L)
  ahead_meets e m [] o inY late = refl
  ahead_meets e m (d ∷ L) o inY late =
      same_test (met (clash e d) || clashes_with L e) (met (clash e d)) one_of_lem (or_l (met (clash e d)) (clashes_with L e))
    where
      one_of_lem : (met (clash e d) || clashes_with L e) ≡ true → met (clash e d) ≡ true
      one_of_lem u =
          ⊎_elim (λ v. v)
          (λ v.
          let w = any_mem (λ y. met (clash e y)) L v in
          first_meets e d w.0 m (inY w.0 (next w.1)) (o.0 w.0 w.1) (late d (here refl)) w.2)
          (or_cases (met (clash e d)) (clashes_with L e) u)

  pub conflict_ahead : (e : Edit) → Mem e X → (i : ℕ) → Parted Y i e → clashes_with Y e ≡ met (rule_ahead e (drop i Y))
  conflict_ahead e m i P =
      ap (λ (L : Layer). clashes_with L e) (sym (take-append-drop i Y))
      ∙ (any_append (λ y. met (clash e y)) (take i Y) (drop i Y) (λ y n.
      not_passed (met (clash e y)) (before_none e y m (take_mem i Y y n) (P.early y n)))
      ∙ ahead_meets e m (drop i Y) (pairs_drop before i Y M.theirs) (drop_mem i Y) P.late)
