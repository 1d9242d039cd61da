-- The number of rows that a column shows: base rows and adds, less strikes. No keys are needed for it.
-- Assumes nothing.
use Prim.Native.Nat.{ℕ, suc, ◌+◌, ◌≤◌}
use native.Mathlib.Omega.{arith}
use mathlib.Core.Path.{◌≡◌, refl, ap}
use mathlib.Core.Bool.{Bool, true, false, cond}
use mathlib.Core.List.{List, [], ◌∷◌, ◌++◌}
use lib.ListN.{length, get_or, length-append, length-drop}
use lib.Seq.{slice, length-slice}
use lib.Dec.{eqb}
use Rattle.order.specs.Lists.{count}
use Rattle.model.specs.Row.{cell}
use Rattle.model.specs.Cell.{done}
use Rattle.model.specs.Layer.{add, strike, change, at, Layer, is_add, is_strike, rows_after}
use Rattle.model.specs.Read.{read_column}
use Rattle.column.specs.Runs.{runs_from, Ready}
use Rattle.column.proofs.Same.{same}

-- a run of base rows up to p, then the rest
run_length : (s p : ℕ) (xs ys : List ℕ) → s ≤ p → p ≤ length xs → length (slice s p xs ++ ys) + s ≡ length ys + p
run_length s p xs ys h k = omega (arith, length-append (slice s p xs) ys, length-slice s p xs k)

-- shown rows and struck rows are base rows and added rows
runs_length : (j s : ℕ) (xs : List ℕ) (L : Layer) → Ready j (length xs) s L
    → length (runs_from j s xs L) + s + count is_strike L ≡ length xs + count is_add L
unfolding runs_from Ready
runs_length j s xs [] r = omega (arith, length-drop s xs)
runs_length j s xs (at p (add q) ∷ L) r =
    omega (arith, run_length s p xs (cell j q ∷ runs_from j p xs L) r.0 r.1, runs_length j p xs L r.2)
runs_length j s xs (at p (strike k) ∷ L) r =
    let h : p ≤ length xs = omega (arith, r.1) in
    omega (arith, run_length s p xs (runs_from j (suc p) xs L) r.0 h, runs_length j (suc p) xs L r.2)
runs_length j s xs (at p (change i e) ∷ L) r =
    by (eqb j i) refl (λ z. runs_length j (suc p) xs L z) (λ z. runs_length j s xs L z)
  where
    by : (b : Bool) → eqb j i ≡ b
        → (Ready j (length xs) (suc p) L
        → length (runs_from j (suc p) xs L) + suc p + count is_strike L ≡ length xs + count is_add L)
        → (Ready j (length xs) s L → length (runs_from j s xs L) + s + count is_strike L ≡ length xs + count is_add L)
        → length (cond b (slice s p xs ++ (done e (get_or xs p 0) ∷ runs_from j (suc p) xs L)) (runs_from j s xs L)) + s
        + (0 + count is_strike L)
        ≡ length xs + (0 + count is_add L)
    by true h f g =
        let r' = r.0 h in
        let k : p ≤ length xs = omega (arith, r'.1) in
        omega (arith, run_length s p xs (done e (get_or xs p 0) ∷ runs_from j (suc p) xs L) r'.0 k, f r'.2)
    by false h f g = omega (arith, g (r.1 h))

pub rows_shown : (j : ℕ) (xs : List ℕ) (L : Layer) → Ready j (length xs) 0 L
    → length (read_column j xs L) ≡ rows_after (length xs) L
rows_shown j xs L r = omega (arith, ap length (same j xs L r), runs_length j 0 xs L r)
