-- A column as a reader of entries meets it: the run of base rows before an entry, then what the entry shows.
use Rattle.std.specs.Prelude.{◌≡◌, true, false, cond, List, [], ◌∷◌, ◌++◌, ℕ, suc, ◌+◌, ◌≤◌, ◌<◌, length, get_or, drop, eqb}
use Rattle.std.proofs.Math.Seq.{slice, paste}
use Rattle.model.specs.Row.{cell}
use Rattle.model.specs.Cell.{done}
use Rattle.model.specs.Layer.{add, strike, change, at, Layer, rows_after}
use Rattle.entry.specs.declared.slice.Stored.{Stored}
use Rattle.entry.specs.Look.{edits}

-- column j from base row s on; a change of another column does not end the run
unfoldable pub runs_from : ℕ → ℕ → List ℕ → Layer → List ℕ
runs_from j s xs [] = drop s xs
runs_from j s xs (at p (add r) ∷ L) = slice s p xs ++ (cell j r ∷ runs_from j p xs L)
runs_from j s xs (at p (strike k) ∷ L) = slice s p xs ++ runs_from j (suc p) xs L
runs_from j s xs (at p (change i e) ∷ L) =
    cond (eqb j i) (slice s p xs ++ (done e (get_or xs p 0) ∷ runs_from j (suc p) xs L)) (runs_from j s xs L)

-- the numbers ys were pasted into a buffer from index o on: r is the index after the last, and the rest is as it was
pub record Pasted (ys : List ℕ) (old : List ℕ) (o r : ℕ) (new : List ℕ) : Type 0 where
  pub end : r ≡ o + length ys
  pub numbers : new ≡ paste old o ys (length ys)

-- every edit that shows in column j finds its row among the n, at s or later, and not yet passed
unfoldable pub Ready : ℕ → ℕ → ℕ → Layer → Type 0
Ready j n s [] = s ≤ n
Ready j n s (at p (add r) ∷ L) = (s ≤ p) × (p ≤ n) × Ready j n p L
Ready j n s (at p (strike k) ∷ L) = (s ≤ p) × (p < n) × Ready j n (suc p) L
Ready j n s (at p (change i e) ∷ L) =
    (eqb j i ≡ true → (s ≤ p) × (p < n) × Ready j n (suc p) L) × (eqb j i ≡ false → Ready j n s L)

-- what the reader of a column asks: a column number of the layer, a layer ready to be read, and a buffer of
-- len numbers that holds the rows
pub record Readable (l : Stored) (xs : List ℕ) (j len : ℕ) : Type 0 where
  pub column : j < l.c
  pub ready : Ready j (length xs) 0 (edits l)
  pub room : rows_after (length xs) (edits l) ≤ len
