-- A slice as runs in a row: a run written in its place leaves the others as they are.
-- Assumes nothing.
use Prim.Native.Nat.{ℕ, zero, suc, ◌+◌, ◌-◌, ◌≤◌, ◌<◌, max}
use native.Mathlib.Nat.{zero-add, add_assoc}
use native.Mathlib.Omega.{arith}
use mathlib.Core.Path.{◌≡◌, refl, sym, ap, ◌∙◌}
use mathlib.Core.List.{List, [], ◌∷◌, ◌++◌, append_assoc, append-nil}
use lib.ListN.{length, get_or, take, drop, set, replicate, length-append, length-drop, length-replicate, take-append-drop}
use lib.Seq.{paste, length-take-le, drop_at, drop-drop, take-append-add, drop-append-add, take_all}
use Rattle.splice.specs.Splice.{between, laid}

-- runs in a row, and how many numbers stand before run number i
abbrev row : List (List ℕ) → List ℕ
row [] = []
row (g ∷ gs) = g ++ row gs

abbrev ahead : ℕ → List (List ℕ) → ℕ
ahead zero gs = 0
ahead (suc i) [] = 0
ahead (suc i) (g ∷ gs) = length g + ahead i gs

paste_past : (g xs s : List ℕ) (o n : ℕ) → paste (g ++ xs) (length g + o) s n ≡ g ++ paste xs o s n
paste_past g xs s o n =
    rw (take-append-add g xs o, add_assoc (length g) o n, drop-append-add g xs (o + n)) (simp append_assoc)

behind : (g : List ℕ) {xs ys : List ℕ} → xs ≡ ys → g ++ xs ≡ g ++ ys
behind g e = ap (λ (t : List ℕ). g ++ t) e

-- run number i written
put : (i : ℕ) (gs : List (List ℕ)) (s : List ℕ) (o n : ℕ) → i < length gs → o ≡ ahead i gs
    → length (get_or gs i []) ≡ n → paste (row gs) o s n ≡ row (set gs i (take n s))
put i [] s o n h e l = absurd (omega arith)
put zero (g ∷ gs) s o n h e l = rw (e, zero-add, drop_at g (row gs) n l)
put (suc i) (g ∷ gs) s o n h e l =
    rw e (paste_past g (row gs) s (ahead i gs) n ∙ behind g (put i gs s (ahead i gs) n (omega arith) refl l))

put_run : (i : ℕ) (gs : List (List ℕ)) (xs s : List ℕ) (o n : ℕ) → xs ≡ row gs → i < length gs → o ≡ ahead i gs
    → length (get_or gs i []) ≡ n → paste xs o s n ≡ row (set gs i (take n s))
put_run i gs xs s o n e h f l = rw e (put i gs s o n h f l)

-- a list cut at a place behind another
cut : (xs : List ℕ) (a b : ℕ) → a ≤ b → drop a xs ≡ between a b xs ++ drop b xs
cut xs a b h =
    let e : a + (b - a) ≡ b = omega arith in
    sym (ap (λ (t : List ℕ). between a b xs ++ t) (sym (drop-drop (b - a) a xs ∙ ap (λ (n : ℕ). drop n xs) e))
    ∙ take-append-drop (b - a) (drop a xs))

pub between_length : (xs : List ℕ) (a b : ℕ) → b ≤ length xs → length (between a b xs) ≡ b - a
between_length xs a b h = length-take-le (b - a) (drop a xs) (omega (arith, length-drop a xs))

-- New numbers from `at` on in place of those up to `from`; those from there up to `end` behind them; others in place of
-- those up to `from₂`, and those from there up to `last`. Zeros follow where the old ones reached further.
module _ (xs new new₂ : List ℕ) (at to from end at₂ to₂ from₂ last stop : ℕ) where
  -- the slice once the parts are moved, once the freed numbers are zero, once the new ones are written
  abbrev pub slid : List ℕ
  slid = paste (paste xs to₂ (drop from₂ xs) (last - from₂)) to (drop from xs) (end - from)

  abbrev pub cleared : List ℕ
  cleared = paste slid stop (replicate (last - stop) 0) (last - stop)

  abbrev pub filled : List ℕ
  filled = paste (paste cleared at new (length new)) at₂ new₂ (length new₂)

  abbrev top : ℕ
  top = max last stop

  module _ (a : from ≤ end) (b : end ≤ from₂) (d : from₂ ≤ last) (h : last ≤ length xs) (r : stop ≤ length xs)
      (t : to ≡ at + length new) (u : at₂ ≡ to + (end - from)) (v : to₂ ≡ at₂ + length new₂)
      (w : stop ≡ to₂ + (last - from₂)) where
    -- the seven runs: the first and the last stay
    abbrev runs : List ℕ → List ℕ → List ℕ → List ℕ → List ℕ → List (List ℕ)
    runs n g n₂ g₂ z = take at xs ∷ n ∷ g ∷ n₂ ∷ g₂ ∷ z ∷ drop top xs ∷ []

    abbrev old : List (List ℕ)
    old = runs (between at to xs) (between to at₂ xs) (between at₂ to₂ xs) (between to₂ stop xs) (between stop top xs)

    whole : xs ≡ row old
    whole =
        sym (take-append-drop at xs) ∙ behind (take at xs)
        (cut xs at to (omega arith) ∙ behind (between at to xs)
        (cut xs to at₂ (omega arith) ∙ behind (between to at₂ xs)
        (cut xs at₂ to₂ (omega arith) ∙ behind (between at₂ to₂ xs)
        (cut xs to₂ stop (omega arith) ∙ behind (between to₂ stop xs)
        (cut xs stop top (omega arith) ∙ behind (between stop top xs) (sym (append-nil (drop top xs))))))))

    size : (i j : ℕ) → j ≤ length xs → length (between i j xs) ≡ j - i
    size = between_length xs

    front : length (take at xs) ≡ at
    front = length-take-le at xs (omega arith)

    abbrev zeros : List ℕ
    zeros = replicate (last - stop) 0

    abbrev moved_runs : List (List ℕ)
    moved_runs = runs (between at to xs) (between to at₂ xs) (between at₂ to₂ xs) (between from₂ last xs) (between stop top xs)

    moved₂ : paste xs to₂ (drop from₂ xs) (last - from₂) ≡ row moved_runs
    moved₂ =
        put_run 4 old xs (drop from₂ xs) to₂ (last - from₂) whole (omega arith)
        (omega (arith, front, size at to (omega arith), size to at₂ (omega arith), size at₂ to₂ (omega arith)))
        (omega (arith, size to₂ stop (omega arith)))

    abbrev slid_runs : List (List ℕ)
    slid_runs = runs (between at to xs) (between from end xs) (between at₂ to₂ xs) (between from₂ last xs) (between stop top xs)

    moved : slid ≡ row slid_runs
    moved =
        put_run 2 moved_runs (paste xs to₂ (drop from₂ xs) (last - from₂)) (drop from xs) to (end - from) moved₂ (omega arith)
        (omega (arith, front, size at to (omega arith)))
        (omega (arith, size to at₂ (omega arith)))

    abbrev cleared_runs : List (List ℕ)
    cleared_runs = runs (between at to xs) (between from end xs) (between at₂ to₂ xs) (between from₂ last xs) zeros

    emptied : cleared ≡ row cleared_runs
    emptied =
        put_run 5 slid_runs slid zeros stop (last - stop) moved (omega arith)
        (omega (
          arith,
          front,
          size at to (omega arith),
          size from end (omega arith),
          size at₂ to₂ (omega arith),
          size from₂ last (omega arith),
        ))
        (omega (arith, size stop top (omega arith)))
        ∙ ap (λ (z : List ℕ). row (runs (between at to xs) (between from end xs) (between at₂ to₂ xs) (between from₂ last xs) z))
        (take_all (last - stop) zeros (omega (arith, length-replicate {A = ℕ} (last - stop) 0)))

    abbrev first_runs : List (List ℕ)
    first_runs = runs new (between from end xs) (between at₂ to₂ xs) (between from₂ last xs) zeros

    entered : paste cleared at new (length new) ≡ row first_runs
    entered =
        put_run 1 cleared_runs cleared new at (length new) emptied (omega arith) (omega (arith, front))
        (omega (arith, size at to (omega arith)))
        ∙ ap (λ (n : List ℕ). row (runs n (between from end xs) (between at₂ to₂ xs) (between from₂ last xs) zeros))
        (take_all (length new) new (omega arith))

    both : filled ≡ row (runs new (between from end xs) new₂ (between from₂ last xs) zeros)
    both =
        put_run 3 first_runs (paste cleared at new (length new)) new₂ at₂ (length new₂) entered (omega arith)
        (omega (arith, front, size from end (omega arith)))
        (omega (arith, size at₂ to₂ (omega arith)))
        ∙ ap (λ (n : List ℕ). row (runs new (between from end xs) n (between from₂ last xs) zeros))
        (take_all (length new₂) new₂ (omega arith))

    abbrev result : List ℕ
    result = take at xs ++ (new ++ (between from end xs ++ (new₂ ++ between from₂ last xs)))

    pub result_length : length result ≡ stop
    result_length =
        omega (
          arith,
          length-append (take at xs) (new ++ (between from end xs ++ (new₂ ++ between from₂ last xs))),
          length-append new (between from end xs ++ (new₂ ++ between from₂ last xs)),
          length-append (between from end xs) (new₂ ++ between from₂ last xs),
          length-append new₂ (between from₂ last xs),
          front,
          size from end (omega arith),
          size from₂ last (omega arith),
        )

    pub all_laid : filled ≡ laid result last xs
    unfolding laid
    all_laid = both ∙ rw (result_length, append-nil (drop top xs)) (simp append_assoc)

    -- each step from the slice that the one before it left
    pub all_written : (ys zs us vs : List ℕ) → ys ≡ slid → zs ≡ paste ys stop (replicate (last - stop) 0) (last - stop)
        → us ≡ paste zs at new (length new) → vs ≡ paste us at₂ new₂ (length new₂) → vs ≡ laid result last xs
    all_written ys zs us vs e f g i =
        i ∙ (ap (λ (l : List ℕ). paste l at₂ new₂ (length new₂)) (g
        ∙ ap (λ (l : List ℕ). paste l at new (length new)) (f
        ∙ ap (λ (l : List ℕ). paste l stop (replicate (last - stop) 0) (last - stop)) e)) ∙ all_laid)
