-- The way back in one pass: a row number turns into a base position as the adds and strikes before it are passed. A mark
-- stands on this way.
use Rattle.words.specs.declared.Origin.{Origin}
use Rattle.words.specs.declared.Origin.TheVariants.{Base as base, Added as added}
use Rattle.std.specs.Prelude.{◌≡◌, Option, Some, None, cond, [], ◌∷◌, ℕ, suc, ◌+◌, ◌-◌, ◌≤◌, length, drop, ltb, eqb}
use Rattle.model.specs.Layer.{at, add, strike, change, Layer}
use Rattle.entry.specs.declared.Sight.{Sight}
use Rattle.entry.specs.declared.Sight.TheVariants.{Add, Strike, Change}
use Rattle.entry.specs.Look.{look_of}
use Rattle.mark.specs.declared.Mark.{Mark}
use Rattle.mark.specs.declared.Way.{Way}
use Rattle.mark.specs.declared.Way.TheVariants.{Before, Own, On}

-- what stands at the row that would be base row t, were there no entries but those from number i on
unfoldable pub origin_from : ℕ → ℕ → Layer → Origin
origin_from i t [] = base t
origin_from i t (at p (add r) ∷ L) = cond (ltb t p) (base t) (cond (eqb t p) (added i) (origin_from (suc i) (t - 1) L))
origin_from i t (at p (strike k) ∷ L) = cond (ltb t p) (base t) (origin_from (suc i) (suc t) L)
origin_from i t (at p (change j e) ∷ L) = cond (ltb t p) (base t) (origin_from (suc i) t L)

-- the way at what is found, for the row that would be base row t
abbrev pub way_by : Option Sight → ℕ → Way
way_by None t = Before
way_by (Some (Add p k)) t = cond (ltb p t) (On (t - 1)) (cond (eqb p t) (Own k) Before)
way_by (Some (Strike p k)) t = cond (ltb t p) Before (On (t + 1))
way_by (Some (Change p j v)) t = cond (ltb t p) Before (On t)

-- the way at a mark, and that it leads no further
abbrev pub way_at : Layer → Mark → Way
way_at L k = way_by (look_of (drop k.i L)) k.t

abbrev pub Stays : Way → Type 0
Stays Before = Unit {0}
Stays (Own k) = Unit {0}
Stays (On t) = ⊥

-- the mark of a row with nothing passed, a mark on the way to a later row, and to any other
abbrev pub fresh : ℕ → Mark
fresh row = record { i = 0; row = row; t = row }

abbrev pub later : Mark → ℕ → Mark
later k row = record { i = k.i; row = row; t = k.t + (row - k.row) }

abbrev pub toward : Mark → ℕ → Mark
toward k row = cond (ltb row k.row) (fresh row) (later k row)

-- the mark past its entry
abbrev pub past : Mark → ℕ → Mark
past k t = record { i = k.i + 1; row = k.row; t = t }

-- what stands at the mark's row, and at all later ones, is found from there
pub record Marks (L : Layer) (k : Mark) : Type 0 where
  pub within : k.i ≤ length L
  pub near : k.t ≤ k.row + k.i
  pub finds : (d : ℕ) → origin_from 0 (k.row + d) L ≡ origin_from k.i (k.t + d) (drop k.i L)
