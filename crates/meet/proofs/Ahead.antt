-- The changes of one row that a layer goes on with, one by one.
-- Assumes nothing.
use mathlib.Core.Path.{◌≡◌}
use mathlib.Core.Bool.{Bool, true, false, cond}
use mathlib.Core.List.{[], ◌∷◌}
use Prim.Native.Nat.{ℕ, suc, ◌+◌, ◌≤◌}
use native.Mathlib.Omega.{arith}
use lib.ListN.{length, drop, drop_of_length-le}
use lib.Dec.{eqb}
use borrow.Author.Tests.{eq-eqb, ne_eqb}
use Rattle.model.specs.Layer.{add, strike, change, at, Layer}
use Rattle.entry.specs.declared.Sight.TheVariants.{Change}
use Rattle.entry.specs.Look.{look_of}
use Rattle.entry.proofs.Looks.{look_change}
use Rattle.std.specs.Prelude.{Some}
use Rattle.woven.specs.Woven.{changes_ahead}

pub ahead_upto : (p : ℕ) (U : Layer) → changes_ahead p U ≤ length U
ahead_upto p [] = omega arith
ahead_upto p (at s (add r) ∷ U) = omega arith
ahead_upto p (at s (strike k) ∷ U) = omega arith
ahead_upto p (at s (change j e) ∷ U) = by (eqb s p) (ahead_upto p U)
  where
    by : (t : Bool) → changes_ahead p U ≤ length U → cond t (suc (changes_ahead p U)) 0 ≤ suc (length U)
    by true h = omega arith
    by false h = omega arith

-- from entry number i on, by what a look finds there
module _ (p : ℕ) (L : Layer) (i : ℕ) where
  pub ahead_end : length L ≤ i → changes_ahead p (drop i L) ≡ 0
  ahead_end h = rw (drop_of_length-le L {i = i} h)

  module _ (s j v : ℕ) (h : look_of (drop i L) ≡ Some (Change s j v)) where
    pub ahead_other : (s ≡ p → ⊥) → changes_ahead p (drop i L) ≡ 0
    ahead_other n = rw ((look_change L i s j v h).split, ne_eqb s p n)

    pub ahead_on : s ≡ p → changes_ahead p (drop i L) ≡ suc (changes_ahead p (drop (i + 1) L))
    ahead_on e = rw ((look_change L i s j v h).split, eq-eqb s p e)
