-- A row with the changes that a layer goes on with, one by one: by what a look finds from entry number i on.
-- Assumes nothing.
use mathlib.Core.Path.{◌≡◌, refl, ◌∙◌}
use mathlib.Core.Bool.{Bool, true, false, cond}
use mathlib.Core.List.{List, [], ◌∷◌}
use Prim.Native.Nat.{ℕ, ◌+◌, ◌≤◌}
use lib.ListN.{length, drop, set, drop_of_length-le}
use lib.Dec.{eqb}
use borrow.Author.Tests.{eq-eqb}
use Rattle.model.specs.Cell.{put}
use Rattle.model.specs.Layer.{add, strike, change, at, Layer}
use Rattle.theory.proofs.Cell.{put_length}
use Rattle.entry.specs.declared.Sight.TheVariants.{Change}
use Rattle.std.specs.Prelude.{Some}
use Rattle.entry.specs.Look.{look_of}
use Rattle.entry.proofs.Looks.{look_change}
use Rattle.woven.specs.Woven.{patched}

-- a row keeps its length
pub patched_length : (p : ℕ) (U : Layer) (row : List ℕ) → length (patched p U row) ≡ length row
patched_length p [] row = refl
patched_length p (at s (add q) ∷ U) row = refl
patched_length p (at s (strike k) ∷ U) row = refl
patched_length p (at s (change j e) ∷ U) row = by (eqb s p) (patched_length p U (put row j e) ∙ put_length row j e)
  where
    by : (t : Bool) → length (patched p U (put row j e)) ≡ length row
        → length (cond t (patched p U (put row j e)) row) ≡ length row
    by true h = h
    by false h = refl

module _ (p : ℕ) (L : Layer) (i : ℕ) (row : List ℕ) where
  pub patch_end : length L ≤ i → patched p (drop i L) row ≡ row
  patch_end h = rw (drop_of_length-le L {i = i} h)

  pub patch_on : (s j v : ℕ) → look_of (drop i L) ≡ Some (Change s j v) → s ≡ p
      → patched p (drop i L) row ≡ patched p (drop (i + 1) L) (set row j v)
  unfolding put
  patch_on s j v h e = rw ((look_change L i s j v h).split, eq-eqb s p e)
