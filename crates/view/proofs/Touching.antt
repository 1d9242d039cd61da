-- Which edits show in column j: what is found at an entry says it, one entry after the other.
-- Assumes nothing.
use Prim.Native.Nat.{ℕ, ◌+◌, ◌≤◌, ◌<◌}
use mathlib.Core.Path.{◌≡◌, refl, ap, ◌∙◌}
use mathlib.Core.Bool.{Bool, false, ◌||◌}
use mathlib.Core.List.{◌∷◌}
use lib.ListN.{drop}
use Rattle.std.specs.Prelude.{Some}
use Rattle.order.specs.Lists.{any}
use Rattle.model.specs.Row.{key}
use Rattle.model.specs.Cell.{to}
use Rattle.model.specs.Layer.{Edit, at, add, strike, change, Layer}
use Rattle.model.specs.Raw.{edit_of}
use Rattle.model.specs.Read.{touches}
use Rattle.entry.specs.declared.slice.Stored.{Stored}
use Rattle.entry.specs.declared.Sight.{Sight}
use Rattle.entry.specs.declared.Sight.TheVariants.{Add, Strike, Change}
use Rattle.entry.specs.Look.{look_of, edits, entry_of}
use Rattle.entry.proofs.Looks.{left_step, stored_end}
use Rattle.view.specs.View.{shows}

-- what is found at the first edit shows as the edit does
look_shows : (j : ℕ) (e : Edit) (M : Layer) (f : Sight) → Some f ≡ look_of (e ∷ M) → touches j e ≡ shows j f
look_shows j (at s (add r)) M f h = let w : f ≡ Add s (key r) = cc in rw w refl
look_shows j (at s (strike k)) M f h = let w : f ≡ Strike s k = cc in rw w refl
look_shows j (at s (change i (to v))) M f h = let w : f ≡ Change s i v = cc in rw w refl

module _ (l : Stored) (i j : ℕ) where
  -- some edit from number i on shows
  abbrev pub touched_from : Bool
  touched_from = any (touches j) (drop i (edits l))

  -- the first of them shows, or a later one does
  pub touched_step : (f : Sight) → Some f ≡ look_of (drop i (edits l)) → i < l.m
      → touched_from ≡ (shows j f || any (touches j) (drop (i + 1) (edits l)))
  touched_step f q h =
      let step = left_step l.c l.m i l.numbers.now h in
      ap (any (touches j)) step ∙ rw (look_shows j (edit_of (entry_of l i)) (drop (i + 1) (edits l)) f (rw step at q)) refl

  pub touched_end : l.m ≤ i → touched_from ≡ false
  touched_end h = ap (any (touches j)) (stored_end l i h)
