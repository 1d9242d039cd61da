-- What is known of X and Y past refusals 1 to 4: both are ready over the keys, and X can be moved.
-- Assumes nothing.
use Prim.Native.Nat.{ℕ, ◌+◌, ◌*◌, ◌≤◌}
use native.Mathlib.Omega.{arith}
use mathlib.Core.Path.{◌≡◌, refl, sym, ap, ◌∙◌}
use mathlib.Core.Bool.{true, ◌&&◌}
use mathlib.Core.List.{List, [], ◌∷◌, map}
use lib.ListN.{length, length-map, length-append}
use lib.Seq.{length-take-le}
use lib.Dec.{ltb, leb, eqb}
use borrow.Author.Tests.{not-false, ltb-true, leb-true}
use Rattle.std.specs.Prelude.{Ok, Err}
use Rattle.order.specs.Lists.{ascending, count, gather}
use Rattle.order.proofs.Tests.{and_l}
use Rattle.order.proofs.Ascending.{below, asc_of}
use Rattle.model.specs.Row.{Table, key, keys}
use Rattle.model.specs.Cell.{to}
use Rattle.model.specs.Layer.{add, strike, change, Edit, at, Layer, position}
use Rattle.model.specs.Raw.{numbers_of, layer_of, flat}
use Rattle.model.specs.Form.{sound}
use Rattle.model.specs.Move.{moved, move}
use Rattle.model.specs.Refusals.{first_met}
use Rattle.model.specs.Calls.{both_fit_rows}
use Rattle.theory.proofs.Fit.{fits_all, Fit, Good, good_of}
use Rattle.theory.proofs.Column.{singles, keys_singles}
use Rattle.theory.proofs.Stages.{stage_passed, passed_append}
use Rattle.entry.specs.declared.slice.Stored.{Stored}
use Rattle.entry.specs.Look.{edits}
use Rattle.fit.specs.Ready.{Ready, Fitting}
use Rattle.fit.proofs.Answers.{ready_form}
use Rattle.walk.specs.Walk.{Movable}
use Rattle.pair.specs.Pair.{pair_form, pair_rows}
use Rattle.pair.proofs.Stages.{both_form}

-- X and Y are both ready
pub record Sides (c : ℕ) (K : List ℕ) (mx : ℕ) (x : List ℕ) (my : ℕ) (y : List ℕ) : Type 0 where
  pub mine : Ready c mx x K
  pub theirs : Ready c my y K

module _ (c : ℕ) (K : List ℕ) (mx : ℕ) (x : List ℕ) (my : ℕ) (y : List ℕ) where
  pub sides : (t k : ℕ) → first_met Err (pair_rows c K mx x my y) (Ok t) ≡ Ok k → Sides c K mx x my y × (t ≡ k)
  unfolding pair_rows
  sides t k h =
      let w = stage_passed (pair_rows c K mx x my y) t k h in
      let p =
      passed_append (pair_form c (length K) mx x my y) (both_fit_rows K (layer_of c mx x) K (layer_of c my y)) w.0 in
      let f = both_form c (length K) mx x my y p.0 in
      let rises = not-false (ascending K) p.1.0 in (
        record {
          mine = record { form = f.0; keys = rises; fit = fits_all K (layer_of c mx x) p.1.1.0 };
          theirs = record { form = f.1; keys = rises; fit = fits_all K (layer_of c my y) p.1.1.1.0 };
        },
        w.1,
      )

pub good_side : (c : ℕ) (T : Table) (m : ℕ) (xs : List ℕ) → Ready c m xs (keys T) → Good c T (layer_of c m xs)
good_side c T m xs R =
    good_of c T (layer_of c m xs) (asc_of key T R.keys) (rw (sym (length-map T key)) (ready_form R).ordered) R.fit

sound_position : (c n : ℕ) (e : Edit) → sound c n e ≡ true → position e ≤ n
sound_position c n (at s (add r)) h = leb-true s n (and_l (leb s n) (eqb (length r) c) h)
sound_position c n (at s (strike k)) h = omega (arith, ltb-true s n h)
sound_position c n (at s (change j e)) h = omega (arith, ltb-true s n (and_l (ltb s n) (leb 1 j && ltb j c) h))

-- of two stored layers that fit the same keys the one can be moved past the other
module _ (K : List ℕ) where
  fit_alone : (l : Stored) → Fitting l K → Fit (singles K) (edits l)
  fit_alone l R = (good_side l.c (singles K) l.m l.numbers.now (rw keys_singles R)).fit

  pub movable : (x y : Stored) → Fitting x K → Fitting y K → Movable x y
  movable x y R S =
      let F = fit_alone x R in
      let G = fit_alone y S in
      let A = ready_form R in
      record {
        matched = record {
          mine = F.sorted;
          theirs = G.sorted;
          level = λ p s q r m n e.
              sym (F.sits p q m) ∙ (ap (λ (k : ℕ). count (below key k) (singles K)) e ∙ G.sits s r n);
        };
        based = λ e m. omega (arith, sound_position x.c (length K) e (A.each e m), A.base);
      }

module _ (c : ℕ) (K : List ℕ) (mx : ℕ) (x : List ℕ) (my : ℕ) (y : List ℕ) (S : Sides c K mx x my y) where
  -- a moved layer is as long as it was
  moved_numbers : (Y : Layer) (e : Edit) → length (numbers_of c (moved Y e)) ≡ length (numbers_of c e)
  moved_numbers Y (at s (add r)) = refl
  moved_numbers Y (at s (strike k)) = refl
  moved_numbers Y (at s (change j (to v))) = refl

  moved_length : (Y X : Layer) → length (gather (numbers_of c) (map (moved Y) X)) ≡ length (gather (numbers_of c) X)
  moved_length Y [] = refl
  moved_length Y (e ∷ X) =
      omega (
        arith,
        length-append (numbers_of c (moved Y e)) (gather (numbers_of c) (map (moved Y) X)),
        length-append (numbers_of c e) (gather (numbers_of c) X),
        moved_numbers Y e,
        moved_length Y X,
      )

  pub move_length : length (flat c (move (layer_of c mx x) (layer_of c my y))) ≡ mx * (c + 2)
  unfolding flat
  move_length =
      let A = ready_form S.mine in
      moved_length (layer_of c my y) (layer_of c mx x)
      ∙ (ap length A.numbers ∙ length-take-le (mx * (c + 2)) x A.held.room)
