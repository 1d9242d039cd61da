-- The keys that a layer leaves are those of what stands at each row: a mark where the way stops tells that of its row.
-- Assumes nothing.
use mathlib.Core.Path.{◌≡◌, refl, sym, ap, ◌∙◌}
use mathlib.Core.Bool.{◌&&◌}
use mathlib.Core.List.{List, [], ◌∷◌, map}
use Prim.Native.Nat.{ℕ, ◌≤◌, ◌<◌}
use native.Mathlib.Omega.{arith}
use lib.ListN.{length, get_or, length-map, get_or-map, get_or-eq_default}
use lib.Dec.{leb, ltb}
use borrow.Author.Tests.{leb-true}
use Rattle.words.specs.declared.Origin.{Origin}
use Rattle.words.specs.declared.Origin.TheVariants.{Base as base, Added as added}
use Rattle.order.proofs.Tests.{and_l, and_r}
use Rattle.model.specs.Row.{key, keys}
use Rattle.model.specs.Layer.{add, change, at, Layer, rows_after}
use Rattle.model.specs.Raw.{layer_of}
use Rattle.model.specs.Read.{keys_after}
use Rattle.model.specs.Position.{origins, back}
use Rattle.theory.proofs.Layer.{KeyKept, changed_key}
use Rattle.theory.proofs.Column.{keys_read, singles, keys_singles, singles_length}
use Rattle.theory.proofs.Fit.{keys_at}
use Rattle.theory.proofs.Origin.{added_row, origin_row, read_origins}
use Rattle.theory.proofs.Position.{rows_counted}
use Rattle.form.specs.InForm.{InForm}
use Rattle.form.proofs.Accepted.{Accepted, accepted}
use Rattle.mark.specs.declared.Mark.{Mark}
use Rattle.mark.specs.declared.Way.TheVariants.{Before, Own}
use Rattle.mark.specs.Walk.{origin_from, way_at, Marks}
use Rattle.mark.proofs.Walk.{walk_back}
use Rattle.mark.proofs.Marking.{here_base, here_own}

-- the key of what stands at a row
abbrev origin_key : List ℕ → Layer → Origin → ℕ
origin_key K L (base s) = get_or K s 0
origin_key K L (added i) = key (added_row (get_or L i (at 0 (add []))))

module _ (K : List ℕ) (L : Layer) (kept : KeyKept L) where
  of_row : (o : Origin) → key (origin_row (singles K) L o) ≡ origin_key K L o
  of_row (base s) =
      changed_key s L (get_or (singles K) s []) kept
      ∙ (sym (keys_at (singles K) s) ∙ ap (λ (N : List ℕ). get_or N s 0) (keys_singles K))
  of_row (added i) = refl

  of_rows : (os : List Origin) → keys (map (origin_row (singles K) L) os) ≡ map (origin_key K L) os
  of_rows [] = refl
  of_rows (o ∷ os) = λ i. of_row o i ∷ of_rows os i

  keys_origins : keys_after K L ≡ map (origin_key K L) (origins (length K) L)
  keys_origins =
      ap (λ (N : List ℕ). keys_after N L) (sym (keys_singles K))
      ∙ (keys_read (singles K) L kept ∙ (ap keys (read_origins (singles K) L)
      ∙ (of_rows (origins (length (singles K)) L)
      ∙ ap (λ (n : ℕ). map (origin_key K L) (origins n L)) (singles_length K))))

  key_at_lem : (r : ℕ) → get_or (keys_after K L) r 0 ≡ origin_key K L (back (length K) L r)
  key_at_lem r =
      ap (λ (N : List ℕ). get_or N r 0) keys_origins
      ∙ (ap (get_or (map (origin_key K L) (origins (length K) L)) r)
      (sym (get_or-eq_default K 0 {n = length K} (omega arith)))
      ∙ get_or-map (origin_key K L) (origins (length K) L) r (base (length K)))

  keys_count : length (keys_after K L) ≡ length (origins (length K) L)
  keys_count = ap length keys_origins ∙ length-map (origins (length K) L) (origin_key K L)

module _ (c : ℕ) (K : List ℕ) (m : ℕ) (r : List ℕ) (f : InForm c (length K) m r) where
  abbrev L : Layer
  L = layer_of c m r

  known : Accepted c (length K) m r (rows_after (length K) L)
  known = accepted c (length K) m r (rows_after (length K) L) f

  kept : KeyKept L
  kept p j e n =
      leb-true 1 j (and_l (leb 1 j) (ltb j c)
      (and_r (ltb p (length K)) (leb 1 j && ltb j c) (known.each (at p (change j e)) n)))

  -- as many keys as rows
  pub keys_left : rows_after (length K) L ≡ length (keys_after K L)
  keys_left = sym (keys_count K L kept ∙ (rows_counted c (length K) L known.ordered).0)

  -- the key of a mark's row: a base row's, an add's own; and of no row
  module _ {k : Mark} (g : Marks L k) (h : k.row < length (keys_after K L)) where
    stands : (o : Origin) → origin_from 0 k.row L ≡ o → origin_key K L o ≡ get_or (keys_after K L) k.row 0
    stands o e =
        sym (key_at_lem K L kept k.row ∙ ap (origin_key K L)
        (sym (walk_back c (length K) L k.row known.ordered (omega (arith, keys_left))) ∙ e))

    pub key_base : way_at L k ≡ Before → get_or K k.t 0 ≡ get_or (keys_after K L) k.row 0
    key_base w = stands (base k.t) (here_base g w)

    pub key_own : (own : ℕ) → way_at L k ≡ Own own → own ≡ get_or (keys_after K L) k.row 0
    key_own own w = let o = here_own g own w in sym o.1 ∙ stands (added k.i) o.0

  pub key_past : (row : ℕ) → length (keys_after K L) ≤ row → 0 ≡ get_or (keys_after K L) row 0
  key_past row h = sym (get_or-eq_default (keys_after K L) 0 {n = row} h)
