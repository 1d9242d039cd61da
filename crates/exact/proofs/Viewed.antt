-- What a viewer gets after a read: the column read, as the base column itself exactly where no entry shows in it;
-- nothing where the read is refused. A read answers the rows after the layer.
-- Assumes nothing.
use Prim.Native.Nat.{ℕ, suc}
use native.Mathlib.Omega.{arith}
use mathlib.Core.Path.{◌≡◌, refl, sym, ap, ◌∙◌}
use mathlib.Core.Logic.{◌↔◌}
use mathlib.Core.Bool.{Bool, true, false, cond, true≢false, and-false}
use mathlib.Core.List.{List, [], ◌∷◌, ◌++◌, map, Memᴰ as Mem}
use lib.ListN.{length, drop, replicate, length-append, length-map, length-replicate}
use lib.Seq.{take_at}
use lib.Dec.{eqb}
use borrow.Author.Tests.{eqb-true, eq-eqb}
use Rattle.words.specs.declared.Origin.TheVariants.{Base as base, Added as added}
use Rattle.std.specs.Prelude.{Ok, Err}
use Rattle.order.specs.Lists.{any}
use Rattle.order.proofs.Tests.{impossible, or_false}
use Rattle.order.proofs.Members.{any_none, none_any}
use Rattle.words.specs.declared.Refusal.{Refusal}
use Rattle.model.specs.Row.{Row, cell, column}
use Rattle.model.specs.Cell.{CellEdit}
use Rattle.model.specs.Layer.{add, strike, change, Edit, at, Layer, rows_after, adds_at, struck, changed_cell}
use Rattle.model.specs.Raw.{layer_of}
use Rattle.model.specs.Form.{in_order}
use Rattle.model.specs.Read.{
  unless,
  through,
  read_column_from,
  read_column,
  touches,
  whole_base,
  buffer_front,
  empty_base,
}
use Rattle.model.specs.Position.{add_numbers, origins}
use Rattle.model.specs.Calls.{shown_column, read_answer, read_slice, view_part, part_numbers}
use Rattle.theory.proofs.Position.{rows_counted}
use Rattle.exact.proofs.FormExactly.{kept_in_order}
use Rattle.exact.proofs.Exactly.{counts}
use Rattle.exact.proofs.Tables.{read_table}

-- no entry is an add, a strike or a change of column j
pub record Untouched (j : ℕ) (L : Layer) : Type 0 where
  pub adds : (s : ℕ) (r : Row) → Mem (at s (add r)) L → ⊥
  pub strikes : (s k : ℕ) → Mem (at s (strike k)) L → ⊥
  pub changes : (s : ℕ) (e : CellEdit) → Mem (at s (change j e)) L → ⊥

pub untouched_exactly : (j : ℕ) (L : Layer) → (any (touches j) L ≡ false) ↔ Untouched j L
untouched_exactly j L = (
  λ h. record {
    adds = λ s r m. true≢false (none_any (touches j) L h (at s (add r)) m);
    strikes = λ s k m. true≢false (none_any (touches j) L h (at s (strike k)) m);
    changes = λ s e m. true≢false (sym (eq-eqb j j refl) ∙ none_any (touches j) L h (at s (change j e)) m);
  },
  λ u. any_none (touches j) L (none u),
)
  where
    none : Untouched j L → (e : Edit) → Mem e L → touches j e ≡ false
    none u (at s (add r)) m = absurd (u.adds s r m)
    none u (at s (strike k)) m = absurd (u.strikes s k m)
    none u (at s (change i e)) m = go (eqb j i) refl
      where
        go : (t : Bool) → eqb j i ≡ t → t ≡ false
        go true f = absurd (u.changes s e (rw (eqb-true j i f) m))
        go false f = refl

-- then the column reads as it is
silent : (j p : ℕ) (L : Layer) → any (touches j) L ≡ false
    → (adds_at p L ≡ []) × (struck p L ≡ false) × ((v : ℕ) → changed_cell p j L v ≡ v)
silent j p [] h = (refl, refl, λ v. refl)
silent j p (at s (add r) ∷ L) h = absurd (true≢false h)
silent j p (at s (strike k) ∷ L) h = absurd (true≢false h)
silent j p (at s (change i e) ∷ L) h =
    let w = or_false (eqb j i) (any (touches j) L) h in
    let z = silent j p L w.1 in
    (z.0, z.1, λ v. rw (w.0, and-false (eqb p s)) (z.2 v))

reads_as_is : (j s : ℕ) (xs : List ℕ) (L : Layer) → any (touches j) L ≡ false → read_column_from j s xs L ≡ xs
reads_as_is j s [] L h = rw (silent j s L h).0
reads_as_is j s (x ∷ xs) L h =
    let z = silent j s L h in
    rw (z.0, z.1, z.2 x) (ap (λ (t : List ℕ). x ∷ t) (reads_as_is j (suc s) xs L h))

module _ (c m : ℕ) (raw xs : List ℕ) (j : ℕ) where
  abbrev L : Layer
  L = layer_of c m raw

  abbrev shown : List ℕ
  shown = shown_column c m raw xs j

  -- after an accepted read the viewer's numbers are the column read
  pub view_shows : (out : List ℕ) (k : ℕ) → read_answer c m raw xs j (length out) ≡ Ok k
      → part_numbers xs (read_slice c m raw xs j out) (view_part c m raw xs j (length out)) ≡ shown_column c m raw xs j
  unfolding view_part
  view_shows out k e = rw e (go (any (touches j) L) refl)
    where
      go : (t : Bool) → any (touches j) L ≡ t
          → part_numbers xs (shown ++ drop (length shown) out) (cond t (buffer_front k) whole_base) ≡ shown
      go true f =
          take_at shown (drop (length shown) out) k (sym (counts (read_table c m raw xs j (length out)) k e).0)
      go false f = sym (reads_as_is j 0 xs L f)

  -- the part is the base itself exactly where no entry shows in the column; refused, there is nothing to see
  module _ (len : ℕ) where
    pub view_base : (k : ℕ) → read_answer c m raw xs j len ≡ Ok k
        → (view_part c m raw xs j len ≡ whole_base) ↔ Untouched j (layer_of c m raw)
    unfolding view_part
    view_base k e = rw e (go (any (touches j) L) refl)
      where
        go : (t : Bool) → any (touches j) L ≡ t → (cond t (buffer_front k) whole_base ≡ whole_base) ↔ Untouched j L
        go true f = (
          λ g. impossible (cc),
          λ u. absurd (true≢false (sym f ∙ (untouched_exactly j L).1 u)),
        )
        go false f = (λ g. (untouched_exactly j L).0 f, λ u. refl)

    pub view_refused : (x : Refusal) → read_answer c m raw xs j len ≡ Err x
        → (view_part c m raw xs j len ≡ empty_base) × ((out : List ℕ) → part_numbers xs out (view_part c m raw xs j len) ≡ [])
    unfolding view_part
    view_refused x e = (rw e, λ out. rw e)

-- A pass is as long as its parts.
module _ {A B C D : Type 0} (a : ℕ → List B) (b : ℕ → List D) (k : ℕ → A → List B) (l : ℕ → C → List D)
    (adds : (p : ℕ) → length (a p) ≡ length (b p)) (rows : (p : ℕ) (x : A) (y : C) → length (k p x) ≡ length (l p y)) where
  through_length : (s : ℕ) (xs : List A) (ys : List C) → length xs ≡ length ys
      → length (through a k s xs) ≡ length (through b l s ys)
  through_length s [] [] e = adds s
  through_length s [] (y ∷ ys) e = absurd (omega arith)
  through_length s (x ∷ xs) [] e = absurd (omega arith)
  through_length s (x ∷ xs) (y ∷ ys) e = omega (
    arith,
    length-append (a s) (k s x ++ through a k (suc s) xs),
    length-append (k s x) (through a k (suc s) xs),
    length-append (b s) (l s y ++ through b l (suc s) ys),
    length-append (l s y) (through b l (suc s) ys),
    adds s,
    rows s x y,
    through_length (suc s) xs ys (omega arith),
  )

adds_numbered : (p i : ℕ) (L : Layer) → length (adds_at p L) ≡ length (add_numbers p i L)
adds_numbered p i [] = refl
adds_numbered p i (at s (add r) ∷ L) = go (eqb p s) (adds_numbered p (suc i) L)
  where
    go : (t : Bool) → length (adds_at p L) ≡ length (add_numbers p (suc i) L)
        → length (cond t (r ∷ []) [] ++ adds_at p L) ≡ length (cond t (i ∷ add_numbers p (suc i) L) (add_numbers p (suc i) L))
    go true ih = ap suc ih
    go false ih = ih
adds_numbered p i (at s (strike k) ∷ L) = adds_numbered p (suc i) L
adds_numbered p i (at s (change j e) ∷ L) = adds_numbered p (suc i) L

shown_one : {A B : Type 0} (t : Bool) (x : A) (y : B) → length (unless t x) ≡ length (unless t y)
shown_one true x y = refl
shown_one false x y = refl

-- a column of a layer that keeps form shows n + adds - strikes rows
pub column_rows : (c j : ℕ) (xs : List ℕ) (L : Layer) → in_order c (length xs) L ≡ true
    → length (read_column j xs L) ≡ rows_after (length xs) L
unfolding origins
column_rows c j xs L ok =
    through_length (λ p. column j (adds_at p L)) (λ p. map added (add_numbers p 0 L)) _ (λ p x. unless (struck p L) (base p))
    (λ p. length-map (adds_at p L) (cell j) ∙ (adds_numbered p 0 L ∙ sym (length-map (add_numbers p 0 L) added)))
    (λ p x y. shown_one (struck p L) (changed_cell p j L x) (base p)) 0 xs (replicate (length xs) 0)
    (sym (length-replicate {A = ℕ} (length xs) 0))
    ∙ (rows_counted c (length xs) L ok).0

-- so a read that is done answers the rows after the layer
pub read_answers : (c m : ℕ) (raw xs : List ℕ) (j len k : ℕ) → read_answer c m raw xs j len ≡ Ok k
    → k ≡ rows_after (length xs) (layer_of c m raw)
read_answers c m raw xs j len k e =
    let w = counts (read_table c m raw xs j len) k e in
    w.0
    ∙ column_rows c j xs (layer_of c m raw)
    (kept_in_order c (length xs) m raw w.1.0.0.columns w.1.0.0.fits w.1.1.0)
