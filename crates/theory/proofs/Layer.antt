-- A layer by its members: how many of a kind pass a test, the rows that it adds at a position, the rows that it
-- strikes, what it makes of a row.
-- Assumes nothing.
use mathlib.Core.Path.{◌≡◌, refl, sym, ap, ◌∙◌}
use mathlib.Core.Bool.{Bool, true, false, cond, true≢false}
use mathlib.Core.List.Memᴰ.{cast as mem_cast}
use mathlib.Core.List.Memᴰ.{head as here}
use mathlib.Core.List.Memᴰ.{not-nil}
use mathlib.Core.List.Memᴰ.{tail as next}
use mathlib.Core.List.{
  [],
  ◌∷◌,
  Memᴰ as Mem,
}
use Prim.Native.Nat.{ℕ, ◌+◌, ◌≤◌}
use lib.ListN.{length}
use lib.Dec.{eqb}
use borrow.Author.Tests.{eqb-true, eq-eqb, ne_eqb}
use Rattle.order.specs.Lists.{one, count}
use Rattle.order.proofs.Tests.{and_l}
use Rattle.order.proofs.Counts.{count_same, count_sum, count_zero}
use Rattle.order.proofs.Edited.{turn_keeps, turn_past}
use Rattle.order.proofs.Members.{any_mem, any_of, any_none, gather_mem, mem_gather}
use Rattle.model.specs.Row.{Row, key}
use Rattle.model.specs.Cell.{CellEdit, agree, put}
use Rattle.model.specs.Layer.{
  add,
  strike,
  change,
  Edit,
  at,
  Layer,
  on_add,
  on_strike,
  added_by,
  strikes_row,
  changes_row,
  changes_cell,
  change_row,
  adds_at,
  struck,
  changed,
}
use Rattle.theory.proofs.Cell.{put_key_lem, put_length, put_comm}

-- what is so of the adds, the strikes and the changes of a layer is so of its edits
pub by_kind : (Q : Edit → Type 0) (L : Layer) → ((p : ℕ) (r : Row) → Mem (at p (add r)) L → Q (at p (add r)))
    → ((p k : ℕ) → Mem (at p (strike k)) L → Q (at p (strike k)))
    → ((p j : ℕ) (e : CellEdit) → Mem (at p (change j e)) L → Q (at p (change j e))) → (e : Edit) → Mem e L → Q e
by_kind Q L a s c (at p (add r)) m = a p r m
by_kind Q L a s c (at p (strike k)) m = s p k m
by_kind Q L a s c (at p (change j e)) m = c p j e m

-- how many adds, or strikes, pass a test: compared edit by edit of that kind alone
module _ (L : Layer) where
  pub adds_same : (f g : ℕ → Row → Bool) → ((p : ℕ) (r : Row) → Mem (at p (add r)) L → one (f p r) ≡ one (g p r))
      → count (on_add f) L ≡ count (on_add g) L
  adds_same f g h =
      count_same (on_add f) (on_add g) L (by_kind (λ e. one (on_add f e) ≡ one (on_add g e)) L h (λ p k m. refl) (λ p j e m. refl))

  pub adds_sum : (f g h : ℕ → Row → Bool)
      → ((p : ℕ) (r : Row) → Mem (at p (add r)) L → one (f p r) + one (g p r) ≡ one (h p r))
      → count (on_add f) L + count (on_add g) L ≡ count (on_add h) L
  adds_sum f g h w =
      count_sum (on_add f) (on_add g) (on_add h) L
      (by_kind (λ e. one (on_add f e) + one (on_add g e) ≡ one (on_add h e)) L w (λ p k m. refl) (λ p j e m. refl))

  pub adds_zero : (f : ℕ → Row → Bool) → ((p : ℕ) (r : Row) → Mem (at p (add r)) L → one (f p r) ≡ 0) → count (on_add f) L ≡ 0
  adds_zero f h = count_zero (on_add f) L (by_kind (λ e. one (on_add f e) ≡ 0) L h (λ p k m. refl) (λ p j e m. refl))

  pub strikes_same : (f g : ℕ → ℕ → Bool) → ((p k : ℕ) → Mem (at p (strike k)) L → one (f p k) ≡ one (g p k))
      → count (on_strike f) L ≡ count (on_strike g) L
  strikes_same f g h =
      count_same (on_strike f) (on_strike g) L
      (by_kind (λ e. one (on_strike f e) ≡ one (on_strike g e)) L (λ p r m. refl) h (λ p j e m. refl))

  pub strikes_sum : (f g h : ℕ → ℕ → Bool) → ((p k : ℕ) → Mem (at p (strike k)) L → one (f p k) + one (g p k) ≡ one (h p k))
      → count (on_strike f) L + count (on_strike g) L ≡ count (on_strike h) L
  strikes_sum f g h w =
      count_sum (on_strike f) (on_strike g) (on_strike h) L
      (by_kind (λ e. one (on_strike f e) + one (on_strike g e) ≡ one (on_strike h e)) L (λ p r m. refl) w (λ p j e m. refl))

  pub strikes_zero : (f : ℕ → ℕ → Bool) → ((p k : ℕ) → Mem (at p (strike k)) L → one (f p k) ≡ 0) → count (on_strike f) L ≡ 0
  strikes_zero f h = count_zero (on_strike f) L (by_kind (λ e. one (on_strike f e) ≡ 0) L (λ p r m. refl) h (λ p j e m. refl))

-- the added rows at s are those of the adds at s
pub adds_mem : (s : ℕ) (L : Layer) (r : Row) → Mem r (adds_at s L) → Mem (at s (add r)) L
adds_mem s L r m = let w = gather_mem (added_by s) L r m in go w.0 w.1 w.2
  where
    one : (p : ℕ) (q : Row) → Mem (at p (add q)) L → (t : Bool) → eqb s p ≡ t → Mem r (cond t (q ∷ []) [])
        → Mem (at s (add r)) L
    one p q n true e (here f) = mem_cast {b = at p (add q)} (cc (eqb-true s p e)) n
    one p q n true e (next k) = absurd (not-nil k)
    one p q n false e k = absurd (not-nil k)

    go : (e : Edit) → Mem e L → Mem r (added_by s e) → Mem (at s (add r)) L
    go (at p (add q)) n k = one p q n (eqb s p) refl k
    go (at p (strike l)) n k = absurd (not-nil k)
    go (at p (change j f)) n k = absurd (not-nil k)

pub mem_adds : (s : ℕ) (L : Layer) (r : Row) → Mem (at s (add r)) L → Mem r (adds_at s L)
mem_adds s L r m = mem_gather (added_by s) L (at s (add r)) r m (rw (eq-eqb s s refl) (here refl))

-- a row is struck where some strike stands at it
pub of_struck : (s : ℕ) (L : Layer) → struck s L ≡ true → (k : ℕ) × Mem (at s (strike k)) L
of_struck s L h = let w = any_mem (strikes_row s) L h in go w.0 w.1 w.2
  where
    go : (e : Edit) → Mem e L → strikes_row s e ≡ true → (k : ℕ) × Mem (at s (strike k)) L
    go (at p (add q)) n e = absurd (true≢false (sym e))
    go (at p (strike k)) n e = (k, mem_cast {b = at p (strike k)} (ap (λ (t : ℕ). at t (strike k)) (eqb-true s p e)) n)
    go (at p (change j f)) n e = absurd (true≢false (sym e))

pub struck_of : (s k : ℕ) (L : Layer) → Mem (at s (strike k)) L → struck s L ≡ true
struck_of s k L m = any_of (strikes_row s) L (at s (strike k)) m (eq-eqb s s refl)

pub struck_none : (s : ℕ) (L : Layer) → ((p k : ℕ) → Mem (at p (strike k)) L → s ≡ p → ⊥) → struck s L ≡ false
struck_none s L h =
    any_none (strikes_row s) L
    (by_kind (λ e. strikes_row s e ≡ false) L (λ p r m. refl) (λ p k m. ne_eqb s p (h p k m)) (λ p j e m. refl))

-- a change of a cell is a change of its row
pub cell_of_row : (s j : ℕ) (e : Edit) → changes_cell s j e ≡ true → changes_row s e ≡ true
cell_of_row s j (at p (add r)) h = h
cell_of_row s j (at p (strike k)) h = h
cell_of_row s j (at p (change i f)) h = and_l (eqb s p) _ h

-- an edit does nothing to row s, or puts a cell of it
pub by_change : (s : ℕ) (L : Layer) (Q : (Row → Row) → Type 0) → Q (λ x. x)
    → ((j : ℕ) (e : CellEdit) → Mem (at s (change j e)) L → Q (λ x. put x j e)) → (e : Edit) → Mem e L → Q (change_row s e)
by_change s L Q same puts (at p (add r)) m = same
by_change s L Q same puts (at p (strike k)) m = same
by_change s L Q same puts (at p (change j e)) m = go (eqb s p) refl
  where
    go : (t : Bool) → eqb s p ≡ t → Q (λ x. cond t (put x j e) x)
    go true f = puts j e (mem_cast {b = at p (change j e)} (ap (λ (i : ℕ). at i (change j e)) (eqb-true s p f)) m)
    go false f = same

-- what each of its changes keeps of a row, they keep
pub changed_keeps : (Q : Row → Type 0) (s : ℕ) (L : Layer) (r : Row)
    → ((j : ℕ) (e : CellEdit) → Mem (at s (change j e)) L → (x : Row) → Q x → Q (put x j e)) → Q r → Q (changed s L r)
changed_keeps Q s L r puts h =
    turn_keeps Q (change_row s) L r (by_change s L (λ f. (x : Row) → Q x → Q (f x)) (λ x q. q) puts) h

-- a row keeps its key where every change leaves the key alone
abbrev pub KeyKept : Layer → Type 0
KeyKept L = (s j : ℕ) (e : CellEdit) → Mem (at s (change j e)) L → 1 ≤ j

pub changed_key : (s : ℕ) (L : Layer) (r : Row) → KeyKept L → key (changed s L r) ≡ key r
changed_key s L r h = changed_keeps (λ x. key x ≡ key r) s L r (λ j e m x k. put_key_lem x j e (h s j e m) ∙ k) refl

pub changed_length : (s : ℕ) (L : Layer) (r : Row) → length (changed s L r) ≡ length r
changed_length s L r = changed_keeps (λ x. length x ≡ length r) s L r (λ j e m x k. put_length x j e ∙ k) refl

-- two layers whose changes of row s trade places
abbrev pub Trade : ℕ → Layer → Layer → Type 0
Trade s X Y = (j i : ℕ) (e f : CellEdit) → Mem (at s (change j e)) X → Mem (at s (change i f)) Y → j ≡ i → agree e f ≡ true

put_changed : (s : ℕ) (L : Layer) (q : Row) (j : ℕ) (e : CellEdit)
    → ((i : ℕ) (f : CellEdit) → Mem (at s (change i f)) L → j ≡ i → agree e f ≡ true)
    → changed s L (put q j e) ≡ put (changed s L q) j e
put_changed s L q j e h =
    turn_past (change_row s) (λ x. put x j e) L q
    (by_change s L (λ f. (x : Row) → f (put x j e) ≡ put (f x) j e) (λ x. refl) (λ i f m x. put_comm x j i e f (h i f m)))

pub changed_comm : (s : ℕ) (X Y : Layer) (q : Row) → Trade s X Y → changed s X (changed s Y q) ≡ changed s Y (changed s X q)
changed_comm s X Y q h =
    turn_past (change_row s) (changed s Y) X q
    (by_change s X (λ f. (x : Row) → f (changed s Y x) ≡ changed s Y (f x)) (λ x. refl)
    (λ j e m x. sym (put_changed s Y x j e (λ i f n. h j i e f m n))))
