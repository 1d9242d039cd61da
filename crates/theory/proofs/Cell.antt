-- What doing an edit to a cell leaves alone: the key, the other columns, the row's length; edits of one cell as one; and edits
-- that may trade places.
-- Assumes nothing.
use mathlib.Core.Path.{◌≡◌, refl, sym, ap, ◌∙◌}
use mathlib.Core.Bool.{Bool, true, false}
use mathlib.Core.List.{[], ◌∷◌}
use Prim.Native.Nat.{ℕ, zero, suc, ◌≤◌, ◌<◌}
use native.Mathlib.Omega.{arith}
use lib.ListN.{length, get_or, set, length-set}
use lib.Seq.{set_comm, set-set, set_out, get_or-set_same, get_or-set_other}
use lib.Dec.{ltb, eqb}
use borrow.Author.Tests.{ltb-true, ltb-false, eqb-true, eqb-false}
use Rattle.model.specs.Row.{Row, cell, key}
use Rattle.model.specs.Cell.{CellEdit, to, done, over, agree, put}

pub put_key_lem : (r : Row) (j : ℕ) (e : CellEdit) → 1 ≤ j → key (put r j e) ≡ key r
unfolding key put
put_key_lem r zero e h = absurd (omega arith)
put_key_lem [] (suc j) e h = refl
put_key_lem (x ∷ r) (suc j) e h = refl

pub put_length : (r : Row) (j : ℕ) (e : CellEdit) → length (put r j e) ≡ length r
unfolding put
put_length r j e = length-set r j (done e (cell j r))

pub put_here : (r : Row) (j : ℕ) (e : CellEdit) → j < length r → cell j (put r j e) ≡ done e (cell j r)
unfolding put
put_here r j e h = get_or-set_same r j (done e (cell j r)) 0 h

pub put_elsewhere : (r : Row) (j i : ℕ) (e : CellEdit) → (i ≡ j → ⊥) → cell i (put r j e) ≡ cell i r
unfolding put
put_elsewhere r j i e h = get_or-set_other r j i (done e (cell j r)) 0 h

-- two edits of a cell are their composition
pub done_over : (e f : CellEdit) (v : ℕ) → done (over e f) v ≡ done e (done f v)
done_over (to w) f v = refl

pub put_over : (r : Row) (j : ℕ) (e f : CellEdit) → put (put r j f) j e ≡ put r j (over e f)
unfolding put
put_over r j e f = go (ltb j (length r)) refl
  where
    go : (t : Bool) → ltb j (length r) ≡ t → put (put r j f) j e ≡ put r j (over e f)
    go true h =
        ap (λ (v : ℕ). set (set r j (done f (cell j r))) j (done e v))
        (get_or-set_same r j (done f (cell j r)) 0 (ltb-true j (length r) h))
        ∙ (set-set r j (done f (cell j r)) (done e (done f (cell j r)))
        ∙ ap (λ (v : ℕ). set r j v) (sym (done_over e f (cell j r))))
    go false h = ap (λ (q : Row). put q j e) (out f) ∙ (out e ∙ sym (out (over e f)))
      where
        out : (g : CellEdit) → put r j g ≡ r
        out g = set_out r j (done g (cell j r)) (ltb-false j (length r) h)

-- an edit done over itself is that edit
pub over_same : (e : CellEdit) → over e e ≡ e
over_same (to v) = refl

-- edits of different cells, and edits of one cell that agree, may trade places
done_agree : (e f : CellEdit) → agree e f ≡ true → (v : ℕ) → done f (done e v) ≡ done e (done f v)
done_agree (to v) (to w) t u = sym (eqb-true v w t)

pub put_comm : (r : Row) (i j : ℕ) (e f : CellEdit) → (i ≡ j → agree e f ≡ true) → put (put r i e) j f ≡ put (put r j f) i e
unfolding put
put_comm r i j e f h = go (eqb i j) refl
  where
    clash : i ≡ j → agree e f ≡ true → put (put r i e) j f ≡ put (put r j f) i e
    clash g t =
        rw g
        (put_over r j f e
        ∙ (ap (λ (v : ℕ). set r j v)
        (done_over f e (cell j r) ∙ (done_agree e f t (cell j r) ∙ sym (done_over e f (cell j r))))
        ∙ sym (put_over r j e f)))

    apart : (i ≡ j → ⊥) → put (put r i e) j f ≡ put (put r j f) i e
    apart ne =
        ap (λ (v : ℕ). set (set r i (done e (cell i r))) j (done f v)) (get_or-set_other r i j (done e (cell i r)) 0 (λ g. ne (sym g)))
        ∙ (set_comm r i j (done e (cell i r)) (done f (cell j r)) ne
        ∙ ap (λ (v : ℕ). set (set r j (done f (cell j r))) i (done e v)) (sym (get_or-set_other r j i (done f (cell j r)) 0 ne)))

    go : (t : Bool) → eqb i j ≡ t → put (put r i e) j f ≡ put (put r j f) i e
    go true g = clash (eqb-true i j g) (h (eqb-true i j g))
    go false g = apart (eqb-false i j g)

-- the empty row has the key that get_or falls back on
pub key_nil : key [] ≡ 0
unfolding key
key_nil = refl
