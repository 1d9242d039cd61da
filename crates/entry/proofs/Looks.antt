-- What is left of a layer from entry number i on is this edit and what is left after it; and which edit a look finds.
-- Assumes nothing.
use Prim.Native.Nat.{ℕ, zero, suc, ◌+◌, ◌*◌, ◌≤◌, ◌<◌}
use native.Mathlib.Nat.{zero-add, zero-mul, suc-mul}
use native.Mathlib.Numerals.{add-one}
use native.Mathlib.Omega.{arith}
use mathlib.Core.Path.{◌≡◌, refl, sym, ap, ◌∙◌}
use mathlib.Core.Bool.{Bool, true, false, cond}
use mathlib.Core.List.{List, [], ◌∷◌, map}
use lib.ListN.{length, get_or, drop, drop_of_length-le}
use lib.Seq.{drop-cons}
use lib.Dec.{eqb}
use Rattle.order.proofs.Tests.{impossible}
use Rattle.words.specs.declared.Entry.{Entry}
use Rattle.model.specs.Row.{Row, key}
use Rattle.model.specs.Cell.{to}
use Rattle.model.specs.Layer.{Edit, at, add, strike, change, Layer}
use Rattle.model.specs.Raw.{column_of, Held, entry_at, entries_of, none, edit_of, layer_of}
use Rattle.words.specs.Entry.{ADD, STRIKE}
use Rattle.theory.proofs.Raw.{entry_at_lem, entries_length, layer_length, within, small}
use Rattle.theory.proofs.Edits.{deed_by}
use Rattle.head.specs.declared.Head.{Head}
use Rattle.entry.specs.declared.Sight.{Sight}
use Rattle.entry.specs.declared.Sight.TheVariants.{Add, Strike, Change}
use Rattle.head.specs.Head.{head_of}
use Rattle.std.specs.Prelude.{Option, Some, None}
use Rattle.entry.specs.declared.slice.Stored.{Stored}
use Rattle.entry.specs.Look.{look_of, edits, entry_of}

map_drop : (es : List Entry) (i : ℕ) → drop i (map edit_of es) ≡ map edit_of (drop i es)
map_drop es zero = refl
map_drop [] (suc i) = refl
map_drop (e ∷ es) (suc i) = map_drop es i

module _ (c m i : ℕ) (xs : List ℕ) where
  -- the entries from number i on
  pub entries_step : i < m → drop i (entries_of c m xs) ≡ entry_at c (i * (c + 2)) xs ∷ drop (i + 1) (entries_of c m xs)
  entries_step h =
      drop-cons (entries_of c m xs) i none (omega (arith, entries_length c m 0 xs))
      ∙ (λ k. (entry_at_lem c m 0 i xs h ∙ ap (λ (n : ℕ). entry_at c n xs) (zero-add (i * (c + 2)))) k
      ∷ drop (sym (add-one i) k) (entries_of c m xs))

  -- the same as edits
  pub left_step : i < m → drop i (layer_of c m xs) ≡ edit_of (entry_at c (i * (c + 2)) xs) ∷ drop (i + 1) (layer_of c m xs)
  unfolding layer_of
  left_step h =
      map_drop (entries_of c m xs) i
      ∙ (ap (map edit_of) (entries_step h) ∙ rw (map_drop (entries_of c m xs) (i + 1)))

  pub left_end : m ≤ i → drop i (layer_of c m xs) ≡ []
  left_end h = drop_of_length-le (layer_of c m xs) {i = i} (omega (arith, layer_length c m xs))

  -- the entry lies within the slice
  pub room_here : Held c m xs → i < m → i * (c + 2) + (c + 2) ≤ length xs
  room_here H h = omega (arith, within i m (c + 2) h, H.room)

-- an entry of a stored layer lies within the slice
pub stored_here : (l : Stored) (i : ℕ) → i < l.m → i * (l.c + 2) + (l.c + 2) ≤ length l.numbers.now
stored_here l i h = room_here l.c l.m i l.numbers.now l.held h

pub stored_end : (l : Stored) (i : ℕ) → l.m ≤ i → drop i (edits l) ≡ []
stored_end l i h = left_end l.c l.m i l.numbers.now h

-- what its head tells of it
abbrev pub found_by : Bool → Bool → Head → Sight
found_by a b h = cond a (Add h.pos h.first) (cond b (Strike h.pos h.first) (Change h.pos (column_of h.kind) h.first))

abbrev pub found : Head → Sight
found h = found_by (eqb h.kind ADD) (eqb h.kind STRIKE) h

pub look_head : (c m i : ℕ) (xs : List ℕ) → i < m
    → Some (found (head_of (entry_at c (i * (c + 2)) xs))) ≡ look_of (drop i (layer_of c m xs))
unfolding key
look_head c m i xs h = rw (left_step c m i xs h) (by (eqb e.kind ADD) (eqb e.kind STRIKE))
  where
    e : Entry
    e = entry_at c (i * (c + 2)) xs

    by : (a b : Bool) → Some (found_by a b (head_of e))
        ≡ look_of (at e.pos (deed_by a b e.vals (get_or e.vals 0 0) e.kind) ∷ drop (i + 1) (layer_of c m xs))
    by true b = refl
    by false true = refl
    by false false = refl

-- and what it does is found by its head
pub stored_look : (l : Stored) (i : ℕ) → i < l.m → Some (found (head_of (entry_of l i))) ≡ look_of (drop i (edits l))
stored_look l i h = look_head l.c l.m i l.numbers.now h

-- the edits from number i on begin with e
pub record Here (L : Layer) (i : ℕ) (e : Edit) : Type 0 where
  pub below : i < length L
  pub split : drop i L ≡ e ∷ drop (i + 1) L

begins : (L : Layer) (i : ℕ) (e : Edit) (M : Layer) → drop i L ≡ e ∷ M → Here L i e
begins [] zero e M h = impossible (cc)
begins [] (suc i) e M h = impossible (cc)
begins (d ∷ L) zero e M h = let w : d ≡ e = cc in record { below = omega arith; split = ap (λ (x : Edit). x ∷ L) w }
begins (d ∷ L) (suc i) e M h =
    let w = begins L i e M h in
    record { below = omega (arith, w.below); split = w.split ∙ rw (add-one, add-one) }

-- what a look finds
pub look_end : (L : Layer) (i : ℕ) → look_of (drop i L) ≡ None → length L ≤ i
look_end [] i h = omega arith
look_end (at s (add r) ∷ L) zero h = impossible (cc)
look_end (at s (strike k) ∷ L) zero h = impossible (cc)
look_end (at s (change j (to v)) ∷ L) zero h = impossible (cc)
look_end (e ∷ L) (suc i) h = omega (arith, look_end L i h)

pub look_add : (L : Layer) (i s k : ℕ) → look_of (drop i L) ≡ Some (Add s k) → (r : Row) × Here L i (at s (add r)) × (key r ≡ k)
look_add L i s k = go (drop i L) refl
  where
    go : (M : Layer) → drop i L ≡ M → look_of M ≡ Some (Add s k) → (r : Row) × Here L i (at s (add r)) × (key r ≡ k)
    go [] d h = impossible (cc)
    go (at p (add r) ∷ M) d h =
        let e : p ≡ s = cc in
        (r, begins L i (at s (add r)) M (d ∙ ap (λ (n : ℕ). at n (add r) ∷ M) e), cc)
    go (at p (strike l) ∷ M) d h = impossible (cc)
    go (at p (change j (to v)) ∷ M) d h = impossible (cc)

pub look_strike : (L : Layer) (i s k : ℕ) → look_of (drop i L) ≡ Some (Strike s k) → Here L i (at s (strike k))
look_strike L i s k = go (drop i L) refl
  where
    go : (M : Layer) → drop i L ≡ M → look_of M ≡ Some (Strike s k) → Here L i (at s (strike k))
    go [] d h = impossible (cc)
    go (at p (add r) ∷ M) d h = impossible (cc)
    go (at p (strike l) ∷ M) d h =
        let e : p ≡ s = cc in
        let f : l ≡ k = cc in
        begins L i (at s (strike k)) M (d ∙ (λ n. at (e n) (strike (f n)) ∷ M))
    go (at p (change j (to v)) ∷ M) d h = impossible (cc)

pub look_change : (L : Layer) (i s j v : ℕ) → look_of (drop i L) ≡ Some (Change s j v) → Here L i (at s (change j (to v)))
look_change L i s j v = go (drop i L) refl
  where
    go : (M : Layer) → drop i L ≡ M → look_of M ≡ Some (Change s j v) → Here L i (at s (change j (to v)))
    go [] d h = impossible (cc)
    go (at p (add r) ∷ M) d h = impossible (cc)
    go (at p (strike l) ∷ M) d h = impossible (cc)
    go (at p (change i' (to w)) ∷ M) d h =
        let e : p ≡ s = cc in
        let f : i' ≡ j = cc in
        let g : w ≡ v = cc in
        begins L i (at s (change j (to v))) M (d ∙ (λ n. at (e n) (change (f n) (to (g n))) ∷ M))
