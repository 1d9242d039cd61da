-- Moving X past Y, where they are free of conflict: the moved layer keeps form and fits what is read through Y.
-- Assumes nothing.
use mathlib.Core.Path.{◌≡◌, refl, sym, ap, ◌∙◌}
use mathlib.Core.Logic.{◌⊎◌, inl, inr, ⊎_elim}
use mathlib.Core.Bool.{Bool, true, false, ◌&&◌, true≢false}
use mathlib.Core.List.Memᴰ.{cast as mem_cast}
use mathlib.Core.List.{Memᴰ as Mem}
use Prim.Native.Nat.{ℕ, ◌-◌, ◌≤◌, ◌<◌}
use native.Mathlib.Omega.{arith}
use lib.ListN.{length, get_or}
use lib.Dec.{leb, ltb, eqb}
use borrow.Author.Tests.{le-leb, ltb-true, ltb-false, lt-ltb}
use Rattle.order.specs.Lists.{count}
use Rattle.order.proofs.Tests.{tests, and_r, and_of}
use Rattle.order.proofs.Members.{mem_map, map_mem}
use Rattle.order.proofs.Counts.{count_le}
use Rattle.order.proofs.Pairs.{pairs_map}
use Rattle.order.proofs.Ascending.{
  AscFrom,
  At,
  below,
  at_count,
  at_mem,
  mem_at,
  at_cast,
  at_length,
  count_mono,
  count_strict,
  count_rise,
  asc_same,
}
use Rattle.model.specs.Row.{Row, Table, key, keys}
use Rattle.model.specs.Cell.{CellEdit}
use Rattle.model.specs.Layer.{Deed, add, strike, change, Edit, at, Layer, position, struck, changed}
use Rattle.model.specs.Read.{read}
use Rattle.model.specs.Form.{sound}
use Rattle.model.specs.Position.{row_of}
use Rattle.model.specs.Edits.{deed_before, before}
use Rattle.model.specs.Meaning.{key_of}
use Rattle.model.specs.Move.{add_position, moved, move}
use Rattle.theory.proofs.Layer.{changed_key, of_struck, struck_of}
use Rattle.theory.proofs.Edits.{before_cases, before_lt, before_eq}
use Rattle.theory.proofs.Read.{Shown, shown, shows_row}
use Rattle.theory.proofs.Fit.{Fit, Good, key_kept, key_of_lem}
use Rattle.theory.proofs.Count.{read_ascends, moved_add, moved_row}
use Rattle.theory.proofs.Conflict.{Apart}
use Rattle.theory.proofs.Meaning.{position_of}

-- X and Y stand beside each other over T: both fit, and they are free of conflict
pub record Beside (T : Table) (X Y : Layer) : Type 0 where
  pub ascends : AscFrom key 0 T
  pub mine : Fit T X
  pub theirs : Fit T Y
  pub apart : Apart X Y

-- a moved edit does what one of the layer's edits does, and stands where that one is moved to
pub move_mem : (Y X : Layer) (p : ℕ) (d : Deed) → Mem (at p d) (move X Y)
    → (s : ℕ) × Mem (at s d) X × (p ≡ position (moved Y (at s d)))
move_mem Y X p d m = let w = map_mem (moved Y) X (at p d) m in go w.0 w.1 w.2
  where
    from : (s : ℕ) (f : Deed) → f ≡ d → Mem (at s f) X → p ≡ position (moved Y (at s f))
        → (s : ℕ) × Mem (at s d) X × (p ≡ position (moved Y (at s d)))
    from s f e n h = (s, rw (e) at n, h ∙ ap (λ (x : Deed). position (moved Y (at s x))) e)

    go : (f : Edit) → Mem f X → at p d ≡ moved Y f → (s : ℕ) × Mem (at s d) X × (p ≡ position (moved Y (at s d)))
    go (at s (add r)) n e = from s (add r) (cc) n (cc)
    go (at s (strike k)) n e = from s (strike k) (cc) n (cc)
    go (at s (change j f)) n e = from s (change j f) (cc) n (cc)

-- a row that Y keeps stands where its position is moved to
pub row_at_lem : (T : Table) (Y : Layer) → AscFrom key 0 T → Fit T Y → (s : ℕ) (q : Row) → At q s 0 T → struck s Y ≡ false
    → At (changed s Y q) (row_of Y s) 0 (read T Y)
row_at_lem T Y a F s q n u =
    let w = mem_at 0 (read T Y) (changed s Y q) (shows_row 0 T Y s q n u) in
    at_cast (omega (
      arith,
      at_count key 0 0 (read T Y) (read_ascends T Y a F) (changed s Y q) w.0 w.1,
      moved_row T Y a F s q n u,
      ap (λ (k : ℕ). count (below key k) (read T Y)) (changed_key s Y q (key_kept T Y F)),
    )) w.1

-- the base row at s, which Y does not strike, is of the group g
pub record BaseRow (T : Table) (Y : Layer) (s g : ℕ) : Type 0 where
  pub what : Row
  pub stands : At what s 0 T
  pub kept : struck s Y ≡ false
  pub group : key what ≡ g

module _ (T : Table) (X Y : Layer) (B : Beside T X Y) where
  -- a strike and a change of X are of such a row
  pub struck_row_lem : (s k : ℕ) → Mem (at s (strike k)) X → BaseRow T Y s k
  struck_row_lem s k m =
      let w = B.mine.strikes s k m in record { what = w.0; stands = w.1; kept = B.apart.strikes s k m; group = w.2 }

  pub changed_row : (s j : ℕ) (e : CellEdit) → Mem (at s (change j e)) X → BaseRow T Y s (get_or (keys T) s 0)
  changed_row s j e m =
      let w = B.mine.changes s j e m in
      record { what = w.0; stands = w.1; kept = B.apart.changes s j e m; group = sym (key_of_lem w.1) }

  -- it is shown, its group as it was, and its new place is the number of keys below
  module _ (s g : ℕ) (b : BaseRow T Y s g) where
    row_shown : At (changed s Y b.what) (row_of Y s) 0 (read T Y)
    row_shown = row_at_lem T Y B.ascends B.theirs s b.what b.stands b.kept

    pub row_group : key (changed s Y b.what) ≡ g
    row_group = changed_key s Y b.what (key_kept T Y B.theirs) ∙ b.group

    pub moved_group : get_or (keys (read T Y)) (row_of Y s) 0 ≡ g
    moved_group = key_of_lem row_shown ∙ row_group

    row_place : row_of Y s ≡ count (below key g) (read T Y)
    row_place =
        moved_row T Y B.ascends B.theirs s b.what b.stands b.kept
        ∙ ap (λ (l : ℕ). count (below key l) (read T Y)) b.group

    -- a higher key has more keys below it
    past_row : (l : ℕ) → g < l → row_of Y s < count (below key l) (read T Y)
    past_row l h =
        omega (
          arith,
          row_place,
          ap (λ (t : ℕ). count (below key t) (read T Y)) row_group,
          count_strict key (read T Y) (changed s Y b.what) l (at_mem row_shown) (omega (arith, row_group)),
        )

  -- after the move too a position is the number of keys below the edit's own
  new_position : (e : Edit) → Mem e X → position (moved Y e) ≡ count (below key (key_of (keys T) e)) (read T Y)
  new_position (at s (add r)) m = moved_add T Y B.ascends B.theirs s (key r) (B.mine.sits s r m)
  new_position (at s (strike k)) m = row_place s k (struck_row_lem s k m)
  new_position (at s (change j e)) m = row_place s (get_or (keys T) s 0) (changed_row s j e m)

  -- positions and deeds decide the order
  in_order_lem : (d e : Edit) (p s : ℕ) (f g : Deed) → moved Y d ≡ at p f → moved Y e ≡ at s g → p ≤ s → deed_before f g ≡ true
      → before (moved Y d) (moved Y e) ≡ true
  in_order_lem d e p s f g x y h t = rw (x, y) (go (ltb p s) refl)
    where
      go : (u : Bool) → ltb p s ≡ u → before (at p f) (at s g) ≡ true
      go true z = before_lt (at p f) (at s g) (ltb-true p s z)
      go false z = before_eq p s f g (omega tests) t

  -- an add is not above what stands at its position
  add_under : (s : ℕ) (r q : Row) → Mem (at s (add r)) X → At q s 0 T → key r ≤ key q
  add_under s r q m n = go (ltb (key q) (key r)) refl
    where
      go : (u : Bool) → ltb (key q) (key r) ≡ u → key r ≤ key q
      go true h =
          absurd (omega (
            arith,
            B.mine.sits s r m,
            at_count key 0 0 T B.ascends q s n,
            count_strict key T q (key r) (at_mem n) (ltb-true (key q) (key r) h),
          ))
      go false h = ltb-false (key q) (key r) h

  mono : (d e : Edit) → Mem d X → Mem e X → key_of (keys T) d ≤ key_of (keys T) e → position (moved Y d) ≤ position (moved Y e)
  mono d e m n k =
      omega (arith, new_position d m, new_position e n, count_mono key (read T Y) (key_of (keys T) d) (key_of (keys T) e) k)

  higher : (d e : Edit) → Mem d X → Mem e X → position d < position e → key_of (keys T) d < key_of (keys T) e
  higher (at p d) (at s e) m n l =
      count_rise key T (key_of (keys T) (at p d)) (key_of (keys T) (at s e))
      (omega (arith, position_of T X B.ascends B.mine p d m, position_of T X B.ascends B.mine s e n))

  -- an add stays before what it stood before: another add, or an edit of a base row
  add_add : (p s : ℕ) (r q : Row) → Mem (at p (add r)) X → Mem (at s (add q)) X
      → (p < s) ⊎ ((p ≡ s) × (ltb (key r) (key q) ≡ true))
      → before (moved Y (at p (add r))) (moved Y (at s (add q))) ≡ true
  add_add p s r q m n w =
      let k : key r < key q =
      ⊎_elim (λ l. higher (at p (add r)) (at s (add q)) m n l) (λ z. ltb-true (key r) (key q) z.1) w in
      in_order_lem (at p (add r)) (at s (add q)) (add_position Y p (key r)) (add_position Y s (key q)) (add r) (add q) refl refl
      (mono (at p (add r)) (at s (add q)) m n (omega arith)) (lt-ltb (key r) (key q) k)

  add_row_lem : (p s : ℕ) (r : Row) (e : Deed) → Mem (at p (add r)) X → Mem (at s e) X → BaseRow T Y s (key_of (keys T) (at s e))
      → moved Y (at s e) ≡ at (row_of Y s) e → deed_before (add r) e ≡ true → (p < s) ⊎ ((p ≡ s) × (deed_before (add r) e ≡ true))
      → before (moved Y (at p (add r))) (moved Y (at s e)) ≡ true
  add_row_lem p s r e m n b mv d w =
      let k : key r ≤ key_of (keys T) (at s e) =
      ⊎_elim (λ h. omega (arith, higher (at p (add r)) (at s e) m n h))
      (λ h. omega (
        arith,
        b.group,
        add_under s r b.what
            (mem_cast {b = at p (add r)} (ap (λ (t : ℕ). at t (add r)) (sym h.0)) m) b.stands,
      )) w in
      in_order_lem (at p (add r)) (at s e) (add_position Y p (key r)) (row_of Y s) (add r) e refl mv
      (omega (arith, mono (at p (add r)) (at s e) m n k, ap position mv)) d

  -- an edit of a base row stays strictly before one at a later position
  row_later : (p s g : ℕ) (d e : Deed) → Mem (at p d) X → Mem (at s e) X → BaseRow T Y p g → key_of (keys T) (at p d) ≡ g
      → position (moved Y (at p d)) ≡ row_of Y p → p < s → before (moved Y (at p d)) (moved Y (at s e)) ≡ true
  row_later p s g d e m n b k mv l =
      before_lt (moved Y (at p d)) (moved Y (at s e)) (omega (
        arith,
        mv,
        new_position (at s e) n,
        past_row p g b (key_of (keys T) (at s e)) (omega (arith, k, higher (at p d) (at s e) m n l)),
      ))

  -- changes of one row stay in column order
  deed_stays : (p s : ℕ) (d e : Deed) → Mem (at p d) X → Mem (at s e) X → (p < s) ⊎ ((p ≡ s) × (deed_before d e ≡ true))
      → before (moved Y (at p d)) (moved Y (at s e)) ≡ true
  deed_stays p s (add r) (add q) m n w = add_add p s r q m n w
  deed_stays p s (add r) (strike l) m n w = add_row_lem p s r (strike l) m n (struck_row_lem s l n) refl refl w
  deed_stays p s (add r) (change j e) m n w = add_row_lem p s r (change j e) m n (changed_row s j e n) refl refl w
  deed_stays p s (strike l) e m n (inl h) = row_later p s l (strike l) e m n (struck_row_lem p l m) refl refl h
  deed_stays p s (strike l) e m n (inr h) = absurd (true≢false (sym h.1))
  deed_stays p s (change j f) e m n (inl h) =
      row_later p s (get_or (keys T) p 0) (change j f) e m n (changed_row p j f m) refl refl h
  deed_stays p s (change j f) (add r) m n (inr h) = absurd (true≢false (sym h.1))
  deed_stays p s (change j f) (strike l) m n (inr h) = absurd (true≢false (sym h.1))
  deed_stays p s (change j f) (change i g) m n (inr h) =
      before_eq (row_of Y p) (row_of Y s) (change j f) (change i g) (ap (row_of Y) h.0) h.1

  order_stays : (d e : Edit) → Mem d X → Mem e X → before d e ≡ true → before (moved Y d) (moved Y e) ≡ true
  order_stays (at p d) (at s e) m n h = deed_stays p s d e m n (before_cases p s d e h)

  -- a shown row of an added key was a base row that X strikes, and the moved X strikes it still
  fresh_moved : (s : ℕ) (r : Row) → Mem (at s (add r)) X → (i : ℕ) (q : Row) → At q i 0 (read T Y) → key q ≡ key r
      → Shown 0 T Y q
      → struck i (move X Y) ≡ true
  fresh_moved s r m i q n e (inl (p, l)) = absurd (B.apart.keys s p r q m l (sym e))
  fresh_moved s r m i q n e (inr (p, b, k, u, f)) =
      let kb : key b ≡ key r = sym (changed_key p Y b (key_kept T Y B.theirs)) ∙ (sym (ap key f) ∙ e) in
      let w = of_struck p X (B.mine.fresh s r m p b k kb) in
      rw (asc_same key (read T Y) (read_ascends T Y B.ascends B.theirs) n
      (row_at_lem T Y B.ascends B.theirs p b k u) (ap key f))
      (struck_of (row_of Y p) w.0 (move X Y) (mem_map (moved Y) X (at p (strike w.0)) w.1))

  -- the moved layer fits
  pub move_fits : Fit (read T Y) (move X Y)
  move_fits = record {
    sits = λ p r m.
        let z = move_mem Y X p (add r) m in
        sym (z.2 ∙ moved_add T Y B.ascends B.theirs z.0 (key r) (B.mine.sits z.0 r z.1));
    fresh = λ p r m i q n e. let z = move_mem Y X p (add r) m in fresh_moved z.0 r z.1 i q n e (shown 0 T Y q (at_mem n));
    strikes = λ p k m.
        let z = move_mem Y X p (strike k) m in
        let b = struck_row_lem z.0 k z.1 in
        (changed z.0 Y b.what, at_cast (sym z.2) (row_shown z.0 k b), row_group z.0 k b);
    changes = λ p j e m.
        let z = move_mem Y X p (change j e) m in
        let b = changed_row z.0 j e z.1 in (
          changed z.0 Y b.what,
          at_cast (sym z.2) (row_shown z.0 (get_or (keys T) z.0 0) b),
          (B.mine.changes z.0 j e z.1).2,
        );
    sorted = pairs_map before before (moved Y) X order_stays B.mine.sorted;
  }

  -- and each edit is sound where it stands now
  below_rows : (s g : ℕ) → BaseRow T Y s g → ltb (row_of Y s) (length (read T Y)) ≡ true
  below_rows s g b = lt-ltb (row_of Y s) (length (read T Y)) (omega (arith, at_length (row_shown s g b)))

  sound_moved : (c : ℕ) (e : Edit) → Mem e X → sound c (length T) e ≡ true → sound c (length (read T Y)) (moved Y e) ≡ true
  sound_moved c (at s (add r)) m h =
      and_of (leb (add_position Y s (key r)) (length (read T Y))) (eqb (length r) c)
      (le-leb (add_position Y s (key r)) (length (read T Y))
      (omega (arith, new_position (at s (add r)) m, count_le (below key (key r)) (read T Y))))
      (and_r (leb s (length T)) (eqb (length r) c) h)
  sound_moved c (at s (strike k)) m h = below_rows s k (struck_row_lem s k m)
  sound_moved c (at s (change j e)) m h =
      and_of (ltb (row_of Y s) (length (read T Y))) (leb 1 j && ltb j c) (below_rows s (get_or (keys T) s 0) (changed_row s j e m))
      (and_r (ltb s (length T)) (leb 1 j && ltb j c) h)

  -- and keeps form
  pub move_good : (c : ℕ) → ((e : Edit) → Mem e X → sound c (length T) e ≡ true) → Good c (read T Y) (move X Y)
  move_good c h = record {
    each = λ e m.
        let w = map_mem (moved Y) X e m in
        rw w.2 (sound_moved c w.0 w.1 (h w.0 w.1));
    fit = move_fits;
  }
