-- Moved past another layer, a layer does to every key what it did.
-- So reading through it is redoing it by key as it was, and both orders read alike.
-- Assumes nothing.
use mathlib.Core.Path.{◌≡◌, refl, sym, ap, ◌∙◌}
use mathlib.Core.Bool.{false, true≢false}
use mathlib.Core.List.Memᴰ.{head as here}
use mathlib.Core.List.{List, [], ◌∷◌, Memᴰ as Mem}
use Prim.Native.Nat.{ℕ}
use lib.ListN.{get_or}
use Rattle.order.specs.Lists.{in_turn}
use Rattle.order.proofs.Members.{mem_map}
use Rattle.order.proofs.Gather.{gather_same, gather_map}
use Rattle.order.proofs.Ascending.{AscFrom, At, at_mem, asc_same}
use Rattle.model.specs.Row.{Row, Table, key, keys}
use Rattle.model.specs.Layer.{Deed, add, strike, change, at, Layer, position, struck, changed}
use Rattle.model.specs.Read.{read}
use Rattle.model.specs.Redo.{redo, on_table}
use Rattle.model.specs.Move.{moved, move}
use Rattle.model.specs.Meaning.{key_of, concerning, meaning, Found, row, missing, lookup, strike_found, given}
use Rattle.theory.proofs.Layer.{by_kind, changed_comm}
use Rattle.theory.proofs.Fit.{key_kept}
use Rattle.theory.proofs.Count.{read_ascends}
use Rattle.theory.proofs.Meaning.{meaning_mem}
use Rattle.theory.proofs.Lookup.{lookup_mem, lookup_ext, added_free, kept_given, one_layer}
use Rattle.theory.proofs.Redo.{lookup_redo, redo_asc}
use Rattle.theory.proofs.Move.{Beside, BaseRow, struck_row_lem, changed_row, moved_group, move_fits}

-- the table once Y and then the moved X are read
abbrev pub together : Table → Layer → Layer → Table
together T X Y = read (read T Y) (move X Y)

module _ (T : Table) (X Y : Layer) (B : Beside T X Y) where
  rises : AscFrom key 0 (read T Y)
  rises = read_ascends T Y B.ascends B.theirs

  pub together_rises : AscFrom key 0 (together T X Y)
  together_rises = read_ascends (read T Y) (move X Y) rises (move_fits T X Y B)

  -- a change is of the same group after the move, so the moved layer means for every group what the layer meant
  pub meaning_moved : (g : ℕ) → meaning (keys (read T Y)) (move X Y) g ≡ meaning (keys T) X g
  unfolding meaning
  meaning_moved g =
      gather_map (concerning (keys (read T Y)) g) (moved Y) X
      ∙ gather_same (λ e. concerning (keys (read T Y)) g (moved Y e)) (concerning (keys T) g) X
      (by_kind (λ e. concerning (keys (read T Y)) g (moved Y e) ≡ concerning (keys T) g e) X
      (λ s r m. refl) (λ s k m. refl) (λ s j e m. rw (moved_group T X Y B s (get_or (keys T) s 0) (changed_row T X Y B s j e m))))

  -- the row of a group after the moved layer is what the layer's own deeds make of it
  after_moved : (g : ℕ) → lookup g (together T X Y) ≡ given (meaning (keys T) X g) (lookup g (read T Y))
  after_moved g =
      one_layer (read T Y) (move X Y) rises (move_fits T X Y B) g
      ∙ ap (λ (ds : List Deed). given ds (lookup g (read T Y))) (meaning_moved g)

  pub move_redo : read (read T Y) (move X Y) ≡ redo on_table (keys T) X (read T Y)
  move_redo =
      lookup_ext (together T X Y) (redo on_table (keys T) X (read T Y)) together_rises
      (redo_asc T X B.ascends B.mine (read T Y) rises free)
      (λ g. after_moved g ∙ sym (lookup_redo g (keys T) X (key_kept T X B.mine) (read T Y)))
    where
      free : (s : ℕ) (r : Row) → Mem (at s (add r)) X
          → in_turn strike_found (meaning (keys T) X (key r)) (lookup (key r) (read T Y)) ≡ missing
      free s r m =
          ap (λ (ds : List Deed). in_turn strike_found ds (lookup (key r) (read T Y))) (sym (meaning_moved (key r)))
          ∙ added_free (read T Y) (move X Y) rises (move_fits T X Y B) (key r) (position (moved Y (at s (add r)))) r
          (mem_map (moved Y) X (at s (add r)) m) refl

  pub after_both : (g : ℕ)
      → lookup g (together T X Y) ≡ given (meaning (keys T) X g) (given (meaning (keys T) Y g) (lookup g T))
  after_both g = after_moved g ∙ ap (given (meaning (keys T) X g)) (one_layer T Y B.ascends B.theirs g)

  -- the base row of a group that neither strikes
  pub kept_row : (g p : ℕ) (q : Row) → At q p 0 T → key q ≡ g → struck p X ≡ false → struck p Y ≡ false
      → lookup g (together T X Y) ≡ row (changed p X (changed p Y q))
  kept_row g p q n kq u v =
      after_both g
      ∙ (ap (λ (f : Found). given (meaning (keys T) X g) (given (meaning (keys T) Y g) f))
      (lookup_mem T B.ascends g q (at_mem n) kq)
      ∙ (ap (given (meaning (keys T) X g)) (kept_given T Y B.ascends B.theirs g p q n kq v q)
      ∙ kept_given T X B.ascends B.mine g p q n kq u (changed p Y q)))

-- how a set touches the group g: it adds its row, or edits its base row, which the other set M does not strike
data Touch (T : Table) (L M : Layer) (g : ℕ) : Type 0 where
  adds : (s : ℕ) (r : Row) → Mem (at s (add r)) L → key r ≡ g → Touch T L M g
  edits : (s : ℕ) → BaseRow T M s g → Touch T L M g

touch : (T : Table) (X Y : Layer) → Beside T X Y → (g : ℕ) (d : Deed) → Mem d (meaning (keys T) X g) → Touch T X Y g
touch T X Y B g d m = let w = meaning_mem (keys T) X g d m in go d w.0 w.1 w.2
  where
    go : (d : Deed) (s : ℕ) → Mem (at s d) X → key_of (keys T) (at s d) ≡ g → Touch T X Y g
    go (add r) s n e = adds s r n e
    go (strike k) s n e = edits s (rw (e) at (struck_row_lem T X Y B s k n))
    go (change j f) s n e = edits s (rw (e) at (changed_row T X Y B s j f n))

module _ (T : Table) (X Y : Layer) (B : Beside T X Y) (C : Beside T Y X) where
  -- a group that both touch has a base row that neither strikes, and their changes of it trade places
  trade : (g : ℕ) → Touch T X Y g → Touch T Y X g → lookup g (together T X Y) ≡ lookup g (together T Y X)
  trade g (adds s r m e) (adds t q n f) = absurd (B.apart.keys s t r q m n (e ∙ sym f))
  trade g (adds s r m e) (edits t b) =
      absurd (true≢false (sym (B.mine.fresh s r m t b.what b.stands (b.group ∙ sym e)) ∙ b.kept))
  trade g (edits s b) (adds t r m f) =
      absurd (true≢false (sym (B.theirs.fresh t r m s b.what b.stands (b.group ∙ sym f)) ∙ b.kept))
  trade g (edits s b) (edits t d) =
      let q = b.what in
      let st : s ≡ t = asc_same key T B.ascends b.stands d.stands (b.group ∙ sym d.group) in
      let u : struck s X ≡ false = ap (λ (p : ℕ). struck p X) st ∙ d.kept in
      kept_row T X Y B g s q b.stands b.group u b.kept
      ∙ (ap row (changed_comm s X Y q (B.apart.cells s)) ∙ sym (kept_row T Y X C g s q b.stands b.group b.kept u))

  alike : (g : ℕ) → lookup g (together T X Y) ≡ lookup g (together T Y X)
  unfolding given
  alike g = go (meaning (keys T) X g) refl (meaning (keys T) Y g) refl
    where
      go : (ds : List Deed) → meaning (keys T) X g ≡ ds → (es : List Deed) → meaning (keys T) Y g ≡ es
          → lookup g (together T X Y) ≡ lookup g (together T Y X)
      go [] e es f = after_both T X Y B g ∙ (rw (e) refl ∙ sym (after_both T Y X C g))
      go (d ∷ ds) e [] f = after_both T X Y B g ∙ (rw (f) refl ∙ sym (after_both T Y X C g))
      go (d ∷ ds) e (x ∷ es) f = trade g (touch T X Y B g d (rw (e) (here refl))) (touch T Y X C g x (rw (f) (here refl)))

  pub both_orders : read (read T Y) (move X Y) ≡ read (read T X) (move Y X)
  both_orders = lookup_ext (together T X Y) (together T Y X) (together_rises T X Y B) (together_rises T Y X C) alike
