-- The pass that writes X's new positions: what is written, then what is to come, is the moved layer.
-- Assumes nothing.
use Prim.Native.Nat.{ℕ, suc, ◌+◌, ◌*◌, ◌≤◌, ◌<◌}
use native.Mathlib.Nat.{zero-mul, suc-mul}
use native.Mathlib.Numerals.{add-one}
use native.Mathlib.Omega.{arith}
use mathlib.Core.Path.{◌≡◌, refl, sym, ap, ◌∙◌}
use mathlib.Core.List.Memᴰ.{head as here}
use mathlib.Core.List.{List, ◌∷◌, ◌++◌, append_assoc, map}
use lib.ListN.{length, get_or, take, drop, set, length-set, take-append-drop}
use lib.Seq.{take-add, drop-drop, drop-cons, take-set-le, drop-set-lt, get_or-set_same}
use Rattle.order.specs.Lists.{gather}
use Rattle.order.proofs.Splice.{drop_mem}
use Rattle.words.specs.declared.Entry.{Entry}
use Rattle.model.specs.Layer.{Deed, add, strike, change, at, Layer, position}
use Rattle.model.specs.Raw.{Held, entry_at, entries_of, deed_of, edit_of, numbers_of, layer_of, flat}
use Rattle.model.specs.Move.{moved, move}
use Rattle.entry.proofs.Looks.{entries_step, left_step, left_end, room_here}
use Rattle.scan.proofs.Laws.{vals_length}
use Rattle.form.proofs.Flat.{entry_numbers_lem}
use Rattle.walk.specs.Walk.{PositionsIn}
use Rattle.relocate.specs.Zeroed.{Zeroed}

-- a number written over an entry's position
entry_set : (c from p : ℕ) (zs xs : List ℕ) → from + (c + 2) ≤ length xs → length zs ≡ length xs
    → drop from zs ≡ drop from xs
    → take (from + (c + 2)) (set zs from p) ≡ take from zs ++ (p ∷ (entry_at c from xs).kind ∷ (entry_at c from xs).vals)
entry_set c from p zs xs r l e =
    let a : c + 2 ≡ suc (suc c) = omega arith in
    let one : from + 1 ≡ suc from = omega arith in
    let two : from + 2 ≡ suc (suc from) = omega arith in
    let d : drop (suc from) zs ≡ drop (suc from) xs =
    ap (λ (n : ℕ). drop n zs) (sym one)
    ∙ (sym (drop-drop 1 from zs) ∙ (ap (drop 1) e ∙ (drop-drop 1 from xs ∙ ap (λ (n : ℕ). drop n xs) one))) in
    rw (
      a,
      take-add from (suc (suc c)) (set zs from p),
      take-set-le from zs from p (omega arith),
      drop-cons (set zs from p) from 0 (omega (arith, length-set zs from p)),
      get_or-set_same zs from p 0 (omega arith),
      drop-set-lt (suc from) zs from p (omega arith),
      d,
      drop-cons xs (suc from) 0 (omega arith),
      one,
      two,
    )

-- moving alters the position alone
moved_at : (Y : Layer) (s : ℕ) (d : Deed) → moved Y (at s d) ≡ at (position (moved Y (at s d))) d
moved_at Y s (add r) = refl
moved_at Y s (strike k) = refl
moved_at Y s (change j e) = refl

module _ (c m : ℕ) (xs to : List ℕ) where
  -- the numbers of the moved edits from number i on, and what stands past X
  abbrev ending : Layer → ℕ → List ℕ
  ending Y i = gather (numbers_of c) (map (moved Y) (drop i (layer_of c m xs))) ++ drop (m * (c + 2)) xs

  pub record Putting (zs : List ℕ) (i : ℕ) : Type 0 where
    pub size : length zs ≡ length xs
    pub untouched : drop (i * (c + 2)) zs ≡ drop (i * (c + 2)) xs
    pub written : (Y : Layer) → PositionsIn c xs Y m to
        → flat c (move (layer_of c m xs) Y) ++ drop (m * (c + 2)) xs ≡ take (i * (c + 2)) zs ++ ending Y i

  pub putting_start : Putting xs 0
  unfolding flat
  putting_start = record {
    size = refl;
    untouched = refl;
    written = λ Y q. rw zero-mul;
  }

  pub putting_end : {zs : List ℕ} → Putting zs m → (Y : Layer) → PositionsIn c xs Y m to
      → zs ≡ flat c (move (layer_of c m xs) Y) ++ drop (m * (c + 2)) xs
  putting_end {zs} R Y q =
      sym (R.written Y q
      ∙ rw (left_end c m m xs (omega arith), ← R.untouched) (take-append-drop (m * (c + 2)) zs))

  module _ {zs : List ℕ} {i : ℕ} (R : Putting zs i) (H : Held c m xs) (h : i < m) where
    room : i * (c + 2) + (c + 2) ≤ length zs
    room = omega (arith, R.size, room_here c m i xs H h)

    abbrev new : ℕ
    new = get_or to i 0

    abbrev entry : Entry
    entry = entry_at c (i * (c + 2)) xs

    numbers : Zeroed c m xs → (Y : Layer) → PositionsIn c xs Y m to
        → numbers_of c (moved Y (edit_of entry)) ≡ new ∷ entry.kind ∷ entry.vals
    numbers Z Y q =
        ap (numbers_of c) (moved_at Y entry.pos (deed_of entry.kind entry.vals)
        ∙ ap (λ (n : ℕ). at n (deed_of entry.kind entry.vals)) (sym (q i h)))
        ∙ entry_numbers_lem c (record { pos = new; kind = entry.kind; vals = entry.vals })
        (vals_length c (i * (c + 2)) xs (omega (arith, R.size, room))) H.some
        (Z entry (drop_mem i (entries_of c m xs) entry (rw (entries_step c m i xs h) (here refl))))

    -- the next entry stands past this one
    past : (i + 1) * (c + 2) ≡ i * (c + 2) + (c + 2)
    past = rw add-one (omega (arith, suc-mul i (c + 2)))

    pub putting_on : Zeroed c m xs → Putting (set zs (i * (c + 2)) new) (i + 1)
    putting_on Z = record {
      size = length-set zs (i * (c + 2)) new ∙ R.size;
      untouched =
          rw past
          (drop-set-lt (i * (c + 2) + (c + 2)) zs (i * (c + 2)) new (omega arith)
          ∙ (sym (drop-drop (c + 2) (i * (c + 2)) zs)
          ∙ (ap (drop (c + 2)) R.untouched ∙ drop-drop (c + 2) (i * (c + 2)) xs)));
      written = λ Y q.
          R.written Y q
          ∙ rw (
            past,
            left_step c m i xs h,
            numbers Z Y q,
            entry_set c (i * (c + 2)) new zs xs (omega (arith, R.size, room)) R.size R.untouched,
          )
          (simp append_assoc);
    }
