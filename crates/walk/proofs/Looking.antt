-- The search for the lowest entry of X in any conflict: none was met so far, and the place is that of the first to
-- come.
-- Assumes nothing.
use Prim.Native.Nat.{ℕ, ◌+◌, ◌-◌, ◌≤◌, ◌<◌}
use native.Mathlib.Nat.{zero-add}
use native.Mathlib.Omega.{arith}
use mathlib.Core.Path.{◌≡◌, refl, sym, ap, ◌∙◌}
use mathlib.Core.Bool.{Bool, true, false}
use mathlib.Core.List.Memᴰ.{head as here}
use mathlib.Core.List.Memᴰ.{not-nil}
use mathlib.Core.List.{List, [], ◌∷◌, Memᴰ as Mem}
use lib.ListN.{length, get_or, drop, set, length-set}
use lib.Seq.{get_or-set_same, get_or-set_other}
use lib.Dec.{eqb}
use borrow.Author.Tests.{eqb-true, eqb-false}
use Rattle.order.specs.Lists.{first_at}
use Rattle.order.proofs.Splice.{drop_mem, pairs_drop}
use Rattle.words.specs.declared.Entry.{Entry}
use Rattle.model.specs.Layer.{Edit, Layer, position}
use Rattle.model.specs.Raw.{deed_of, edit_of}
use Rattle.model.specs.Edits.{before}
use Rattle.model.specs.Conflict.{met, clashes_with, conflict_place}
use Rattle.model.specs.Move.{moved}
use Rattle.theory.proofs.Edits.{before_trans}
use Rattle.head.specs.declared.Head.{Head}
use Rattle.head.specs.Head.{head_of, seen}
use Rattle.head.proofs.Heads.{before_head, head_clash}
use Rattle.entry.specs.declared.slice.Stored.{Stored}
use Rattle.entry.specs.Look.{edits, entry_of}
use Rattle.entry.proofs.Looks.{Here, stored_end}
use Rattle.walk.specs.declared.Mark.{Mark}
use Rattle.walk.specs.Walk.{outset, Marks, Early, Parted, rule_ahead, Movable, Positions}
use Rattle.walk.proofs.Marks.{entry_here, marks_outset}
use Rattle.walk.proofs.Walking.{few_strikes, new_position, conflict_ahead}

pub record Looking (x y : Stored) (to₀ to : List ℕ) (i : ℕ) (mark : Mark) : Type 0 where
  pub marks : Marks (edits y) mark
  -- what the mark has passed stands before every edit to come
  pub early : (e : Edit) → Mem e (drop i (edits x)) → Early (edits y) mark.i e
  pub place : conflict_place (edits x) (edits y) ≡ i + first_at (clashes_with (edits y)) (drop i (edits x))
  pub size : length to ≡ length to₀
  pub moves : Positions x (edits y) i to

pub looking_start : (x y : Stored) (to₀ : List ℕ) → Looking x y to₀ to₀ 0 outset
unfolding conflict_place
looking_start x y to₀ = record {
  marks = marks_outset (edits y);
  early = λ e m d n. absurd (not-nil n);
  place = sym (zero-add _);
  size = refl;
  moves = λ j h. absurd (omega arith);
}

module _ {x y : Stored} {to₀ to : List ℕ} {i : ℕ} {mark : Mark} (G : Looking x y to₀ to i mark) where
  abbrev X : Layer
  X = edits x

  abbrev Y : Layer
  Y = edits y

  pub looking_end : x.m ≤ i → i ≡ conflict_place X Y
  looking_end h = sym (G.place ∙ rw (stored_end x i h) (omega arith))

  -- a turn: entry i of X, by its head h
  module _ (M : Movable x y) (h : i < x.m) (e : Head) (is : e ≡ head_of (entry_of x i)) where
    abbrev entry : Entry
    entry = entry_of x i

    this : Here X i (edit_of entry)
    this = entry_here x i h

    in_layer : Mem (edit_of entry) X
    in_layer = drop_mem i X (edit_of entry) (rw this.split (here refl))

    by_head : (d : Edit) → before d (seen e) ≡ before d (edit_of entry)
    by_head d = ap (λ (t : Head). before d (seen t)) is ∙ before_head d entry

    pub early_here : Early Y mark.i (seen e)
    early_here d m = by_head d ∙ G.early (edit_of entry) (rw this.split (here refl)) d m

    -- the mark moved on past what stands before it
    module _ {r : Mark} (R : Marks Y r) (P : Parted Y r.i (seen e)) where
      parted : Parted Y r.i (edit_of entry)
      parted = record { early = λ d m. sym (by_head d) ∙ P.early d m; late = λ d m. sym (by_head d) ∙ P.late d m }

      judged : clashes_with Y (edit_of entry) ≡ met (rule_ahead (seen e) (drop r.i Y))
      judged = conflict_ahead X Y M.matched (edit_of entry) in_layer r.i parted
          ∙ ap met (sym (rule (drop r.i Y)))
        where
          rule : (L : Layer) → rule_ahead (seen e) L ≡ rule_ahead (edit_of entry) L
          rule [] = refl
          rule (d ∷ L) = ap (λ (t : Head). rule_ahead (seen t) (d ∷ L)) is ∙ head_clash entry d

      pub looking_found : met (rule_ahead (seen e) (drop r.i Y)) ≡ true → i ≡ conflict_place X Y
      looking_found t = sym (G.place ∙ rw (this.split, judged ∙ t) (omega arith))

      position_was : e.pos ≡ entry.pos
      position_was = ap (λ (t : Head). t.pos) is

      pub bounds : (e.pos ≤ 4096) × (r.strikes ≤ e.pos)
      bounds = (
        omega (arith, position_was, M.based (edit_of entry) in_layer),
        omega (
          arith,
          position_was,
          R.strikes,
          few_strikes Y r.i entry.pos (deed_of entry.kind entry.vals) parted M.matched.theirs,
        ),
      )

      abbrev new : ℕ
      new = (e.pos + r.adds) - r.strikes

      new_here : new ≡ position (moved Y (edit_of (entry_of x i)))
      new_here =
          rw (position_was, R.adds, R.strikes)
          (sym (ap position (new_position Y r.i entry.pos (deed_of entry.kind entry.vals) parted)))

      pub looking_on : met (rule_ahead (seen e) (drop r.i Y)) ≡ false → i < length to
          → Looking x y to₀ (set to i new) (i + 1) r
      looking_on t room = record {
        marks = R;
        early = λ d m y n. before_trans y (edit_of entry) d (parted.early y n)
            ((rw this.split at (pairs_drop before i X M.matched.mine)).0 d m);
        place = G.place ∙ rw (this.split, judged ∙ t) (omega arith);
        size = length-set to i new ∙ G.size;
        moves = λ j l. go j l (eqb j i) refl;
      }
        where
          go : (j : ℕ) → j < i + 1 → (b : Bool) → eqb j i ≡ b
              → get_or (set to i new) j 0 ≡ position (moved Y (edit_of (entry_of x j)))
          go j l true z = rw (eqb-true j i z) (get_or-set_same to i new 0 room ∙ new_here)
          go j l false z =
              get_or-set_other to i j new 0 (eqb-false j i z) ∙ G.moves j (omega (arith, eqb-false j i z))
