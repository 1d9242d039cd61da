-- A mark in a layer: one entry on, and where it parts the edits before e from the others.
-- Assumes nothing.
use Prim.Native.Nat.{ℕ, ◌+◌, ◌≤◌, ◌<◌}
use native.Mathlib.Omega.{arith}
use mathlib.Core.Path.{◌≡◌, refl, sym, ap, ◌∙◌}
use mathlib.Core.Logic.{◌⊎◌, ⊎_elim}
use mathlib.Core.Bool.{Bool, true, false, true≢false, ◌&&◌, and-true, and-false}
use mathlib.Core.List.Memᴰ.{append_cases}
use mathlib.Core.List.Memᴰ.{cases_cons}
use mathlib.Core.List.Memᴰ.{eq_of_singleton}
use mathlib.Core.List.Memᴰ.{not-nil}
use mathlib.Core.List.{[], ◌∷◌, ◌++◌, Memᴰ as Mem}
use lib.ListN.{length, take, drop, take-append-drop, drop_of_length-le}
use lib.Seq.{take-add, length-take-le}
use lib.Dec.{eqb}
use Rattle.order.specs.Lists.{one, count}
use Rattle.order.proofs.Tests.{not_passed}
use Rattle.order.proofs.Counts.{count_append, count_same, count_zero, count_le}
use Rattle.order.proofs.Splice.{pairs_drop}
use Rattle.model.specs.Layer.{Edit, Layer, is_add, is_strike}
use Rattle.model.specs.Raw.{edit_of}
use Rattle.words.specs.Entry.{ADD, STRIKE}
use Rattle.model.specs.Edits.{before}
use Rattle.theory.proofs.Raw.{layer_length}
use Rattle.theory.proofs.Edits.{before_trans}
use Rattle.entry.specs.declared.slice.Stored.{Stored}
use Rattle.entry.specs.Look.{edits, entry_of}
use Rattle.entry.proofs.Looks.{Here, left_step}
use Rattle.walk.specs.declared.Mark.{Mark}
use Rattle.walk.specs.Walk.{outset, past, Marks, Early, Parted, InOrder}

-- an entry of a stored layer is an edit of it
pub entry_here : (l : Stored) (i : ℕ) → i < l.m → Here (edits l) i (edit_of (entry_of l i))
entry_here l i h = record {
  below = omega (arith, layer_length l.c l.m l.numbers.now);
  split = left_step l.c l.m i l.numbers.now h;
}

-- the first edits of a layer, and one more
take_next : {L : Layer} {i : ℕ} {d : Edit} → Here L i d → take (i + 1) L ≡ take i L ++ (d ∷ [])
take_next {L} {i} h = take-add i 1 L ∙ rw h.split

pub marks_outset : (L : Layer) → Marks L outset
marks_outset L = record { within = omega arith; adds = refl; strikes = refl }

module _ {L : Layer} {k : Mark} (K : Marks L k) where
  -- as many as there are entries, at most
  pub few : (k.adds ≤ length L) × (k.strikes ≤ length L)
  few =
      let t = length-take-le k.i L K.within in (
        omega (arith, K.adds, K.within, t, count_le is_add (take k.i L)),
        omega (arith, K.strikes, K.within, t, count_le is_strike (take k.i L)),
      )

  counted : {d : Edit} → Here L k.i d → (f : Edit → Bool)
      → count f (take (k.i + 1) L) ≡ count f (take k.i L) + one (f d)
  counted {d} h f =
      ap (count f) (take_next h) ∙ (count_append f (take k.i L) (d ∷ []) ∙ omega arith)

  pub marks_past : (kind : ℕ) {d : Edit} → Here L k.i d → eqb kind ADD ≡ is_add d → eqb kind STRIKE ≡ is_strike d
      → Marks L (past kind k)
  marks_past kind h a s = record {
    within = omega (arith, h.below);
    adds = omega (arith, K.adds, ap one a, counted h is_add);
    strikes = omega (arith, K.strikes, ap one s, counted h is_strike);
  }

module _ {L : Layer} {i : ℕ} {e : Edit} (E : Early L i e) where
  pub early_next : {d : Edit} → Here L i d → before d e ≡ true → Early L (i + 1) e
  early_next {d} h b y m =
      ⊎_elim (λ n. E y n) (λ n. ap (λ (z : Edit). before z e) (eq_of_singleton n) ∙ b)
      (append_cases (take i L) (rw (take_next h) at m))

  -- in a layer in order no edit past one that does not stand before e stands before it
  pub parted_stop : InOrder L → {d : Edit} → Here L i d → before d e ≡ false → Parted L i e
  parted_stop o {d} h b = record { early = E; late = λ y m. go y (cases_cons (rw h.split at m)) }
    where
      sorted : InOrder (d ∷ drop (i + 1) L)
      sorted = rw h.split at (pairs_drop before i L o)

      go : (y : Edit) → (y ≡ d) ⊎ Mem y (drop (i + 1) L) → before y e ≡ false
      go y w =
          ⊎_elim (λ q. ap (λ (z : Edit). before z e) q ∙ b)
          (λ n. not_passed (before y e) (λ t. true≢false (sym (before_trans d y e (sorted.0 y n) t) ∙ b))) w

  pub parted_end : length L ≤ i → Parted L i e
  parted_end h = record {
    early = E;
    late = λ y m. absurd (not-nil (rw (drop_of_length-le L {i = i} h) at m));
  }

-- those before e are the first i
pub parted_count : {L : Layer} {i : ℕ} {e : Edit} → Parted L i e → (f : Edit → Bool)
    → count f (take i L) ≡ count (λ d. f d && before d e) L
parted_count {L} {i} {e} P f =
    omega (
      arith,
      count_same f g (take i L) (λ d m. ap one (sym (passed d m))),
      count_zero g (drop i L) (λ d m. ap one (left d m)),
      count_append g (take i L) (drop i L),
      ap (count g) (take-append-drop i L),
    )
  where
    g : Edit → Bool
    g d = f d && before d e

    passed : (d : Edit) → Mem d (take i L) → (f d && before d e) ≡ f d
    passed d m = rw (P.early d m, and-true)

    left : (d : Edit) → Mem d (drop i L) → (f d && before d e) ≡ false
    left d m = rw (P.late d m, and-false)
