-- What holds at the head of the fit pass, and the ways on from there: one more entry, a stop, the end.
-- Assumes nothing.
use Prim.Native.Nat.{ℕ, ◌+◌, ◌≤◌, ◌<◌}
use native.Mathlib.Nat.{zero-add, zero-mul, sub-zero}
use native.Mathlib.Omega.{arith}
use mathlib.Core.Path.{◌≡◌, refl, sym, ◌∙◌}
use mathlib.Core.Bool.{true, false}
use mathlib.Core.List.Memᴰ.{head as mem_here}
use mathlib.Core.List.Memᴰ.{tail as mem_next}
use mathlib.Core.List.{List, Memᴰ as Mem}
use lib.ListN.{length}
use Rattle.order.proofs.Members.{mem_map}
use Rattle.words.specs.declared.Entry.{Entry}
use Rattle.model.specs.Layer.{rows_after}
use Rattle.model.specs.Raw.{entries_of, edit_of, layer_of}
use Rattle.model.specs.Form.{sound}
use Rattle.model.specs.Fit.{fit_place}
use Rattle.head.specs.declared.Head.{Head}
use Rattle.head.specs.Head.{head_of}
use Rattle.entry.specs.declared.slice.Stored.{Stored}
use Rattle.entry.specs.Look.{edits, entry_of, entries_from}
use Rattle.form.specs.InForm.{InForm}
use Rattle.form.proofs.Accepted.{Accepted, accepted}
use Rattle.suit.specs.Suit.{fit_from}
use Rattle.suit.proofs.Looks.{change_first, from_step, fine, fit_step, fit_stop, fit_end}
use Rattle.fit.proofs.Ahead.{fit_place_lem}

-- the first entry at fault is what was passed and where it stands in the rest
pub record Fitting (l : Stored) (K : List ℕ) (i : ℕ) (d : Head) : Type 0 where
  pub each : (e : Entry) → Mem e (entries_from l i) → sound l.c (length K) (edit_of e) ≡ true
  pub placed : fit_place K (edits l) ≡ i + fit_from K d.pos d.kind d.first (entries_from l i)

module _ (c m : ℕ) (xs K : List ℕ) (h : InForm c (length K) m xs) where
  known : Accepted c (length K) m xs (rows_after (length K) (layer_of c m xs))
  known = accepted c (length K) m xs (rows_after (length K) (layer_of c m xs)) h

  each_sound : (e : Entry) → Mem e (entries_of c m xs) → sound c (length K) (edit_of e) ≡ true
  unfolding layer_of
  each_sound e k = known.each (edit_of e) (mem_map edit_of (entries_of c m xs) e k)

  pub place : fit_place K (layer_of c m xs) ≡ fit_from K 0 0 0 (entries_of c m xs)
  unfolding layer_of
  place = sym (fit_place_lem c (length K) K (entries_of c m xs) (record { each = known.each; pairs = known.pairs }))

pub begin : (l : Stored) (K : List ℕ) → InForm l.c (length K) l.m l.numbers.now → Fitting l K 0 change_first
begin l K h = record {
  each = rw (zero-mul, sub-zero) (each_sound l.c l.m l.numbers.now K h);
  placed = rw (zero-add, zero-mul, sub-zero) (place l.c l.m l.numbers.now K h);
}

module _ {l : Stored} {K : List ℕ} {i : ℕ} {d : Head} (s : Fitting l K i d) where
  pub sound_here : i < l.m → sound l.c (length K) (edit_of (entry_of l i)) ≡ true
  sound_here h = s.each (entry_of l i) (rw (from_step l i h) (mem_here refl))

  pub onward : i < l.m → fine l i K d ≡ true → Fitting l K (i + 1) (head_of (entry_of l i))
  onward h g = record {
    each = λ e k. s.each e (rw (from_step l i h) (mem_next k));
    placed = s.placed ∙ rw (fit_step l i K d h g) (omega arith);
  }

  pub stop : i < l.m → fine l i K d ≡ false → i ≡ fit_place K (edits l)
  stop h g = omega (arith, s.placed, fit_stop l i K d h g)

  pub end : l.m ≤ i → i ≡ fit_place K (edits l)
  end h = omega (arith, s.placed, fit_end l i K d h)
