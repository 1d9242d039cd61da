-- One step and the end of each loop of the fit check: ahead for a strike, over the entries.
-- Assumes nothing.
use Prim.Native.Nat.{ℕ, zero, suc, ◌+◌, ◌*◌, ◌-◌, ◌≤◌, ◌<◌}
use native.Mathlib.Nat.{suc-mul}
use native.Mathlib.Omega.{arith}
use mathlib.Core.Path.{◌≡◌, refl, sym, ap, ◌∙◌}
use mathlib.Core.Bool.{Bool, true, false, not, ◌&&◌, ◌||◌, and-true, or-false}
use mathlib.Core.List.{List, [], ◌∷◌}
use lib.ListN.{length, get_or}
use lib.Dec.{leb, ltb, eqb}
use borrow.Author.Tests.{le-leb, lt-leb, le-ltb, eq-eqb, ne_eqb, leb-false}
use Rattle.words.specs.declared.Entry.{Entry}
use Rattle.model.specs.Raw.{entries_at}
use Rattle.words.specs.Entry.{ADD, STRIKE}
use Rattle.model.specs.Fit.{above}
use Rattle.theory.proofs.Raw.{rest_step, rest_end}
use Rattle.head.specs.declared.Head.{Head}
use Rattle.entry.specs.declared.slice.Stored.{Stored}
use Rattle.entry.specs.Look.{entry_of, entries_from}
use Rattle.suit.specs.Suit.{first, struck_ahead, under_ahead, suits_ahead, rises_kind, add_fits, fits_after, fit_from}

-- K[s-1] < k
above_last : (K : List ℕ) (s k last : ℕ) → ((s ≡ 0 → ⊥) → last ≡ get_or K (s - 1) 0)
    → (eqb s 0 || ltb last k) ≡ above K s k
above_last K zero k last h = refl
above_last K (suc s) k last h =
    let z : suc s ≡ 0 → ⊥ = λ w. omega arith in
    let e : suc s - 1 ≡ s = omega arith in
    rw (ne_eqb (suc s) 0 z, h z, e)

-- k < K[s], or k = K[s] where row s is struck ahead
under_next : (K : List ℕ) (es : List Entry) (s k next : ℕ) → (s < length K → next ≡ get_or K s 0)
    → (leb (length K) s || (ltb k next || (eqb k next && struck_ahead s es))) ≡ under_ahead K es s k
unfolding under_ahead
under_next K es s k next h = go (leb (length K) s) refl
  where
    go : (t : Bool) → leb (length K) s ≡ t
        → (leb (length K) s || (ltb k next || (eqb k next && struck_ahead s es)))
        ≡ (leb (length K) s || (ltb k (get_or K s 0) || (eqb k (get_or K s 0) && struck_ahead s es)))
    go true e = rw (e)
    go false e = rw (h (leb-false (length K) s e))

-- an add that fits by the keys around its position
module _ (K : List ℕ) (e : Entry) (es : List Entry) (last next p q u : ℕ) where
  pub add_fits_lem : e.kind ≡ ADD → ((e.pos ≡ 0 → ⊥) → last ≡ get_or K (e.pos - 1) 0)
      → (e.pos < length K → next ≡ get_or K e.pos 0)
      → add_fits (length K) last next p q u e es ≡ fits_after K p q u e es
  unfolding add_fits suits_ahead
  add_fits_lem k h l =
      rw (
        above_last K e.pos (first e) last h,
        under_next K es e.pos (first e) next l,
        k,
      )

-- what is left of the test once the position is past the last key, the key is another than that there, or it is that one
module _ (n last next p q u : ℕ) (e : Entry) (es : List Entry) where
  abbrev low : Bool
  low = (eqb e.pos 0 || ltb last (first e)) && rises_kind p q u e.pos ADD (first e)

  swap : (a b r : Bool) → ((a && b) && r) ≡ ((a && r) && b)
  swap true true true = refl
  swap true true false = refl
  swap true false true = refl
  swap true false false = refl
  swap false b r = refl

  pub add_past : n ≤ e.pos → low ≡ add_fits n last next p q u e es
  unfolding add_fits
  add_past h = rw (le-leb n e.pos h) (sym (swap (eqb e.pos 0 || ltb last (first e)) true
      (rises_kind p q u e.pos ADD (first e)) ∙ and-true low))

  pub add_other : e.pos < n → (first e ≡ next → ⊥) → low && ltb (first e) next ≡ add_fits n last next p q u e es
  unfolding add_fits
  add_other h d = rw (lt-leb n e.pos h, ne_eqb (first e) next d, or-false)
      (sym (swap (eqb e.pos 0 || ltb last (first e)) (ltb (first e) next) (rises_kind p q u e.pos ADD (first e))))

  pub add_same : e.pos < n → first e ≡ next → low && struck_ahead e.pos es ≡ add_fits n last next p q u e es
  unfolding add_fits
  add_same h d = rw (lt-leb n e.pos h, le-ltb (first e) next (omega arith), eq-eqb (first e) next d)
      (sym (swap (eqb e.pos 0 || ltb last (first e)) (struck_ahead e.pos es)
      (rises_kind p q u e.pos ADD (first e))))

-- An entry alone, by its kind.
module _ (K : List ℕ) (e : Entry) (es : List Entry) where
  pub suits_strike : e.kind ≡ STRIKE → suits_ahead K e es ≡ eqb (get_or K e.pos 0) (first e)
  unfolding suits_ahead
  suits_strike h = rw (h)

  pub suits_change : (e.kind ≡ ADD → ⊥) → (e.kind ≡ STRIKE → ⊥) → suits_ahead K e es ≡ true
  unfolding suits_ahead
  suits_change g h = rw (ne_eqb e.kind ADD g, ne_eqb e.kind STRIKE h)

-- an entry that is no add may stand after any other
pub rises_other : (p q u s k v : ℕ) → (k ≡ ADD → ⊥) → rises_kind p q u s k v ≡ true
rises_other p q u s k v h = rw (ne_eqb k ADD h) (by (eqb p s) (eqb q ADD))
  where
    by : (a b : Bool) → not a || (not b || true) ≡ true
    by true true = refl
    by true false = refl
    by false b = refl

-- before the first entry stands, as it were, a change at position 0
abbrev pub change_first : Head
change_first = record { pos = 0; kind = 0; first = 0 }

-- The entries of a stored layer from number i on.
module _ (l : Stored) (i : ℕ) where
  pub from_step : i < l.m → entries_from l i ≡ entry_of l i ∷ entries_from l (i + 1)
  from_step h =
      rest_step l.c l.m i (i * (l.c + 2)) l.numbers.now h
      ∙ ap (λ (k : ℕ). entry_of l i ∷ entries_at l.c (l.m - (i + 1)) k l.numbers.now)
      (omega (arith, suc-mul i (l.c + 2)))

  pub from_end : l.m ≤ i → entries_from l i ≡ []
  from_end h = rest_end l.c l.m i (i * (l.c + 2)) l.numbers.now h

  pub ahead_step : (s : ℕ) → i < l.m → struck_ahead s (entries_from l i)
      ≡ (eqb (entry_of l i).pos s && (eqb (entry_of l i).kind STRIKE || struck_ahead s (entries_from l (i + 1))))
  unfolding struck_ahead
  ahead_step s h = rw (from_step h)

  pub ahead_end : (s : ℕ) → l.m ≤ i → struck_ahead s (entries_from l i) ≡ false
  unfolding struck_ahead
  ahead_end s h = rw (from_end h)

  -- entry i is judged with those after it
  abbrev pub fine : List ℕ → Head → Bool
  fine K d = fits_after K d.pos d.kind d.first (entry_of l i) (entries_from l i)

  module _ (K : List ℕ) (d : Head) where
    -- so many of them stand before the first that breaks a rule, after one with the head d
    abbrev pub places : ℕ
    places = fit_from K d.pos d.kind d.first (entries_from l i)

    pub fit_step : i < l.m → fine K d ≡ true
        → places
        ≡ suc (fit_from K (entry_of l i).pos (entry_of l i).kind (first (entry_of l i)) (entries_from l (i + 1)))
    unfolding fit_from
    fit_step h b = rw (from_step h, rw (from_step h) at b)

    pub fit_stop : i < l.m → fine K d ≡ false → places ≡ 0
    unfolding fit_from
    fit_stop h b = rw (from_step h, rw (from_step h) at b)

    pub fit_end : l.m ≤ i → places ≡ 0
    unfolding fit_from
    fit_end h = rw (from_end h)
