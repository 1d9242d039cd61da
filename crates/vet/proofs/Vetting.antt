-- What holds at the head of the one pass for form and fit, the ways on from there, and what its end says of the layer.
-- Assumes nothing.
use Prim.Native.Nat.{ℕ, ◌+◌, ◌≤◌, ◌<◌}
use native.Mathlib.Nat.{zero-add, zero-mul, sub-zero, min-eq_left, min-eq_right, min-le_right}
use native.Mathlib.Omega.{arith}
use mathlib.Core.Path.{◌≡◌, sym, subst, ◌∙◌}
use mathlib.Core.Bool.{true, false}
use mathlib.Core.List.{List}
use lib.ListN.{length}
use Rattle.order.proofs.Tests.{and_l, and_r}
use Rattle.words.specs.declared.Entry.{Entry}
use Rattle.model.specs.Raw.{entries_of, edit_of}
use Rattle.model.specs.Form.{zeros, sound}
use Rattle.theory.proofs.Raw.{entries_length}
use Rattle.head.specs.declared.Head.{Head}
use Rattle.head.specs.Head.{head_of}
use Rattle.entry.specs.declared.slice.Stored.{Stored}
use Rattle.entry.specs.Look.{entry_of, entries_from}
use Rattle.scan.specs.declared.Scan.{Scan}
use Rattle.scan.specs.Scan.{follows_kind, alone_good, good_after, good}
use Rattle.scan.specs.Pass.{fresh, passed}
use Rattle.scan.specs.Slice.{slice_entry}
use Rattle.scan.proofs.Scanning as scanning
use Rattle.scan.proofs.Scanning.{Scanning, add_first}
use Rattle.suit.specs.Suit.{fit_from}
use Rattle.suit.proofs.Looks.{change_first, fine, fit_step, fit_stop}
use Rattle.vet.specs.Vetted.{Vetted}

-- the entries of a stored layer
abbrev pub all_of : Stored → List Entry
all_of l = entries_of l.c l.m l.numbers.now

-- the form pass stands at entry i, and the first entry at fault with fit is what was passed and where it stands in what is
-- left
pub record Vetting (l : Stored) (K : List ℕ) (i : ℕ) (d e : Head) (seen : Scan) : Type 0 where
  pub form : Scanning l.c (length K) (all_of l) i d seen
  pub fit : fit_from K 0 0 0 (all_of l) ≡ i + fit_from K e.pos e.kind e.first (entries_from l i)

pub begin : (l : Stored) (K : List ℕ) → Vetting l K 0 add_first change_first fresh
begin l K = record {
  form = scanning.begin l.c (length K) (all_of l);
  fit = rw (zero-add, zero-mul, sub-zero);
}

module _ {l : Stored} {K : List ℕ} {i : ℕ} {d e : Head} {seen : Scan} (s : Vetting l K i d e seen) where
  within : i < l.m → i < length (all_of l)
  within h = omega (arith, entries_length l.c l.m 0 l.numbers.now)

  -- an entry that breaks no rule of form is one that fit may judge
  pub sound_here : good_after l.c (length K) d.pos d.kind (entry_of l i) ≡ true
      → sound l.c (length K) (edit_of (entry_of l i)) ≡ true
  unfolding alone_good
  sound_here g =
      let x = entry_of l i in
      and_r (zeros x) (sound l.c (length K) (edit_of x))
      (and_l (alone_good l.c (length K) x) (follows_kind d.pos d.kind x.pos x.kind) g)

  pub onward : i < l.m → good_after l.c (length K) d.pos d.kind (entry_of l i) ≡ true → fine l i K e ≡ true
      → Vetting l K (i + 1) (head_of (entry_of l i)) (head_of (entry_of l i)) (passed seen (entry_of l i).kind)
  onward h g f = record {
    form = subst (λ (x : Entry). Scanning l.c (length K) (all_of l) (i + 1) (head_of x) (passed seen x.kind))
        (slice_entry l i h) (scanning.onward s.form (within h) (rw (slice_entry l i h) g));
    fit = s.fit ∙ rw (fit_step l i K e h f) (omega arith);
  }

  pub misformed : i < l.m → good_after l.c (length K) d.pos d.kind (entry_of l i) ≡ false
      → Vetted l.c l.m l.numbers.now K seen.place seen.adds seen.strikes
  misformed h g =
      let w = (scanning.stop s.form (within h) (rw (slice_entry l i h) g)).0 in
      record {
        stops = w ∙ sym (min-eq_left (omega (arith, w, s.fit, s.form.here)));
        complete = λ k. absurd (omega (arith, s.form.here));
      }

  pub unfit : i < l.m → fine l i K e ≡ false → Vetted l.c l.m l.numbers.now K seen.place seen.adds seen.strikes
  unfit h f =
      let w : seen.place ≡ fit_from K 0 0 0 (all_of l) = omega (arith, s.fit, s.form.here, fit_stop l i K e h f) in
      record {
        stops = w ∙ sym (min-eq_right (omega (arith, w, s.form.placed)));
        complete = λ k. absurd (omega (arith, s.form.here));
      }

  pub end : l.m ≤ i → Vetted l.c l.m l.numbers.now K seen.place seen.adds seen.strikes
  end h =
      let w = scanning.end s.form (omega (arith, entries_length l.c l.m 0 l.numbers.now)) in
      record { stops = w.0 ∙ sym (min-eq_left (omega (arith, w.0, s.fit, s.form.here))); complete = λ k. w }

-- a pass that went to the end met no entry at fault with fit
pub all_fit : {c m : ℕ} {xs K : List ℕ} {place adds strikes : ℕ} → Vetted c m xs K place adds strikes → m ≤ place
    → m ≤ fit_from K 0 0 0 (entries_of c m xs)
all_fit {c} {m} {xs} {K} s h =
    omega (
      arith,
      s.stops,
      min-le_right (length (good c (length K) (entries_of c m xs))) (fit_from K 0 0 0 (entries_of c m xs)),
    )
