-- The answer of the read, case by case, from the answer of the form check; and what is known where the read is done.
-- Assumes nothing.
use Prim.Native.Nat.{ℕ, ◌≤◌, ◌<◌}
use native.Mathlib.Omega.{arith}
use mathlib.Core.Path.{◌≡◌, refl, sym, ap, ◌∙◌}
use mathlib.Core.Bool.{Bool, true, false}
use mathlib.Core.List.{List, [], ◌∷◌}
use lib.ListN.{length}
use lib.Dec.{ltb}
use borrow.Author.Tests.{lt-ltb, le-ltb, ltb-true, ltb-false}
use Rattle.words.specs.declared.Cause.TheVariants.{BadArguments, ShortBuffer}
use Rattle.std.specs.Prelude.{Ok, Err}
use Rattle.words.specs.declared.Refusal.{Refusal}
use Rattle.model.specs.Layer.{rows_after}
use Rattle.model.specs.Raw.{Held, layer_of}
use Rattle.model.specs.Refusals.{Test, refuse, first_met}
use Rattle.words.specs.Answer.{refusal, Answer}
use Rattle.model.specs.Calls.{form_answer, shown_column, written, read_answer, read_slice}
use Rattle.theory.proofs.Stages.{never_done, onward, reached, stage_passed}
use Rattle.form.proofs.Accepted.{Accepted, accepted}
use Rattle.form.proofs.Answers.{own_argument, after_own}
use Rattle.entry.specs.declared.slice.Stored.{Stored}
use Rattle.column.specs.Runs.{Ready, Readable}
use Rattle.column.proofs.Rows.{rows_shown}
use Rattle.read.proofs.Ready.{ready}

module _ (c m : ℕ) (raw xs : List ℕ) (j len : ℕ) where
  abbrev rows : ℕ
  rows = length (shown_column c m raw xs j)

  -- the call's own row: the room of the buffer
  abbrev short_buffer : List Test
  short_buffer = refuse ShortBuffer 0 (ltb len rows) ∷ []

  pub column_refused : c ≤ j → Err (refusal BadArguments 0) ≡ read_answer c m raw xs j len
  unfolding read_answer
  column_refused h = own_argument Err c (length xs) m raw (ltb j c) short_buffer (Ok rows) (le-ltb j c h)

  after_form_lem : j < c
      → read_answer c m raw xs j len
      ≡ onward Err (form_answer c (length xs) m raw) (first_met Err short_buffer (Ok rows))
  unfolding read_answer
  after_form_lem h = after_own Err c (length xs) m raw (ltb j c) short_buffer (Ok rows) (lt-ltb j c h)

  pub form_refused : (x : Refusal) → j < c → form_answer c (length xs) m raw ≡ Err x
      → Err x ≡ read_answer c m raw xs j len
  form_refused x h e = sym (after_form_lem h ∙ rw e)

  -- what is known where the read is done, with k rows
  pub record Finished (k : ℕ) : Type 0 where
    pub held : Held c m raw
    pub column : j < c
    pub ready : Ready j (length xs) 0 (layer_of c m raw)
    pub room : rows_after (length xs) (layer_of c m raw) ≤ len
    pub rows_are : length (shown_column c m raw xs j) ≡ k
    pub within : k ≤ len

  -- the form check counts the rows that are shown
  module _ (k : ℕ) (h : j < c) (e : form_answer c (length xs) m raw ≡ Ok k) where
    took : Accepted c (length xs) m raw k
    took = accepted c (length xs) m raw k e

    can_show : Ready j (length xs) 0 (layer_of c m raw)
    can_show = ready c (length xs) j (layer_of c m raw) took.each took.pairs

    pub counted : rows ≡ k
    counted = rows_shown j xs (layer_of c m raw) can_show ∙ sym took.shown

    pub short : len < k → Err (refusal ShortBuffer 0) ≡ read_answer c m raw xs j len
    short l = sym (after_form_lem h ∙ rw (e, lt-ltb len rows (omega (arith, counted))))

    pub enough : k ≤ len → Ok k ≡ read_answer c m raw xs j len
    enough l = sym (after_form_lem h ∙ rw (e, le-ltb len rows (omega (arith, counted)), counted))

    -- what is known then, where the buffer has room
    pub finished : k ≤ len → Finished k
    finished l = record {
      held = took.held;
      column = h;
      ready = can_show;
      room = omega (arith, took.shown);
      rows_are = counted;
      within = l;
    }

  pub done : (k : ℕ) → read_answer c m raw xs j len ≡ Ok k → Finished k
  done k d = by (ltb j c) refl
    where
      by : (b : Bool) → ltb j c ≡ b → Finished k
      by true t =
          let h = ltb-true j c t in
          let w = reached (form_answer c (length xs) m raw) (sym (after_form_lem h) ∙ d) in
          let p = stage_passed short_buffer rows k w.2 in
          let l : k ≤ len = omega (arith, ltb-false len rows p.0.0, p.1) in
          finished k h (w.1 ∙ ap Ok (sym (counted w.0 h w.1) ∙ p.1)) l
      by false t = never_done (column_refused (ltb-false j c t) ∙ d)

-- what the reader asks is what the form check has left
pub can_read : (l : Stored) (xs : List ℕ) (j len k : ℕ) → Finished l.c l.m l.numbers.now xs j len k → Readable l xs j len
can_read l xs j len k F = record { column = F.column; ready = F.ready; room = F.room }

-- what the buffer holds after an answer
pub slice_after : (c m : ℕ) (raw xs : List ℕ) (j : ℕ) (out : List ℕ) (r : Answer)
    → r ≡ read_answer c m raw xs j (length out)
    → written r (shown_column c m raw xs j) out ≡ read_slice c m raw xs j out
slice_after c m raw xs j out r e = ap (λ (a : Answer). written a (shown_column c m raw xs j) out) e
