-- What add answers and leaves: the first four refusals, then row by row.
-- Assumes nothing.
use Prim.Native.Nat.{ℕ, suc, ◌+◌, ◌≤◌, ◌<◌}
use native.Mathlib.Omega.{arith}
use mathlib.Core.Path.{◌≡◌, sym, ◌∙◌}
use mathlib.Core.Bool.{Bool, true, false}
use mathlib.Core.List.{List}
use lib.ListN.{length}
use lib.Dec.{eqb}
use borrow.Author.Tests.{lt-ltb, le-ltb, eq-eqb, ne_eqb}
use Rattle.words.specs.declared.Cause.TheVariants.{BadArguments, KeyShown, NoRoom, TooManyRows}
use Rattle.std.specs.Prelude.{Ok, Err}
use Rattle.order.proofs.Counts.{count_insert}
use Rattle.words.specs.declared.Refusal.{Refusal}
use Rattle.model.specs.Row.{Row, key}
use Rattle.model.specs.Layer.{Layer, at, add, is_add, is_strike, rows_after}
use Rattle.model.specs.Raw.{Held, layer_of, room}
use Rattle.model.specs.Fit.{keys_below}
use Rattle.model.specs.Read.{keys_after}
use Rattle.model.specs.Edits.{before, add_row}
use Rattle.model.specs.Refusals.{first_met, shown_key}
use Rattle.words.specs.Answer.{refusal, Answer}
use Rattle.model.specs.Calls.{ready_answer, add_rows, add_answer, add_slice}
use Rattle.theory.proofs.Edited.{add_length}
use Rattle.theory.proofs.Stages.{onward}
use Rattle.fit.specs.Ready.{Ready}
use Rattle.fit.proofs.Answers.{own_argument, after_own}
use Rattle.splice.specs.declared.Splice.{Splice}
use Rattle.splice.specs.Splice.{room_answer, if_done}
use Rattle.enter.specs.declared.Move.TheVariants.{Entries as entries}
use Rattle.enter.specs.Move.{Within, entered, count_after}
use Rattle.write.specs.Plans.{Plans}
use Rattle.landing.proofs.Known.{Known, known}
use Rattle.plan.specs.Moves.{add_splice}
use Rattle.plan.proofs.Planned.{add_splices}
use Rattle.plan.proofs.Answers.{
  planned,
  may_enter,
  refuses,
  refused_first,
  passed_ready,
  passed_shown,
  refused_here,
  enters_here,
}

module _ (c m : ℕ) (raw K : List ℕ) (row : Row) where
  abbrev L : Layer
  L = layer_of c m raw

  abbrev shown : ℕ
  shown = rows_after (length K) L

  abbrev added : Layer
  added = add_row K row L

  abbrev rest : Answer
  rest = first_met Err (add_rows c (length raw) K L row) (Ok (length added))

  abbrev Left : Answer → List ℕ → Type 0
  Left s new = (s ≡ add_answer c m raw K row) × (new ≡ add_slice c m raw K row)

  pub add_not_wide : (length row ≡ c → ⊥) → (s : Answer) → s ≡ Err (refusal BadArguments 0) → Left s raw
  unfolding add_answer
  add_not_wide h s f =
      refuses c m raw (add_answer c m raw K row) added s (refusal BadArguments 0) f
      (own_argument Err c m raw K (eqb (length row) c) (add_rows c (length raw) K L row) (Ok (length added))
      (ne_eqb (length row) c h))

  -- the row has c values, and t is what the check answers
  module _ (wide : length row ≡ c) {t : Answer} (asked : t ≡ ready_answer c m raw K) where
    staged : add_answer c m raw K row ≡ onward Err (ready_answer c m raw K) rest
    unfolding add_answer
    staged =
        after_own Err c m raw K (eqb (length row) c) (add_rows c (length raw) K L row) (Ok (length added))
        (eq-eqb (length row) c wide)

    pub add_first : {x : Refusal} → t ≡ Err x → (s : Answer) → s ≡ Err x → Left s raw
    add_first = refused_first c m raw K rest staged added asked

    module _ {k : ℕ} (h : t ≡ Ok k) where
      pub knows : Known c m raw K
      knows = known (passed_ready c m raw K asked h)

      pub add_asks : Ready c m raw K × (length row ≡ c)
      add_asks = (passed_ready c m raw K asked h, wide)

      refused : (x : Refusal) → Err x ≡ rest → (s : Answer) → s ≡ Err x → Left s raw
      refused = refused_here c m raw K rest staged added asked h

      -- as many rows are shown, as many entries and one row more after it
      counted : (k ≡ shown) × (length L ≡ m) × (length added ≡ suc (length L))
          × (rows_after (length K) added ≡ suc shown)
      unfolding add_row
      counted = (
        passed_shown c m raw K asked h,
        knows.acc.size,
        add_length K row L,
        omega (
          arith,
          count_insert is_add before (at (keys_below (key row) K) (add row)) L,
          count_insert is_strike before (at (keys_below (key row) K) (add row)) L,
          knows.acc.strikes,
        ),
      )

      plans : {p : Splice} → p ≡ add_splice K L row → Plans c L added (entries p)
      plans is = planned is (add_splices knows row wide)

      pub add_may : {p : Splice} → p ≡ add_splice K L row → Held c m raw × Within c m (entries p)
      add_may is = may_enter knows (plans is)

      -- whether the key is shown
      module _ {b : Bool} (is : b ≡ shown_key (key row) (keys_after K L)) where
        pub add_shown : b ≡ true → (s : Answer) → s ≡ Err (refusal KeyShown 0) → Left s raw
        add_shown g =
            let w : shown_key (key row) (keys_after K L) ≡ true = sym is ∙ g in
            refused (refusal KeyShown 0) (rw w)

        module _ (g : b ≡ false) where
          free : shown_key (key row) (keys_after K L) ≡ false
          free = sym is ∙ g

          pub add_no_room : {n : ℕ} → n ≡ room c (length raw) → n < m + 1 → (s : Answer)
              → s ≡ Err (refusal NoRoom 0) → Left s raw
          add_no_room e l =
              refused (refusal NoRoom 0)
              (rw (free, lt-ltb (room c (length raw)) (length added) (omega (arith, counted.1, counted.2))))

          pub add_too_many : {n : ℕ} → n ≡ room c (length raw) → m + 1 ≤ n → 4096 ≤ k
              → (s : Answer) → s ≡ Err (refusal TooManyRows 0) → Left s raw
          add_too_many e l o =
              refused (refusal TooManyRows 0)
              (rw (
                free,
                le-ltb (room c (length raw)) (length added) (omega (arith, counted.1, counted.2)),
                lt-ltb 4096 (rows_after (length K) added) (omega (arith, counted.0, counted.3)),
              ))

          pub add_enters : k < 4096 → {p : Splice} → p ≡ add_splice K L row → (s : Answer) (new : List ℕ)
              → (s ≡ room_answer c (length raw) (count_after m (entries p)))
              × (new ≡ if_done s (entered c m (entries p) raw) raw)
              → Left s new
          add_enters l is =
              enters_here c m raw K rest staged added asked h
              (rw (free, le-ltb 4096 (rows_after (length K) added) (omega (arith, counted.0, counted.3))))
              (plans is)
