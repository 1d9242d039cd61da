-- What strike answers and leaves: the first four refusals, then row by row.
-- Assumes nothing.
use Prim.Native.Nat.{ℕ, ◌≤◌, ◌<◌}
use native.Mathlib.Omega.{arith}
use mathlib.Core.Path.{◌≡◌}
use mathlib.Core.List.{List}
use lib.ListN.{length}
use borrow.Author.Tests.{le-leb, lt-leb}
use Rattle.words.specs.declared.Cause.TheVariants.{NoSuchRow}
use Rattle.std.specs.Prelude.{Ok, Err}
use Rattle.words.specs.declared.Refusal.{Refusal}
use Rattle.model.specs.Layer.{Layer, rows_after}
use Rattle.model.specs.Raw.{Held, layer_of}
use Rattle.model.specs.Edits.{strike_row}
use Rattle.model.specs.Position.{back}
use Rattle.model.specs.Refusals.{first_met}
use Rattle.words.specs.Answer.{refusal, Answer}
use Rattle.model.specs.Calls.{ready_answer, strike_rows, strike_answer, strike_slice}
use Rattle.theory.proofs.Stages.{onward}
use Rattle.fit.specs.Ready.{Ready}
use Rattle.fit.proofs.Answers.{after_ready}
use Rattle.splice.specs.declared.Splice.{Splice}
use Rattle.splice.specs.Splice.{room_answer, if_done}
use Rattle.enter.specs.declared.Move.TheVariants.{Entries as entries}
use Rattle.enter.specs.Move.{Within, entered, count_after}
use Rattle.write.specs.Plans.{Plans}
use Rattle.landing.proofs.Known.{known}
use Rattle.plan.specs.Moves.{strike_splice}
use Rattle.plan.proofs.Planned.{strike_splices}
use Rattle.plan.proofs.Answers.{
  planned,
  may_enter,
  refused_first,
  passed_ready,
  passed_shown,
  refused_here,
  enters_here,
}

module _ (c m : ℕ) (raw K : List ℕ) (r : ℕ) where
  abbrev L : Layer
  L = layer_of c m raw

  abbrev struck_to : Layer
  struck_to = strike_row K r L

  abbrev rest : Answer
  rest = first_met Err (strike_rows c (length raw) K L r) (Ok (length struck_to))

  abbrev Left : Answer → List ℕ → Type 0
  Left s new = (s ≡ strike_answer c m raw K r) × (new ≡ strike_slice c m raw K r)

  staged : strike_answer c m raw K r ≡ onward Err (ready_answer c m raw K) rest
  unfolding strike_answer
  staged = after_ready Err c m raw K (strike_rows c (length raw) K L r) (Ok (length struck_to))

  -- t is what the check answers
  module _ {t : Answer} (asked : t ≡ ready_answer c m raw K) where
    pub strike_first : {x : Refusal} → t ≡ Err x → (s : Answer) → s ≡ Err x → Left s raw
    strike_first = refused_first c m raw K rest staged struck_to asked

    module _ {k : ℕ} (h : t ≡ Ok k) where
      shown : k ≡ rows_after (length K) L
      shown = passed_shown c m raw K asked h

      pub strike_no_row : k ≤ r → (s : Answer) → s ≡ Err (refusal NoSuchRow 0) → Left s raw
      strike_no_row l =
          refused_here c m raw K rest staged struck_to asked h (refusal NoSuchRow 0)
          (rw (le-leb (rows_after (length K) L) r (omega (arith, shown))))

      -- the row is shown
      module _ (l : r < k) where
        pub strike_asks : Ready c m raw K × (r < rows_after (length K) L)
        strike_asks = (passed_ready c m raw K asked h, omega (arith, shown))

        module _ {p : Splice} (is : p ≡ strike_splice K L (back (length K) L r)) where
          plans : Plans c L struck_to (entries p)
          plans = planned is (strike_splices (known strike_asks.0) r strike_asks.1)

          pub strike_may : Held c m raw × Within c m (entries p)
          strike_may = may_enter (known strike_asks.0) plans

          pub strike_enters : (s : Answer) (new : List ℕ)
              → (s ≡ room_answer c (length raw) (count_after m (entries p)))
              × (new ≡ if_done s (entered c m (entries p) raw) raw)
              → Left s new
          strike_enters =
              enters_here c m raw K rest staged struck_to asked h
              (rw (lt-leb (rows_after (length K) L) r strike_asks.1)) plans
