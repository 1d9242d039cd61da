-- What change answers and leaves: the first four refusals, then row by row.
-- Assumes nothing.
use Prim.Native.Nat.{ℕ, ◌≤◌, ◌<◌}
use native.Mathlib.Omega.{arith}
use mathlib.Core.Path.{◌≡◌}
use mathlib.Core.List.{List}
use lib.ListN.{length}
use lib.Dec.{ltb}
use borrow.Author.Tests.{lt-ltb, le-ltb, le-leb, lt-leb, eq-eqb, ne_eqb}
use Rattle.words.specs.declared.Cause.TheVariants.{BadArguments, NoSuchRow, KeyColumn}
use Rattle.std.specs.Prelude.{Ok, Err}
use Rattle.words.specs.declared.Refusal.{Refusal}
use Rattle.words.specs.Answer.{refusal, Answer}
use Rattle.model.specs.Cell.{to}
use Rattle.model.specs.Layer.{Layer, rows_after}
use Rattle.model.specs.Raw.{Held, layer_of}
use Rattle.model.specs.Edits.{change_row_no}
use Rattle.model.specs.Refusals.{first_met}
use Rattle.model.specs.Calls.{ready_answer, change_rows, change_answer, change_slice}
use Rattle.theory.proofs.Stages.{onward}
use Rattle.fit.specs.Ready.{Ready}
use Rattle.fit.proofs.Answers.{own_argument, after_own}
use Rattle.splice.specs.Splice.{room_answer, if_done}
use Rattle.enter.specs.declared.Move.{Move}
use Rattle.enter.specs.Move.{Within, entered, count_after}
use Rattle.write.specs.Plans.{Plans}
use Rattle.landing.proofs.Known.{known}
use Rattle.plan.proofs.Answers.{
  may_enter,
  refuses,
  refused_first,
  passed_ready,
  passed_shown,
  refused_here,
  enters_here,
}

module _ (c m : ℕ) (raw K : List ℕ) (r j v : ℕ) where
  abbrev L : Layer
  L = layer_of c m raw

  abbrev shown : ℕ
  shown = rows_after (length K) L

  abbrev changed_to : Layer
  changed_to = change_row_no K r j (to v) L

  abbrev rest : Answer
  rest = first_met Err (change_rows c (length raw) K L r j (to v)) (Ok (length changed_to))

  abbrev Left : Answer → List ℕ → Type 0
  Left s new = (s ≡ change_answer c m raw K r j v) × (new ≡ change_slice c m raw K r j v)

  pub change_no_column : c ≤ j → (s : Answer) → s ≡ Err (refusal BadArguments 0) → Left s raw
  unfolding change_answer
  change_no_column h s f =
      refuses c m raw (change_answer c m raw K r j v) changed_to s (refusal BadArguments 0) f
      (own_argument Err c m raw K (ltb j c) (change_rows c (length raw) K L r j (to v)) (Ok (length changed_to))
      (le-ltb j c h))

  -- there is a column j, and t is what the check answers
  module _ (column : j < c) {t : Answer} (asked : t ≡ ready_answer c m raw K) where
    staged : change_answer c m raw K r j v ≡ onward Err (ready_answer c m raw K) rest
    unfolding change_answer
    staged =
        after_own Err c m raw K (ltb j c) (change_rows c (length raw) K L r j (to v)) (Ok (length changed_to))
        (lt-ltb j c column)

    pub change_first : {x : Refusal} → t ≡ Err x → (s : Answer) → s ≡ Err x → Left s raw
    change_first = refused_first c m raw K rest staged changed_to asked

    module _ {k : ℕ} (h : t ≡ Ok k) where
      count : k ≡ shown
      count = passed_shown c m raw K asked h

      refused : (x : Refusal) → Err x ≡ rest → (s : Answer) → s ≡ Err x → Left s raw
      refused = refused_here c m raw K rest staged changed_to asked h

      pub change_no_row : k ≤ r → (s : Answer) → s ≡ Err (refusal NoSuchRow 0) → Left s raw
      change_no_row l = refused (refusal NoSuchRow 0) (rw (le-leb shown r (omega (arith, count))))

      -- the row is shown
      module _ (l : r < k) where
        below : r < shown
        below = omega (arith, count)

        pub change_key : j ≡ 0 → (s : Answer) → s ≡ Err (refusal KeyColumn 0) → Left s raw
        change_key e = refused (refusal KeyColumn 0) (rw (lt-leb shown r below, eq-eqb j 0 e))

        -- the column is not the key's
        module _ (ne : j ≡ 0 → ⊥) where
          pub change_asks : Ready c m raw K × (r < shown) × (1 ≤ j) × (j < c)
          change_asks = (passed_ready c m raw K asked h, below, omega (arith, ne), column)

          module _ {x : Move} (P : Plans c L changed_to x) where
            pub change_may : Held c m raw × Within c m x
            change_may = may_enter (known change_asks.0) P

            pub change_enters : (s : Answer) (new : List ℕ) → (s ≡ room_answer c (length raw) (count_after m x))
                × (new ≡ if_done s (entered c m x raw) raw)
                → Left s new
            change_enters =
                enters_here c m raw K rest staged changed_to asked h (rw (lt-leb shown r below, ne_eqb j 0 ne)) P
