-- What a call answers whose first rows of the refusal table are those of the fit check; and what is known where it goes on.
-- Assumes nothing.
use Prim.Native.Nat.{ℕ, ◌≤◌, ◌<◌}
use native.Mathlib.Nat.{zero-add}
use native.Mathlib.Omega.{arith}
use mathlib.Core.Path.{◌≡◌, refl, sym, ap, ◌∙◌}
use mathlib.Core.Bool.{Bool, true, false, ◌&&◌}
use mathlib.Core.List.{List, ◌∷◌, ◌++◌}
use lib.ListN.{length}
use borrow.Author.Tests.{lt-ltb, le-ltb, eqb-true, not-false}
use Rattle.words.specs.declared.Cause.TheVariants.{BadArguments, KeysUnordered, BadFit}
use Rattle.std.specs.Prelude.{Ok, Err}
use Rattle.order.specs.Lists.{ascending}
use Rattle.words.specs.declared.Refusal.{Refusal}
use Rattle.model.specs.Layer.{Layer, rows_after}
use Rattle.model.specs.Raw.{layer_of}
use Rattle.model.specs.Form.{args_ok}
use Rattle.model.specs.Fit.{fit_place, fits}
use Rattle.model.specs.Refusals.{Test, first_met, bad_form}
use Rattle.words.specs.Answer.{refusal}
use Rattle.model.specs.Calls.{form_rows, fit_rows, form_answer, ready_answer, fit_answer}
use Rattle.theory.proofs.Raw.{layer_length}
use Rattle.theory.proofs.Fit.{fits_all}
use Rattle.theory.proofs.Stages.{onward, stage, stage_other, stage_same, own_refused, own_passed, stage_passed, reached}
use Rattle.form.proofs.Accepted.{Accepted, accepted, in_form}
use Rattle.fit.specs.Ready.{Ready}

-- a call whose arguments are those of the fit check
module _ {A : Type 0} (refused : Refusal → A) (c m : ℕ) (xs K : List ℕ) where
  abbrev rows : Bool → List Test
  rows ok = form_rows ok c (length K) m xs ++ fit_rows K (layer_of c m xs)

  pub after_ready : (tests : List Test) (z : A) → first_met refused (rows (args_ok c (length K) m (length xs)) ++ tests) z
      ≡ onward refused (ready_answer c m xs K) (first_met refused tests z)
  unfolding ready_answer
  after_ready tests z =
      stage refused (rows (args_ok c (length K) m (length xs))) tests (rows_after (length K) (layer_of c m xs)) z

  -- a call with an argument of its own besides
  module _ (own : Bool) (tests : List Test) (z : A) where
    abbrev pub fit_call : A
    fit_call = first_met refused (rows (args_ok c (length K) m (length xs) && own) ++ tests) z

    pub own_argument : own ≡ false → refused (refusal BadArguments 0) ≡ fit_call
    own_argument h =
        own_refused refused (args_ok c (length K) m (length xs)) own
        (bad_form 0 c (length K) m xs ∷ (fit_rows K (layer_of c m xs) ++ tests)) z h

    pub after_own : own ≡ true → fit_call ≡ onward refused (ready_answer c m xs K) (first_met refused tests z)
    after_own h =
        sym (own_passed refused (args_ok c (length K) m (length xs)) own
        (bad_form 0 c (length K) m xs ∷ (fit_rows K (layer_of c m xs) ++ tests)) z h)
        ∙ after_ready tests z

-- The answer of the check, case by case.
module _ (c m : ℕ) (xs K : List ℕ) where
  abbrev L : Layer
  L = layer_of c m xs

  abbrev n : ℕ
  n = length K

  by_form : ready_answer c m xs K ≡ onward Err (form_answer c n m xs) (first_met Err (fit_rows K L) (Ok (rows_after n L)))
  unfolding ready_answer form_answer
  by_form = stage Err (form_rows (args_ok c n m (length xs)) c n m xs) (fit_rows K L) (rows_after n L) (Ok (rows_after n L))

  pub form_refused : (x : Refusal) → form_answer c n m xs ≡ Err x → Err x ≡ ready_answer c m xs K
  form_refused x h = sym (by_form ∙ rw h)

  module _ (k : ℕ) (f : form_answer c n m xs ≡ Ok k) where
    pub keys_refused : ascending K ≡ false → Err (refusal KeysUnordered 0) ≡ ready_answer c m xs K
    keys_refused h = sym (by_form ∙ rw (f, h))

    module _ (a : ascending K ≡ true) (p : ℕ) (e : p ≡ fit_place K L) where
      pub place_refused : p < m → Err (refusal BadFit p) ≡ ready_answer c m xs K
      place_refused h = sym (by_form ∙ rw (f, a, layer_length c m xs, ← e, lt-ltb p m h, zero-add))

      pub ready_done : m ≤ p → Ok k ≡ ready_answer c m xs K
      ready_done h =
          ap Ok (accepted c n m xs k f).shown
          ∙ sym (by_form ∙ rw (f, a, layer_length c m xs, ← e, le-ltb p m h))

  -- fit answers as the check does, but for the result
  pub fit_refused : (x : Refusal) → ready_answer c m xs K ≡ Err x → Err x ≡ fit_answer c m xs K
  unfolding ready_answer fit_answer
  fit_refused x h = sym (stage_same (form_rows (args_ok c n m (length xs)) c n m xs ++ fit_rows K L) (rows_after n L) 0 x h)

  pub fit_done : (k : ℕ) → ready_answer c m xs K ≡ Ok k → Ok 0 ≡ fit_answer c m xs K
  unfolding ready_answer fit_answer
  fit_done k h = sym (stage_other (form_rows (args_ok c n m (length xs)) c n m xs ++ fit_rows K L) (rows_after n L) k 0 h)

  pub fit_ready : (k : ℕ) → fit_answer c m xs K ≡ Ok k → ready_answer c m xs K ≡ Ok (rows_after n L)
  unfolding ready_answer fit_answer
  fit_ready k h = stage_other (form_rows (args_ok c n m (length xs)) c n m xs ++ fit_rows K L) 0 k (rows_after n L) h

  -- where the check passes, the layer is ready
  module _ (k : ℕ) (h : ready_answer c m xs K ≡ Ok k) where
    passed : (l : ℕ) × (form_answer c n m xs ≡ Ok l) × (first_met Err (fit_rows K L) (Ok (rows_after n L)) ≡ Ok k)
    passed = reached (form_answer c n m xs) (sym by_form ∙ h)

    pub rows_shown : k ≡ rows_after n L
    rows_shown = sym (stage_passed (fit_rows K L) (rows_after n L) k passed.2).1

    pub is_ready : Ready c m xs K
    is_ready =
        let w = (stage_passed (fit_rows K L) (rows_after n L) k passed.2).0 in
        record {
          form = in_form c n m xs passed.0 passed.1;
          keys = not-false (ascending K) w.0;
          fit = fits_all K L w.1.0;
        }

-- the same of a layer that fit accepts
pub fitted : (c m : ℕ) (xs K : List ℕ) (k : ℕ) → fit_answer c m xs K ≡ Ok k → Ready c m xs K
fitted c m xs K k h = is_ready c m xs K (rows_after (length K) (layer_of c m xs)) (fit_ready c m xs K k h)

-- and back
module _ {c m : ℕ} {xs K : List ℕ} (R : Ready c m xs K) where
  pub ready_accepts : ready_answer c m xs K ≡ Ok (rows_after (length K) (layer_of c m xs))
  unfolding fits
  ready_accepts =
      sym (ready_done c m xs K (rows_after (length K) (layer_of c m xs)) R.form R.keys (fit_place K (layer_of c m xs)) refl
      (omega (arith, eqb-true (fit_place K (layer_of c m xs)) (length (layer_of c m xs)) R.fit, layer_length c m xs)))

  pub ready_fits : fit_answer c m xs K ≡ Ok 0
  ready_fits = sym (fit_done c m xs K (rows_after (length K) (layer_of c m xs)) ready_accepts)

  pub ready_form : Accepted c (length K) m xs (rows_after (length K) (layer_of c m xs))
  ready_form = accepted c (length K) m xs (rows_after (length K) (layer_of c m xs)) R.form
