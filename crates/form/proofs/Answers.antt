-- What a call answers whose first rows of the refusal table are those of the form check.
-- Assumes nothing.
use Prim.Native.Nat.{ℕ, ◌+◌}
use native.Mathlib.Nat.{zero-add}
use mathlib.Core.Path.{◌≡◌, refl, sym, ap, ◌∙◌}
use mathlib.Core.Bool.{Bool, true, false, cond, ◌&&◌}
use mathlib.Core.List.{List, ◌∷◌, ◌++◌}
use lib.ListN.{length}
use Rattle.words.specs.declared.Cause.TheVariants.{BadArguments, BadForm}
use Rattle.std.specs.Prelude.{Ok, Err}
use Rattle.words.specs.declared.Refusal.{Refusal}
use Rattle.model.specs.Layer.{rows_after}
use Rattle.model.specs.Raw.{entries_of, layer_of}
use Rattle.model.specs.Form.{args_ok, form_place}
use Rattle.model.specs.Refusals.{Test, first_met, bad_form, breaks_form}
use Rattle.words.specs.Answer.{refusal}
use Rattle.model.specs.Calls.{form_rows, form_answer}
use Rattle.theory.proofs.Stages.{onward, raised, stage, own_refused, own_passed}

-- a call whose arguments are those of the form check
pub after_form_lem : {A : Type 0} (refused : Refusal → A) (c n m : ℕ) (xs : List ℕ) (tests : List Test) (z : A)
    → first_met refused (form_rows (args_ok c n m (length xs)) c n m xs ++ tests) z
    ≡ onward refused (form_answer c n m xs) (first_met refused tests z)
unfolding form_answer
after_form_lem refused c n m xs tests z =
    stage refused (form_rows (args_ok c n m (length xs)) c n m xs) tests (rows_after n (layer_of c m xs)) z

-- a call with an argument of its own besides
module _ {A : Type 0} (refused : Refusal → A) (c n m : ℕ) (xs : List ℕ) (own : Bool) (tests : List Test) (z : A) where
  abbrev pub form_call : A
  form_call = first_met refused (form_rows (args_ok c n m (length xs) && own) c n m xs ++ tests) z

  pub own_argument : own ≡ false → refused (refusal BadArguments 0) ≡ form_call
  own_argument h = own_refused refused (args_ok c n m (length xs)) own (bad_form 0 c n m xs ∷ tests) z h

  pub after_own : own ≡ true → form_call ≡ onward refused (form_answer c n m xs) (first_met refused tests z)
  after_own h =
      sym (own_passed refused (args_ok c n m (length xs)) own (bad_form 0 c n m xs ∷ tests) z h)
      ∙ after_form_lem refused c n m xs tests z

-- a later row that is the form check of another layer, whose arguments have passed
pub form_row : {A : Type 0} (refused : Refusal → A) (more c n m : ℕ) (xs : List ℕ) (tests : List Test) (z : A)
    → args_ok c n m (length xs) ≡ true
    → first_met refused (bad_form more c n m xs ∷ tests) z
    ≡ onward (λ x. refused (raised more x)) (form_answer c n m xs) (first_met refused tests z)
unfolding form_answer
form_row refused more c n m xs tests z ok = rw ok (by (breaks_form c n m xs))
  where
    p : ℕ
    p = form_place c n (entries_of c m xs)

    by : (b : Bool) → cond b (refused (refusal BadForm (more + p))) (first_met refused tests z)
        ≡ onward (λ x. refused (raised more x)) (cond b (Err (refusal BadForm (0 + p))) (Ok (rows_after n (layer_of c m xs))))
        (first_met refused tests z)
    by true = ap (λ (k : ℕ). refused (refusal BadForm (more + k))) (sym (zero-add p))
    by false = refl
