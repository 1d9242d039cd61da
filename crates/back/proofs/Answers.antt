-- The answer of the way back: refused as the form check refuses, then for its row number.
-- Assumes nothing.
use Prim.Native.Nat.{ℕ}
use mathlib.Core.Path.{◌≡◌}
use mathlib.Core.Bool.{cond}
use mathlib.Core.List.{List, [], ◌∷◌}
use lib.Dec.{leb}
use Rattle.words.specs.declared.Cause.TheVariants.{NoSuchRow}
use Rattle.std.specs.Prelude.{Ok, Err}
use Rattle.model.specs.Layer.{Layer, rows_after}
use Rattle.model.specs.Raw.{layer_of}
use Rattle.model.specs.Position.{back}
use Rattle.model.specs.Refusals.{bad_row}
use Rattle.words.specs.Answer.{refusal}
use Rattle.model.specs.Calls.{form_answer, back_answer}
use Rattle.theory.proofs.Stages.{onward}
use Rattle.form.proofs.Answers.{after_form_lem}

module _ (c n m : ℕ) (xs : List ℕ) (r : ℕ) where
  abbrev L : Layer
  L = layer_of c m xs

  pub back_checked : back_answer c n m xs r
      ≡ onward Err (form_answer c n m xs)
      (cond (leb (rows_after n L) r) (Err (refusal NoSuchRow 0)) (Ok (back n L r)))
  unfolding back_answer
  back_checked = after_form_lem Err c n m xs (bad_row n L r ∷ []) (Ok (back n L r))
