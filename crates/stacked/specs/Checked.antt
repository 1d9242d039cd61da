-- The rows of the refusal table for combining that both layers are checked by, and what is known where none of them is met.
use Rattle.words.specs.Answer.{Answer}
use Rattle.std.specs.Prelude.{◌≡◌, true, ◌&&◌, List, ◌++◌, ℕ, length, Ok, Err}
use Rattle.order.specs.Lists.{ascending}
use Rattle.model.specs.Layer.{rows_after}
use Rattle.model.specs.Raw.{layer_of}
use Rattle.model.specs.Form.{args_ok}
use Rattle.model.specs.Fit.{fits}
use Rattle.model.specs.Read.{keys_after}
use Rattle.model.specs.Refusals.{Test, first_met}
use Rattle.model.specs.Calls.{both_form_rows, both_fit_rows}
use Rattle.form.specs.InForm.{InForm}
use Rattle.over.specs.Over.{over, Named}

-- the rows for refusals 1 and 2, and for 3 and 4
abbrev pub formed : ℕ → List ℕ → ℕ → List ℕ → ℕ → List ℕ → List Test
formed c K mR rawR mW rawW =
    let n = length K in
    both_form_rows (args_ok c n mR (length rawR) && args_ok c n mW (length rawW)) c n mR rawR
    (rows_after n (layer_of c mR rawR)) mW rawW

abbrev pub fitted : ℕ → List ℕ → ℕ → List ℕ → ℕ → List ℕ → List Test
fitted c K mR rawR mW rawW =
    let R = layer_of c mR rawR in
    both_fit_rows K R (keys_after K R) (layer_of c mW rawW)

unfoldable pub fits_answer : ℕ → List ℕ → ℕ → List ℕ → ℕ → List ℕ → Answer
fits_answer c K mR rawR mW rawW = first_met Err (fitted c K mR rawR mW rawW) (Ok 0)

unfoldable pub both_answer : ℕ → List ℕ → ℕ → List ℕ → ℕ → List ℕ → Answer
both_answer c K mR rawR mW rawW =
    first_met Err (formed c K mR rawR mW rawW ++ fitted c K mR rawR mW rawW) (Ok 0)

-- both layers are in form
pub record Forms (c : ℕ) (K : List ℕ) (mR : ℕ) (rawR : List ℕ) (mW : ℕ) (rawW : List ℕ) : Type 0 where
  pub lower : InForm c (length K) mR rawR
  pub upper : InForm c (rows_after (length K) (layer_of c mR rawR)) mW rawW

-- the keys ascend and both fit, the upper one to the keys that the lower leaves
pub record Fits (c : ℕ) (K : List ℕ) (mR : ℕ) (rawR : List ℕ) (mW : ℕ) (rawW : List ℕ) : Type 0 where
  pub forms : Forms c K mR rawR mW rawW
  pub rising : ascending K ≡ true
  pub lower : fits K (layer_of c mR rawR) ≡ true
  pub upper : fits (keys_after K (layer_of c mR rawR)) (layer_of c mW rawW) ≡ true

-- where no row is met, the upper layer's entries concern these keys
abbrev pub NamedIf : Answer → ℕ → List ℕ → ℕ → List ℕ → ℕ → List ℕ → List ℕ → Type 0
NamedIf (Ok k) c K mR rawR mW rawW names = Named c (over c K mR rawR) mW rawW names
NamedIf (Err x) c K mR rawR mW rawW names = Unit {0}
