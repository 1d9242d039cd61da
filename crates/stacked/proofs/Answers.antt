-- The refusal table for combining: what each test of both layers answers, and what is known once all of them are passed.
-- Assumes nothing.
use mathlib.Core.Path.{◌≡◌, sym, ap, subst, ◌∙◌}
use mathlib.Core.Bool.{Bool, true, false, cond, ◌&&◌}
use mathlib.Core.List.{List, ◌∷◌, ◌++◌}
use Prim.Native.Nat.{ℕ, ◌+◌, ◌*◌, ◌≤◌, ◌<◌}
use native.Mathlib.Nat.{zero-add}
use native.Mathlib.Omega.{arith}
use lib.ListN.{length}
use lib.Dec.{leb, ltb}
use borrow.Author.Tests.{lt-ltb, le-ltb, le-leb, ltb-false, not-false}
use Rattle.words.specs.declared.Cause.TheVariants.{BadArguments, BadForm, KeysUnordered, BadFit}
use Rattle.std.specs.Prelude.{Ok, Err}
use Rattle.order.specs.Lists.{ascending}
use Rattle.order.proofs.Tests.{impossible, and_l, and_r, and_of, or_false}
use Rattle.words.specs.declared.Refusal.{Refusal}
use Rattle.model.specs.Limits.{most_columns, most_entries, most_rows}
use Rattle.model.specs.Layer.{Layer, rows_after}
use Rattle.model.specs.Raw.{entries_of, layer_of}
use Rattle.model.specs.Form.{args_ok, form_place}
use Rattle.model.specs.Fit.{fit_place}
use Rattle.model.specs.Read.{keys_after}
use Rattle.model.specs.Refusals.{first_met, bad_form, breaks_form}
use Rattle.words.specs.Answer.{refusal, Answer}
use Rattle.model.specs.Calls.{form_answer, combine_answer, combine_rows, combined_layer}
use Rattle.theory.proofs.Raw.{layer_length, form_place_lem, args_held}
use Rattle.theory.proofs.Fit.{fits_all}
use Rattle.theory.proofs.Stages.{onward, raised, stage, stage_passed}
use Rattle.form.specs.InForm.{InForm}
use Rattle.form.proofs.Accepted.{Accepted, accepted, in_form, in_form_by}
use Rattle.form.proofs.Answers.{after_own, form_row}
use Rattle.stacked.specs.Checked.{formed, fitted, fits_answer, both_answer, Forms, Fits}

-- the arguments pass over other rows too
other_rows : (c n k m len : ℕ) → args_ok c n m len ≡ true → k ≤ 4096 → args_ok c k m len ≡ true
unfolding args_ok
other_rows c n k m len h l =
    let a = leb m most_entries && leb (m * (c + 2)) len in
    let b = leb c most_columns && (leb n most_rows && a) in
    let t = and_r (leb 1 c) b h in
    let u = and_r (leb c most_columns) (leb n most_rows && a) t in
    and_of (leb 1 c) (leb c most_columns && (leb k most_rows && a)) (and_l (leb 1 c) b h)
    (and_of (leb c most_columns) (leb k most_rows && a) (and_l (leb c most_columns) (leb n most_rows && a) t)
    (and_of (leb k most_rows) a (le-leb k most_rows l) (and_r (leb n most_rows) a u)))

-- the place of a form refusal is at most the number of entries
place_upto : (c n m : ℕ) (xs : List ℕ) (y : Refusal) → args_ok c n m (length xs) ≡ true → form_answer c n m xs ≡ Err y
    → y.place ≤ m
unfolding form_answer
place_upto c n m xs y ok e = by (breaks_form c n m xs) (rw ok at e)
  where
    p : ℕ
    p = form_place c n (entries_of c m xs)

    by : (b : Bool) → cond b (Err (refusal BadForm (0 + p))) (Ok (rows_after n (layer_of c m xs))) ≡ Err y → y.place ≤ m
    by true z =
        let q : refusal BadForm (0 + p) ≡ y = cc in
        omega (arith, ap (λ (t : Refusal). t.place) q, form_place_lem c n m xs)
    by false z = impossible (cc)

pub upper_few : {c : ℕ} {K : List ℕ} {mR : ℕ} {rawR : List ℕ} {mW : ℕ} {rawW : List ℕ} → Forms c K mR rawR mW rawW → mW ≤ 512
upper_few {c} {K} {mR} {rawR} {mW} {rawW} f =
    let n = rows_after (length K) (layer_of c mR rawR) in
    (accepted c n mW rawW (rows_after n (layer_of c mW rawW)) f.upper).held.entries

module _ (c : ℕ) (K : List ℕ) (mR : ℕ) (rawR : List ℕ) (mW : ℕ) (rawW : List ℕ) where
  abbrev R : Layer
  R = layer_of c mR rawR

  abbrev W : Layer
  W = layer_of c mW rawW

  abbrev mid : ℕ
  mid = rows_after (length K) R

  -- refusals 3 and 4
  pub keys_refused : ascending K ≡ false → Err (refusal KeysUnordered 0) ≡ fits_answer c K mR rawR mW rawW
  unfolding fits_answer
  keys_refused h = rw (h)

  module _ (h : ascending K ≡ true) (p : ℕ) (e : p ≡ fit_place K R) where
    pub lower_refused : p < mR → Err (refusal BadFit p) ≡ fits_answer c K mR rawR mW rawW
    unfolding fits_answer
    lower_refused l = rw (h, layer_length c mR rawR, ← e, lt-ltb p mR l, zero-add)

    module _ (l : mR ≤ p) (q : ℕ) (f : q ≡ fit_place (keys_after K R) W) where
      pub upper_refused : q < mW → Err (refusal BadFit (1000 + q)) ≡ fits_answer c K mR rawR mW rawW
      unfolding fits_answer
      upper_refused u = rw (h, layer_length c mR rawR, ← e, le-ltb p mR l, layer_length c mW rawW, ← f, lt-ltb q mW u)

      pub fits_done : mW ≤ q → Ok 0 ≡ fits_answer c K mR rawR mW rawW
      unfolding fits_answer
      fits_done u = rw (h, layer_length c mR rawR, ← e, le-ltb p mR l, layer_length c mW rawW, ← f, le-ltb q mW u)

  -- refusal 1
  abbrev lower_args : Bool
  lower_args = args_ok c (length K) mR (length rawR)

  abbrev upper_args : Bool
  upper_args = args_ok c (length K) mW (length rawW)

  pub args_refused : lower_args && upper_args ≡ false → Err (refusal BadArguments 0) ≡ both_answer c K mR rawR mW rawW
  unfolding both_answer
  args_refused h = rw (h)

  module _ (ok : lower_args && upper_args ≡ true) where
    -- refusal 2, of the lower layer
    after_lower : both_answer c K mR rawR mW rawW ≡ onward Err (form_answer c (length K) mR rawR)
        (first_met Err (bad_form 1000 c mid mW rawW ∷ fitted c K mR rawR mW rawW) (Ok 0))
    unfolding both_answer
    after_lower =
        after_own Err c (length K) mR rawR upper_args (bad_form 1000 c mid mW rawW ∷ fitted c K mR rawR mW rawW) (Ok 0)
        (and_r lower_args upper_args ok)

    pub lower_form_refused : (x : Refusal) → form_answer c (length K) mR rawR ≡ Err x
        → Err x ≡ both_answer c K mR rawR mW rawW
    lower_form_refused x e = sym (after_lower ∙ rw e)

    module _ (rows : ℕ) (e : form_answer c (length K) mR rawR ≡ Ok rows) where
      low : Accepted c (length K) mR rawR rows
      low = accepted c (length K) mR rawR rows e

      -- the upper layer's arguments pass over the rows after the lower one too
      rows_ok : args_ok c mid mW (length rawW) ≡ true
      rows_ok =
          other_rows c (length K) mid mW (length rawW) (and_r lower_args upper_args ok) (omega (arith, low.shown, low.few))

      -- refusal 2, of the upper layer
      after_upper : both_answer c K mR rawR mW rawW
          ≡ onward (λ x. Err (raised 1000 x)) (form_answer c rows mW rawW) (fits_answer c K mR rawR mW rawW)
      unfolding fits_answer
      after_upper =
          after_lower
          ∙ (ap (λ (t : Answer). onward Err t
          (first_met Err (bad_form 1000 c mid mW rawW ∷ fitted c K mR rawR mW rawW) (Ok 0))) e
          ∙ (form_row Err 1000 c mid mW rawW (fitted c K mR rawR mW rawW) (Ok 0) rows_ok
          ∙ ap (λ (n : ℕ). onward (λ x. Err (raised 1000 x)) (form_answer c n mW rawW)
          (first_met Err (fitted c K mR rawR mW rawW) (Ok 0))) (sym low.shown)))

      pub upper_form_refused : (y : Refusal) → form_answer c rows mW rawW ≡ Err y
          → Err (refusal y.cause (1000 + y.place)) ≡ both_answer c K mR rawR mW rawW
      upper_form_refused y u = sym (after_upper ∙ rw u)

      pub upper_place : (y : Refusal) → form_answer c rows mW rawW ≡ Err y → y.place ≤ 512
      upper_place y u =
          omega (
            arith,
            place_upto c rows mW rawW y (subst (λ (n : ℕ). args_ok c n mW (length rawW) ≡ true) (sym low.shown) rows_ok) u,
            (args_held c (length K) mW rawW (and_r lower_args upper_args ok)).0.entries,
          )

      module _ (total : ℕ) (u : form_answer c rows mW rawW ≡ Ok total) where
        pub forms : Forms c K mR rawR mW rawW
        forms = record {
          lower = in_form c (length K) mR rawR rows e;
          upper = subst (λ (n : ℕ). InForm c n mW rawW) low.shown (in_form c rows mW rawW total u);
        }

        pub fits_answer_lem : fits_answer c K mR rawR mW rawW ≡ both_answer c K mR rawR mW rawW
        fits_answer_lem = sym (after_upper ∙ rw u)

  -- both layers are checked, then the rows of the call's own are looked at
  pub after_both : (len : ℕ) → combine_answer c K mR rawR mW rawW len
      ≡ onward Err (both_answer c K mR rawR mW rawW)
      (first_met Err (combine_rows c len K R W) (Ok (length (combined_layer c K mR rawR mW rawW))))
  unfolding combine_answer both_answer
  after_both len =
      stage Err (formed c K mR rawR mW rawW ++ fitted c K mR rawR mW rawW) (combine_rows c len K R W) 0
      (Ok (length (combined_layer c K mR rawR mW rawW)))

  pub both_refused : (len : ℕ) (x : Refusal) → both_answer c K mR rawR mW rawW ≡ Err x
      → Err x ≡ combine_answer c K mR rawR mW rawW len
  both_refused len x h = sym (after_both len ∙ rw h)

  -- where no row is met, both are in form and fit
  pub all_fit : (k : ℕ) → both_answer c K mR rawR mW rawW ≡ Ok k → Fits c K mR rawR mW rawW
  unfolding both_answer breaks_form
  all_fit k h =
      let w = (stage_passed (formed c K mR rawR mW rawW ++ fitted c K mR rawR mW rawW) 0 k h).0 in
      let ok : lower_args && upper_args ≡ true = not-false _ w.0 in
      let few : mid ≤ 4096 = ltb-false most_rows mid
      (or_false (ltb (form_place c (length K) (entries_of c mR rawR)) mR) (ltb most_rows mid) w.1.0).1 in
      record {
        forms = record {
          lower = in_form_by c (length K) mR rawR (and_l lower_args upper_args ok) w.1.0;
          upper = in_form_by c mid mW rawW
              (other_rows c (length K) mid mW (length rawW) (and_r lower_args upper_args ok) few) w.1.1.0;
        };
        rising = not-false _ w.1.1.1.0;
        lower = fits_all K R w.1.1.1.1.0;
        upper = fits_all (keys_after K R) W w.1.1.1.1.1.0;
      }
