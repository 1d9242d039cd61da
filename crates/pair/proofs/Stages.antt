-- The two checks of a pair of layers, test by test: arguments and form, then keys and fit; X before Y.
-- Assumes nothing.
use Prim.Native.Nat.{ℕ, ◌+◌, ◌≤◌, ◌<◌}
use native.Mathlib.Nat.{zero-add}
use native.Mathlib.Omega.{arith}
use mathlib.Core.Path.{◌≡◌, sym, ap, ◌∙◌}
use mathlib.Core.Bool.{Bool, true, false, cond, ◌&&◌}
use mathlib.Core.List.{List, [], ◌∷◌}
use lib.ListN.{length}
use borrow.Author.Tests.{not-false, lt-ltb, le-ltb}
use Rattle.words.specs.declared.Cause.TheVariants.{BadArguments, BadForm, KeysUnordered, BadFit}
use Rattle.std.specs.Prelude.{Ok, Err}
use Rattle.order.specs.Lists.{ascending}
use Rattle.order.proofs.Tests.{and_l, and_r, impossible}
use Rattle.words.specs.declared.Refusal.{Refusal}
use Rattle.model.specs.Layer.{rows_after}
use Rattle.model.specs.Raw.{entries_of, layer_of}
use Rattle.model.specs.Form.{form_place, args_ok}
use Rattle.model.specs.Fit.{fit_place}
use Rattle.model.specs.Refusals.{first_met, bad_form, breaks_form}
use Rattle.words.specs.Answer.{refusal, Answer}
use Rattle.model.specs.Calls.{both_fit_rows, form_answer}
use Rattle.theory.proofs.Raw.{layer_length, form_place_lem, args_held}
use Rattle.theory.proofs.Stages.{onward, raised, stage_refuses, stage_done, Passed, stage_passed}
use Rattle.form.specs.InForm.{InForm}
use Rattle.form.proofs.Accepted.{accepted, in_form_by}
use Rattle.form.proofs.Answers.{form_row}
use Rattle.pair.specs.Pair.{pair_form, pair_rows, pair_total}

placed : (t : Bool) (p k : ℕ) (r : Refusal) → cond t (Err (refusal BadForm p)) (Ok k) ≡ Err r → r.place ≡ p
placed true p k r h = cc
placed false p k r h = impossible (cc)

-- arguments and form
module _ (c n mx : ℕ) (x : List ℕ) (my : ℕ) (y : List ℕ) where
  abbrev pub formed : Answer
  formed = first_met Err (pair_form c n mx x my y) (Ok (pair_total c n mx x my y))

  pub args_refused : (args_ok c n mx (length x) && args_ok c n my (length y)) ≡ false → Err (refusal BadArguments 0) ≡ formed
  unfolding pair_form
  args_refused h = rw h

  module _ (ok : (args_ok c n mx (length x) && args_ok c n my (length y)) ≡ true) where
    ok_mine : args_ok c n mx (length x) ≡ true
    ok_mine = and_l (args_ok c n mx (length x)) (args_ok c n my (length y)) ok

    ok_theirs : args_ok c n my (length y) ≡ true
    ok_theirs = and_r (args_ok c n mx (length x)) (args_ok c n my (length y)) ok

    form_rows_lem : formed
        ≡ onward (λ r. Err (raised 0 r)) (form_answer c n mx x)
        (onward (λ r. Err (raised 1000 r)) (form_answer c n my y) (Ok (pair_total c n mx x my y)))
    unfolding pair_form
    form_rows_lem =
        rw ok (form_row Err 0 c n mx x (bad_form 1000 c n my y ∷ []) (Ok (pair_total c n mx x my y)) ok_mine
        ∙ ap (onward (λ r. Err (raised 0 r)) (form_answer c n mx x))
        (form_row Err 1000 c n my y [] (Ok (pair_total c n mx x my y)) ok_theirs))

    pub mine_refused : (r : Refusal) → form_answer c n mx x ≡ Err r → Err r ≡ formed
    mine_refused r h = sym (form_rows_lem ∙ rw (h, zero-add))

    module _ (k : ℕ) (f : form_answer c n mx x ≡ Ok k) where
      pub theirs_place : (r : Refusal) → form_answer c n my y ≡ Err r → r.place ≤ 512
      unfolding form_answer
      theirs_place r h =
          omega (
            arith,
            placed (breaks_form c n my y) (0 + form_place c n (entries_of c my y)) (rows_after n (layer_of c my y)) r
                (rw ok_theirs at h),
            form_place_lem c n my y,
            (args_held c n my y ok_theirs).0.entries,
          )

      pub theirs_refused : (r : Refusal) → form_answer c n my y ≡ Err r
          → Err (refusal r.cause (1000 + r.place)) ≡ formed
      theirs_refused r h = sym (form_rows_lem ∙ rw (f, h))

      pub both_formed : (l : ℕ) → form_answer c n my y ≡ Ok l → Ok (k + l) ≡ formed
      both_formed l h =
          rw ((accepted c n mx x k f).shown, (accepted c n my y l h).shown) (sym (form_rows_lem ∙ rw (f, h)))

-- where it passes, both keep form
pub both_form : (c n mx : ℕ) (x : List ℕ) (my : ℕ) (y : List ℕ) → Passed (pair_form c n mx x my y)
    → InForm c n mx x × InForm c n my y
unfolding pair_form
both_form c n mx x my y p =
    let ok = not-false (args_ok c n mx (length x) && args_ok c n my (length y)) p.0 in (
      in_form_by c n mx x (and_l (args_ok c n mx (length x)) (args_ok c n my (length y)) ok) p.1.0,
      in_form_by c n my y (and_r (args_ok c n mx (length x)) (args_ok c n my (length y)) ok) p.1.1.0,
    )

pub forms : (c n mx : ℕ) (x : List ℕ) (my : ℕ) (y : List ℕ) (k : ℕ) → formed c n mx x my y ≡ Ok k
    → InForm c n mx x × InForm c n my y
forms c n mx x my y k h =
    both_form c n mx x my y (stage_passed (pair_form c n mx x my y) (pair_total c n mx x my y) k h).0

-- keys and fit
module _ (c : ℕ) (K : List ℕ) (mx : ℕ) (x : List ℕ) (my : ℕ) (y : List ℕ) where
  abbrev total : ℕ
  total = pair_total c (length K) mx x my y

  abbrev pub checked : Answer
  checked = first_met Err (pair_rows c K mx x my y) (Ok total)

  pub form_refused : (r : Refusal) → formed c (length K) mx x my y ≡ Err r → Err r ≡ checked
  unfolding pair_rows
  form_refused r h =
      stage_refuses Err (pair_form c (length K) mx x my y) (both_fit_rows K (layer_of c mx x) K (layer_of c my y)) total
      (Ok total) r h

  module _ (k : ℕ) (f : formed c (length K) mx x my y ≡ Ok k) where
    abbrev fitting : Answer
    fitting = first_met Err (both_fit_rows K (layer_of c mx x) K (layer_of c my y)) (Ok total)

    then : fitting ≡ checked
    unfolding pair_rows
    then =
        stage_done Err (pair_form c (length K) mx x my y) (both_fit_rows K (layer_of c mx x) K (layer_of c my y)) total k
        (Ok total) f

    keys_refuse : ascending K ≡ false → Err (refusal KeysUnordered 0) ≡ fitting
    keys_refuse h = rw h

    pub keys_refused : ascending K ≡ false → Err (refusal KeysUnordered 0) ≡ checked
    keys_refused h = keys_refuse h ∙ then

    module _ (a : ascending K ≡ true) (p : ℕ) (ep : p ≡ fit_place K (layer_of c mx x)) where
      mine_refuses : p < mx → Err (refusal BadFit p) ≡ fitting
      mine_refuses h = rw (a, layer_length c mx x, ← ep, lt-ltb p mx h, zero-add)

      pub mine_misfits : p < mx → Err (refusal BadFit p) ≡ checked
      mine_misfits h = mine_refuses h ∙ then

      module _ (h : mx ≤ p) (q : ℕ) (eq : q ≡ fit_place K (layer_of c my y)) where
        theirs_refuses : q < my → Err (refusal BadFit (1000 + q)) ≡ fitting
        theirs_refuses g = rw (a, layer_length c mx x, ← ep, le-ltb p mx h, layer_length c my y, ← eq, lt-ltb q my g)

        pub theirs_misfits : q < my → Err (refusal BadFit (1000 + q)) ≡ checked
        theirs_misfits g = theirs_refuses g ∙ then

        none_refuses : my ≤ q → Ok total ≡ fitting
        none_refuses g = rw (a, layer_length c mx x, ← ep, le-ltb p mx h, layer_length c my y, ← eq, le-ltb q my g)

        pub both_fit : my ≤ q → Ok k ≡ checked
        both_fit g =
            ap Ok (sym (stage_passed (pair_form c (length K) mx x my y) total k f).1) ∙ (none_refuses g ∙ then)
