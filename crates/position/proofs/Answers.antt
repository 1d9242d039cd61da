-- The answers of shift and row number, case by case: refused as the form check refuses, else by their own tests.
-- Assumes nothing.
use Prim.Native.Nat.{ℕ, ◌≤◌, ◌<◌}
use native.Mathlib.Omega.{arith}
use mathlib.Core.Path.{◌≡◌, refl, sym, ap, ◌∙◌}
use mathlib.Core.Bool.{Bool, true, false, ◌&&◌}
use mathlib.Core.List.{List, [], ◌∷◌}
use lib.ListN.{length}
use lib.IntN.{ℤ, pos, nat_abs, ◌+ℤ◌}
use lib.Dec.{leb}
use borrow.Author.Tests.{le-leb, lt-leb, leb-true, leb-false}
use Rattle.words.specs.declared.Cause.TheVariants.{BadArguments}
use Rattle.std.specs.Prelude.{Ok, Err}
use Rattle.order.proofs.Tests.{impossible}
use Rattle.model.specs.Layer.{Layer}
use Rattle.model.specs.Raw.{layer_of}
use Rattle.model.specs.Form.{args_ok}
use Rattle.model.specs.Position.{shift, row_of}
use Rattle.model.specs.Refusals.{Test, refuse, first_met}
use Rattle.words.specs.Answer.{refusal, Answer, Shifted}
use Rattle.model.specs.Calls.{form_rows, form_answer, shift_answer, row_answer}
use Rattle.theory.proofs.Stages.{onward}
use Rattle.theory.proofs.Position.{row_never_negative}
use Rattle.form.proofs.Accepted.{accepted}
use Rattle.form.proofs.Answers.{own_argument, after_own}
use Rattle.tally.proofs.Small.{shift_small}

-- what is known of a base position and a layer whose shift is answered
pub record Asked (c m : ℕ) (xs : List ℕ) (s : ℕ) (d : ℤ) : Type 0 where
  pub low : s ≤ 4096
  pub small : nat_abs d ≤ 512
  pub row : pos (row_of (layer_of c m xs) s) ≡ pos s +ℤ d

module _ (c n m : ℕ) (xs : List ℕ) (s : ℕ) where
  abbrev L : Layer
  L = layer_of c m xs

  -- the shift: refused past n, else as the form check refuses
  pub shift_past : n < s → Err (refusal BadArguments 0) ≡ shift_answer c n m xs s
  unfolding shift_answer
  shift_past h = own_argument Err c n m xs (leb s n) [] (Ok (shift L s)) (lt-leb s n h)

  pub shift_within : s ≤ n
      → shift_answer c n m xs s ≡ onward Err (form_answer c n m xs) (Ok (shift L s))
  unfolding shift_answer
  shift_within h = after_own Err c n m xs (leb s n) [] (Ok (shift L s)) (le-leb s n h)

  -- the row number: refused as the shift is
  abbrev row_by : Shifted → Answer
  row_by (Ok d) = Ok (row_of L s)
  row_by (Err x) = Err x

  alike : (ts : List Test) (d : ℤ)
      → first_met Err ts (Ok (row_of L s)) ≡ row_by (first_met Err ts (Ok d))
  alike [] d = refl
  alike (refuse k p true ∷ ts) d = refl
  alike (refuse k p false ∷ ts) d = alike ts d

  pub row_shifted : row_answer c n m xs s ≡ row_by (shift_answer c n m xs s)
  unfolding row_answer shift_answer
  row_shifted = alike (form_rows (args_ok c n m (length xs) && leb s n) c n m xs) (shift L s)

  pub asked : {d : ℤ} → shift_answer c n m xs s ≡ Ok d → Asked c m xs s d
  asked {d} e = go (leb s n) refl
    where
      known : s ≤ n → (a : Answer) → form_answer c n m xs ≡ a
          → onward Err a (Ok (shift L s)) ≡ Ok d → Asked c m xs s d
      known h (Ok k) f g =
          let A = accepted c n m xs k f in
          let q : d ≡ shift L s = cc in
          record {
            low = omega (arith, A.base);
            small = rw q (shift_small c m xs s A.held);
            row = row_never_negative c n L A.ordered s ∙ ap (λ (z : ℤ). pos s +ℤ z) (sym q);
          }
      known h (Err x) f g = impossible (cc)

      go : (t : Bool) → leb s n ≡ t → Asked c m xs s d
      go true f =
          let h : s ≤ n = leb-true s n f in
          known h (form_answer c n m xs) refl (sym (shift_within h) ∙ e)
      go false f = let g = shift_past (leb-false s n f) in impossible (cc)
