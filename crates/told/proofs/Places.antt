-- The numbers that pass into a signed or a raised number are small: shifts, the places of a shift's refusals, added entries.
-- Assumes nothing.
use Prim.Native.Nat.{ℕ, ◌+◌, ◌≤◌}
use native.Mathlib.Omega.{arith}
use mathlib.Core.Path.{◌≡◌, refl, sym, ◌∙◌}
use mathlib.Core.Bool.{Bool, true, false, not, cond, ◌&&◌}
use mathlib.Core.List.{List}
use lib.ListN.{length}
use lib.IntN.{ℤ, nat_abs}
use lib.Dec.{leb}
use Rattle.words.specs.declared.Origin.TheVariants.{Added as added}
use Rattle.words.specs.declared.Cause.TheVariants.{BadArguments, BadForm, NoSuchRow}
use Rattle.std.specs.Prelude.{Ok, Err}
use Rattle.order.proofs.Tests.{impossible}
use Rattle.model.specs.Layer.{Layer, rows_after}
use Rattle.words.specs.declared.Refusal.{Refusal}
use Rattle.model.specs.Raw.{layer_of, entries_of}
use Rattle.model.specs.Form.{form_place, args_ok}
use Rattle.model.specs.Position.{shift, back}
use Rattle.model.specs.Refusals.{breaks_form}
use Rattle.words.specs.Answer.{refusal, shift_value, Answer, Back, Shifted}
use Rattle.model.specs.Calls.{form_answer, shift_answer, back_answer}
use Rattle.theory.proofs.Raw.{layer_length, form_place_lem, args_held}
use Rattle.theory.proofs.Position.{back_added}
use Rattle.theory.proofs.Stages.{onward}
use Rattle.form.proofs.Accepted.{accepted}
use Rattle.position.proofs.Answers.{asked}
use Rattle.back.proofs.Answers.{back_checked}

module _ (c n m : ℕ) (xs : List ℕ) (s : ℕ) where
  shift_by : (z : ℤ) → shift_answer c n m xs s ≡ Ok z → nat_abs z ≤ 512
  shift_by z e = (asked c n m xs s e).small

  shift_refused : (x : Refusal) → shift_answer c n m xs s ≡ Err x → x.place ≤ 512
  unfolding shift_answer
  shift_refused x e = go (args_ok c n m (length xs)) refl (leb s n) (breaks_form c n m xs) e
    where
      go : (a : Bool) → args_ok c n m (length xs) ≡ a → (b d : Bool)
          → cond (not (a && b)) (Err (refusal BadArguments 0))
          (cond d (Err (refusal BadForm (0 + form_place c n (entries_of c m xs))))
          (Ok (shift (layer_of c m xs) s)))
          ≡ Err x
          → x.place ≤ 512
      go true h true true g =
          let w : x.place ≡ 0 + form_place c n (entries_of c m xs) = cc in
          omega (arith, w, form_place_lem c n m xs, (args_held c n m xs h).0.entries)
      go true h true false g = impossible (cc)
      go true h false d g = let w : x.place ≡ 0 = cc in omega (arith, w)
      go false h b d g = let w : x.place ≡ 0 = cc in omega (arith, w)

  pub shift_small : nat_abs (shift_value (shift_answer c n m xs s)) ≤ 512
  shift_small = go (shift_answer c n m xs s) refl
    where
      go : (a : Shifted) → shift_answer c n m xs s ≡ a → nat_abs (shift_value a) ≤ 512
      go (Ok z) e = shift_by z e
      go (Err x) e = shift_refused x e

  -- an added entry's number is one of the layer's
  pub back_small : (i : ℕ) → back_answer c n m xs s ≡ Ok (added i) → i ≤ 512
  back_small i e = go (form_answer c n m xs) refl (sym (back_checked c n m xs s) ∙ e)
    where
      L : Layer
      L = layer_of c m xs

      unless_past : (t : Bool) → cond t (Err (refusal NoSuchRow 0)) (Ok (back n L s)) ≡ Ok (added i)
          → back n L s ≡ added i
      unless_past true g = impossible (cc)
      unless_past false g = cc

      go : (a : Answer) → form_answer c n m xs ≡ a
          → onward Err a
          (cond (leb (rows_after n L) s) (Err (refusal NoSuchRow 0)) (Ok (back n L s)))
          ≡ Ok (added i)
          → i ≤ 512
      go (Ok k) f g =
          let A = accepted c n m xs k f in
          omega (arith, (back_added c n L A.ordered s i (unless_past (leb (rows_after n L) s) g)).1, A.size, A.held.entries)
      go (Err x) f g = impossible (cc)
