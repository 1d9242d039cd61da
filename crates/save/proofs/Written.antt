-- What save answers and leaves: the numbers of the layer, then the trailer.
-- Assumes nothing.
use Prim.Native.Nat.{ℕ, ◌+◌, ◌*◌, ◌≤◌, ◌<◌}
use native.Mathlib.Omega.{arith}
use mathlib.Core.Path.{◌≡◌, sym, ap, ◌∙◌}
use mathlib.Core.List.{List, [], ◌∷◌, ◌++◌}
use lib.ListN.{length, take, drop, length-append}
use lib.Seq.{take_at, take_all, drop-append-add, drop-drop, length-take-le, paste}
use lib.Dec.{ltb}
use borrow.Author.Tests.{lt-ltb, le-ltb}
use Rattle.words.specs.declared.Cause.TheVariants.{ShortBuffer}
use Rattle.std.specs.Prelude.{Ok, Err}
use Rattle.run.proofs.Laws.{paste_paste}
use Rattle.little.specs.Little.{eight, eights}
use Rattle.little.proofs.Numbers.{eights_length, eights_append}
use Rattle.words.specs.declared.Refusal.{Refusal}
use Rattle.words.specs.Answer.{refusal, Answer}
use Rattle.model.specs.Raw.{layer_of}
use Rattle.model.specs.Refusals.{Test, refuse, first_met}
use Rattle.model.specs.Calls.{form_answer, written}
use Rattle.theory.proofs.Stages.{onward}
use Rattle.theory.proofs.Raw.{small}
use Rattle.form.proofs.Answers.{after_form_lem}
use Rattle.form.proofs.Accepted.{Accepted, accepted}
use Rattle.format.specs.File.{width, reach, trailer, saved, save_answer, save_slice}

-- four numbers written one behind the other
four_pastes : (d : List ℕ) (at a b c e : ℕ) → at + 32 ≤ length d
    → paste (paste (paste (paste d at (eight a) 8) (at + 8) (eight b) 8) (at + 16) (eight c) 8) (at + 24) (eight e) 8
    ≡ paste d at (eights (a ∷ b ∷ c ∷ e ∷ [])) 32
unfolding eights
four_pastes d at a b c e h =
    let two = eight a ++ eight b in
    let three = eight a ++ (eight b ++ eight c) in
    ap (λ (t : List ℕ). paste (paste t (at + 16) (eight c) 8) (at + 24) (eight e) 8)
    (paste_paste d (eight a) (eight b) at 8 8 (omega arith) (omega arith))
    ∙ ap (λ (t : List ℕ). paste t (at + 24) (eight e) 8) (paste_paste d two (eight c) at 16 8 (omega arith) (omega arith))
    ∙ paste_paste d three (eight e) at 24 8 (omega arith) (omega arith)

pub four_written : (d₀ d₁ d₂ d₃ d₄ : List ℕ) (at a b c e : ℕ) → at + 32 ≤ length d₀
    → d₁ ≡ paste d₀ at (eight a) 8 → d₂ ≡ paste d₁ (at + 8) (eight b) 8
    → d₃ ≡ paste d₂ (at + 16) (eight c) 8 → d₄ ≡ paste d₃ (at + 24) (eight e) 8
    → d₄ ≡ paste d₀ at (eights (a ∷ b ∷ c ∷ e ∷ [])) 32
four_written d₀ d₁ d₂ d₃ d₄ at a b c e h p q r s = rw (s, r, q, p) (four_pastes d₀ at a b c e h)

module _ (c n m : ℕ) (raw : List ℕ) (len : ℕ) where
  -- the call's own row: the room of the buffer
  abbrev short_buffer : List Test
  short_buffer = refuse ShortBuffer 0 (ltb len (reach c m)) ∷ []

  stages : save_answer c n m raw len
      ≡ onward Err (form_answer c n m raw) (first_met Err short_buffer (Ok (reach c m)))
  unfolding save_answer
  stages = after_form_lem Err c n m raw short_buffer (Ok (reach c m))

  pub form_refused : (x : Refusal) → form_answer c n m raw ≡ Err x → Err x ≡ save_answer c n m raw len
  form_refused x e = sym (stages ∙ rw e)

  module _ (k : ℕ) (e : form_answer c n m raw ≡ Ok k) where
    pub short : len < reach c m → Err (refusal ShortBuffer 0) ≡ save_answer c n m raw len
    short h = sym (stages ∙ rw (e, lt-ltb len (reach c m) h))

    pub enough : reach c m ≤ len → Ok (reach c m) ≡ save_answer c n m raw len
    enough h = sym (stages ∙ rw (e, le-ltb len (reach c m) h))

-- what the buffer holds after an answer
pub slice_after : (c n m : ℕ) (raw old : List ℕ) (r : Answer) → r ≡ save_answer c n m raw (length old)
    → written r (saved c n (layer_of c m raw)) old ≡ save_slice c n m raw old
slice_after c n m raw old r e = ap (λ (a : Answer). written a (saved c n (layer_of c m raw)) old) e

module _ (c n m : ℕ) (raw : List ℕ) (k : ℕ) (e : form_answer c n m raw ≡ Ok k) where
  took : Accepted c n m raw k
  took = accepted c n m raw k e

  -- the numbers are few, and all of them stand in the slice
  pub few : c ≤ 8
  few = took.held.columns

  pub few_numbers : width c m ≤ 5120
  few_numbers = small took.held.entries took.held.columns

  pub in_slice : width c m ≤ length raw
  in_slice = took.held.room

  -- what is saved is the slice's numbers, then the trailer
  pub saved_is : saved c n (layer_of c m raw) ≡ eights (take (width c m) raw) ++ eights (trailer c n m)
  unfolding saved
  saved_is =
      (λ i. eights (took.numbers i ++ trailer c n (took.size i)))
      ∙ eights_append (take (width c m) raw) (trailer c n m)

  front_length : length (eights (take (width c m) raw)) ≡ 8 * width c m
  front_length =
      omega (arith, eights_length (take (width c m) raw), length-take-le (width c m) raw took.held.room)

  pub saved_length : length (saved c n (layer_of c m raw)) ≡ reach c m
  saved_length =
      ap length saved_is
      ∙ length-append (eights (take (width c m) raw)) (eights (trailer c n m))
      ∙ omega (arith, front_length, eights_length (trailer c n m))

  -- the trailer written behind the numbers
  pub both_written : (old : List ℕ)
      → paste (eights (take (width c m) raw) ++ drop (8 * width c m) old) (8 * width c m) (eights (trailer c n m)) 32
      ≡ saved c n (layer_of c m raw) ++ drop (length (saved c n (layer_of c m raw))) old
  both_written old =
      let A = eights (take (width c m) raw) in
      let E = eights (trailer c n m) in
      let t : take 32 E ≡ E = take_all 32 E (omega (arith, eights_length (trailer c n m))) in
      let w : 8 * width c m + 32 ≡ reach c m = omega arith in
      let d : drop (8 * width c m + 32) (A ++ drop (8 * width c m) old) ≡ drop (reach c m) old =
      ap (λ (i : ℕ). drop (i + 32) (A ++ drop (8 * width c m) old)) (sym front_length)
      ∙ drop-append-add A (drop (8 * width c m) old) 32
      ∙ drop-drop 32 (8 * width c m) old
      ∙ ap (λ (i : ℕ). drop i old) w in
      let f = take_at A (drop (8 * width c m) old) (8 * width c m) front_length in
      (λ i. (f i ++ t i) ++ d i)
      ∙ (λ i. sym saved_is i ++ drop (sym saved_length i) old)
