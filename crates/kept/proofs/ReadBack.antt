-- What is read back is what was written: a saved layer's file, behind any note of up to 256 bytes, is accepted, and says
-- the same columns, base rows and numbers.
-- Assumes nothing.
use Prim.Native.Nat.{ℕ, suc, zero, ◌+◌, ◌*◌, ◌-◌, ◌≤◌, ◌<◌}
use native.Mathlib.Nat.{zero-mul, suc-mul}
use native.Mathlib.Omega.{arith}
use mathlib.Core.Path.{◌≡◌, refl, sym, ap, ◌∙◌}
use mathlib.Core.Bool.{Bool, true, false, not, ◌&&◌, ◌||◌}
use mathlib.Core.List.Memᴰ.{head as here}
use mathlib.Core.List.Memᴰ.{tail as next}
use mathlib.Core.List.{
  List,
  [],
  ◌∷◌,
  ◌++◌,
  append-nil,
  append_assoc,
  Memᴰ as Mem,
}
use lib.ListN.{length, get_or, take, drop, length-append}
use lib.Seq.{take-length}
use lib.Dec.{leb, ltb, eqb}
use borrow.Author.Tests.{leb-true, eqb-true, le-ltb, le-leb, eq-eqb}
use Rattle.std.specs.Prelude.{Ok, Err}
use Rattle.order.proofs.Tests.{and_l, and_r}
use Rattle.order.proofs.Pairs.{AllPairs, Unbroken, unbroken}
use Rattle.little.specs.Little.{eights, number_at, numbers_at}
use Rattle.little.proofs.Numbers.{
  most,
  Words,
  eights_length,
  eights_append,
  numbers_get,
  number_past,
  numbers_past,
  numbers_front,
}
use Rattle.model.specs.Layer.{Edit, Layer, rows_after}
use Rattle.model.specs.Raw.{Held, numbers_of, layer_of, flat}
use Rattle.model.specs.Form.{sound, follows, in_order, keeps_form, args_ok}
use Rattle.model.specs.Refusals.{breaks_form}
use Rattle.model.specs.Calls.{form_rows, form_answer}
use Rattle.theory.proofs.Raw.{small}
use Rattle.theory.proofs.Stages.{stage_passed, all_passed}
use Rattle.theory.proofs.Readback.{sound_wide, read_back, zeros_back}
use Rattle.form.specs.InForm.{InForm}
use Rattle.form.proofs.Accepted.{accepts_form}
use Rattle.write.proofs.Layers.{flat_length}
use Rattle.format.specs.File.{
  width,
  reach,
  trailer,
  saved,
  back,
  entries,
  columns,
  rows,
  layer_numbers,
  misfits,
  file_rows,
  file_answer,
}

-- a layer that a file can hold: within the limits, in form, of numbers of 64 bits
pub record Layered (c n : ℕ) (L : Layer) : Type 0 where
  pub some : 1 ≤ c
  pub few : c ≤ 8
  pub base : n ≤ 4096
  pub most : length L ≤ 512
  pub keeps : keeps_form c n L ≡ true
  pub words : Words (flat c L)

module _ (c n : ℕ) (L : Layer) (h : Layered c n L) where
  order : Unbroken (sound c n) follows [] L
  unfolding in_order
  order = unbroken (sound c n) follows [] L
      (eqb-true _ (length L) (and_l (in_order c n L) (leb (rows_after n L) 4096) h.keeps))

  total : rows_after n L ≤ 4096
  total = leb-true (rows_after n L) 4096 (and_r (in_order c n L) (leb (rows_after n L) 4096) h.keeps)

  pub numbers_many : length (flat c L) ≡ width c (length L)
  numbers_many = flat_length c L (λ e m. sound_wide c n h.some e (order.each e m))

  few_numbers : width c (length L) ≤ 5120
  few_numbers = small h.most h.few

  -- the slice of its numbers is accepted
  pub layer_back : layer_of c (length L) (flat c L) ≡ L
  layer_back =
      ap (layer_of c (length L)) (sym (append-nil (flat c L)))
      ∙ read_back c n h.some h.few (length L) L [] refl order.each

  pub accepted : InForm c n (length L) (flat c L)
  accepted =
      accepts_form c n (length L) (flat c L)
      (record {
        some = h.some;
        columns = h.few;
        entries = h.most;
        room = omega (arith, numbers_many);
      })
      h.base
      (λ e m. zeros_back c n h.some h.few (length L) L [] refl order.each e
      (rw (append-nil (flat c L)) m))
      (rw layer_back order.each)
      (rw layer_back order.pairs)
      (rw layer_back total)

  -- the trailer's numbers are of 64 bits
  trailer_words : Words (trailer c n (length L))
  trailer_words v (next (next (next (next x16)))) = elim x16 [ ]
  trailer_words v (here e) = omega (arith, e, few_numbers)
  trailer_words v (next (here e)) = omega (arith, e, h.most)
  trailer_words v (next (next (here e))) = omega (arith, e, h.few)
  trailer_words v (next (next (next (here e)))) = omega (arith, e, h.base)

  saved_parts : saved c n L ≡ eights (flat c L) ++ eights (trailer c n (length L))
  unfolding saved
  saved_parts = eights_append (flat c L) (trailer c n (length L))

  pub saved_length : length (saved c n L) ≡ reach c (length L)
  saved_length =
      ap length saved_parts
      ∙ length-append (eights (flat c L)) (eights (trailer c n (length L)))
      ∙ omega (arith, eights_length (flat c L), eights_length (trailer c n (length L)), numbers_many)

  module _ (note : List ℕ) (short : length note ≤ 256) where
    abbrev file : List ℕ
    file = note ++ saved c n L

    size : length file ≡ length note + reach c (length L)
    size = length-append note (saved c n L) ∙ ap (λ (k : ℕ). length note + k) saved_length

    abbrev front : List ℕ
    front = note ++ eights (flat c L)

    split : file ≡ front ++ eights (trailer c n (length L))
    split =
        ap (λ (t : List ℕ). note ++ t) saved_parts
        ∙ sym (append_assoc note (eights (flat c L)) (eights (trailer c n (length L))))

    front_size : length front ≡ length note + 8 * width c (length L)
    front_size = omega (arith, length-append note (eights (flat c L)), eights_length (flat c L), numbers_many)

    -- the trailer's numbers
    trailer_back : numbers_at 4 0 (eights (trailer c n (length L))) ≡ trailer c n (length L)
    trailer_back =
        ap (numbers_at 4 0) (sym (append-nil (eights (trailer c n (length L)))))
        ∙ numbers_front (trailer c n (length L)) [] trailer_words

    trailer_at : (i j : ℕ) → j < 4 → i ≡ length front + 8 * j → number_at i file ≡ get_or (trailer c n (length L)) j 0
    trailer_at i j l e =
        (λ t. number_at (e t) (split t))
        ∙ number_past (8 * j) front (eights (trailer c n (length L)))
        ∙ sym (numbers_get 4 0 j (eights (trailer c n (length L))) l
        ∙ ap (λ (k : ℕ). number_at k (eights (trailer c n (length L)))) z)
        ∙ ap (λ (t : List ℕ). get_or t j 0) trailer_back
      where
        z : 0 + 8 * j ≡ 8 * j
        z = omega arith

    pub back_is : back file ≡ reach c (length L)
    back_is = trailer_at (length file - 32) 0 (omega arith) (omega (arith, size, front_size))

    pub entries_is : entries file ≡ length L
    entries_is = trailer_at (length file - 24) 1 (omega arith) (omega (arith, size, front_size))

    pub columns_is : columns file ≡ c
    columns_is = trailer_at (length file - 16) 2 (omega arith) (omega (arith, size, front_size))

    pub rows_is : rows file ≡ n
    rows_is = trailer_at (length file - 8) 3 (omega arith) (omega (arith, size, front_size))

    -- the note ends where the entries begin
    pub note_ends : length file - back file ≡ length note
    note_ends = omega (arith, size, back_is)

    pub numbers_are : layer_numbers file ≡ flat c L
    unfolding layer_numbers
    numbers_are =
        let k : length note ≡ length note + 0 = omega arith in
        (λ i. numbers_at (width (columns_is i) (entries_is i)) (note_ends i) file)
        ∙ (λ i. numbers_at (width c (length L)) (k i) (note ++ saved_parts i))
        ∙ numbers_past (width c (length L)) 0 note (eights (flat c L) ++ eights (trailer c n (length L)))
        ∙ ap (λ (j : ℕ). numbers_at j 0 (eights (flat c L) ++ eights (trailer c n (length L)))) (sym numbers_many)
        ∙ numbers_front (flat c L) (eights (trailer c n (length L))) h.words

    fits : misfits file ≡ false
    unfolding misfits
    fits =
        rw (back_is, entries_is, columns_is)
        (rw (
          eq-eqb (reach c (length L)) (reach c (length L)) refl,
          le-ltb (length file) (reach c (length L)) (omega (arith, size)),
          le-ltb (reach c (length L) + 256) (length file) (omega (arith, size)),
        ))

    limits : args_ok c n (length L) (width c (length L)) ≡ true
    unfolding args_ok
    limits =
        rw (
          le-leb 1 c h.some,
          le-leb c 8 h.few,
          le-leb n 4096 h.base,
          le-leb (length L) 512 h.most,
          le-leb (width c (length L)) (width c (length L)) (omega arith),
        )

    unbroken_form : breaks_form c n (length L) (flat c L) ≡ false
    unfolding form_answer
    unbroken_form =
        (stage_passed (form_rows (args_ok c n (length L) (length (flat c L))) c n (length L) (flat c L))
        (rows_after n (layer_of c (length L) (flat c L))) _ accepted).0.1.0

    -- the file is accepted
    pub file_done : file_answer file ≡ Ok (length L)
    unfolding file_answer
    file_done =
        all_passed Err (file_rows file) (Ok (entries file))
        (le-ltb (length file) 32 (omega (arith, size)), (limited, (fits, (formed, tt))))
        ∙ ap Ok entries_is
      where
        limited : not (args_ok (columns file) (rows file) (entries file) (width (columns file) (entries file))) ≡ false
        limited =
            ap not ((λ i. args_ok (columns_is i) (rows_is i) (entries_is i) (width (columns_is i) (entries_is i))) ∙ limits)

        formed : breaks_form (columns file) (rows file) (entries file) (layer_numbers file) ≡ false
        formed = (λ i. breaks_form (columns_is i) (rows_is i) (entries_is i) (numbers_are i)) ∙ unbroken_form
