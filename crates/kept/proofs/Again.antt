-- The calls one after the other: what load reads of the bytes that save left, behind any note, is what save was given.
-- Assumes nothing.
use Prim.Native.Nat.{ℕ, ◌+◌, ◌*◌, ◌-◌, ◌≤◌}
use native.Mathlib.Omega.{arith}
use mathlib.Core.Path.{◌≡◌, refl, sym, ap, ◌∙◌}
use mathlib.Core.List.{List, [], ◌∷◌, ◌++◌, Memᴰ as Mem}
use lib.ListN.{length, take, drop}
use lib.Seq.{take_at, length-take-le}
use lib.Dec.{ltb}
use borrow.Author.Tests.{ltb-false}
use Rattle.words.specs.declared.Cause.TheVariants.{ShortBuffer}
use Rattle.words.specs.Answer.{Answer}
use Rattle.std.specs.Prelude.{Ok, Err}
use Rattle.little.proofs.Numbers.{Words, take_mem}
use Rattle.model.specs.Layer.{Layer, rows_after}
use Rattle.model.specs.Raw.{layer_of, flat}
use Rattle.model.specs.Refusals.{refuse, first_met}
use Rattle.model.specs.Calls.{form_answer, written}
use Rattle.theory.proofs.Stages.{onward, reached, stage_passed}
use Rattle.form.proofs.Answers.{after_form_lem}
use Rattle.form.proofs.Accepted as form
use Rattle.format.specs.File.{
  width,
  reach,
  saved,
  entries,
  layer_numbers,
  file_answer,
  load_answer,
  load_slice,
  save_answer,
  save_slice,
  entries_in,
  columns_in,
  rows_in,
  note_in,
}
use Rattle.probe.proofs.Answers.{when_done, load_enough}
use Rattle.save.proofs.Written.{saved_length}
use Rattle.kept.proofs.ReadBack.{Layered}
use Rattle.kept.proofs.Exactly.{
  Holds,
  holds_done,
  holds_columns,
  holds_rows,
  holds_entries,
  holds_note,
  holds_numbers,
}

-- save was given a slice of 64-bit numbers, and answered b bytes
module _ (c n m : ℕ) (raw : List ℕ) (words : Words raw) (old : List ℕ) (b : ℕ)
    (e : save_answer c n m raw (length old) ≡ Ok b) where
  abbrev L : Layer
  L = layer_of c m raw

  gone : (l : ℕ) × (form_answer c n m raw ≡ Ok l)
      × (first_met Err (refuse ShortBuffer 0 (ltb (length old) (reach c m)) ∷ []) (Ok (reach c m)) ≡ Ok b)
  unfolding save_answer
  gone =
      reached (form_answer c n m raw)
      (sym (after_form_lem Err c n m raw (refuse ShortBuffer 0 (ltb (length old) (reach c m)) ∷ []) (Ok (reach c m))) ∙ e)

  took : form.Accepted c n m raw gone.0
  took = form.accepted c n m raw gone.0 gone.1

  counted : reach c m ≡ b
  counted = (stage_passed (refuse ShortBuffer 0 (ltb (length old) (reach c m)) ∷ []) (reach c m) b gone.2).1

  pub layered : Layered c n L
  layered = record {
    some = took.held.some;
    few = took.held.columns;
    base = took.base;
    most = omega (arith, took.size, took.held.entries);
    keeps = took.kept;
    words = rw took.numbers (λ v k. words v (take_mem (m * (c + 2)) raw v k));
  }

  -- the b bytes in front are the layer saved
  pub left : take b (save_slice c n m raw old) ≡ saved c n L
  left =
      ap (λ (a : Answer). take b (written a (saved c n L) old)) e
      ∙ take_at (saved c n L) (drop (length (saved c n L)) old) b
      (saved_length c n m raw gone.0 gone.1 ∙ counted)

  -- behind any note of up to 256 bytes
  module _ (note : List ℕ) (short : length note ≤ 256) where
    abbrev file : List ℕ
    file = note ++ take b (save_slice c n m raw old)

    pub holds : Holds file note c n L
    holds = record { short = short; layered = layered; whole = ap (λ (t : List ℕ). note ++ t) left }

    accepted : file_answer file ≡ Ok (length L)
    accepted = holds_done holds

    pub read_check : file_answer file ≡ Ok m
    read_check = accepted ∙ ap Ok took.size

    pub read_entries : entries_in file ≡ m
    read_entries = sym (when_done _ accepted) ∙ holds_entries holds ∙ took.size

    pub read_columns : columns_in file ≡ c
    read_columns = sym (when_done _ accepted) ∙ holds_columns holds

    pub read_rows : rows_in file ≡ n
    read_rows = sym (when_done _ accepted) ∙ holds_rows holds

    pub read_note : note_in file ≡ length note
    read_note = sym (when_done _ accepted) ∙ holds_note holds

    read_numbers : layer_numbers file ≡ take (m * (c + 2)) raw
    read_numbers = holds_numbers holds ∙ took.numbers

    -- into a slice that is long enough: the numbers that were saved, then what stood there
    module _ (slice : List ℕ) (room : m * (c + 2) ≤ length slice) where
      pub read_answer_lem : load_answer file (length slice) ≡ Ok m
      read_answer_lem =
          let w : width c m ≡ m * (c + 2) = refl in
          sym (load_enough file (length slice) m read_check
          (rw (holds_columns holds, holds_entries holds, took.size) room))

      pub read_slice_lem : load_slice file slice ≡ take (m * (c + 2)) raw ++ drop (m * (c + 2)) slice
      read_slice_lem =
          let l : length (take (m * (c + 2)) raw) ≡ m * (c + 2) =
          length-take-le (m * (c + 2)) raw took.held.room in
          ap (λ (a : Answer). written a (layer_numbers file) slice) read_answer_lem
          ∙ (λ i. read_numbers i ++ drop (length (read_numbers i)) slice)
          ∙ ap (λ (k : ℕ). take (m * (c + 2)) raw ++ drop k slice) l
