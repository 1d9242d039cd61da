-- The refusals of the file calls, exactly: the lines of each call in order, and that the call answers by them.
-- Assumes nothing.
use Prim.Native.Nat.{ℕ, ◌+◌, ◌*◌, ◌-◌, ◌≤◌}
use native.Mathlib.Nat.{zero-add}
use native.Mathlib.Omega.{arith}
use mathlib.Core.Path.{◌≡◌, refl, sym, ap, ◌∙◌}
use mathlib.Core.Logic.{◌↔◌}
use mathlib.Core.Bool.{Bool, true, false, not, ◌||◌}
use mathlib.Core.List.{List, [], ◌∷◌, ◌++◌}
use lib.ListN.{length}
use lib.Dec.{ltb, eqb}
use borrow.Author.Tests.{ltb-false, le-ltb, eq-eqb, not-false}
use Rattle.words.specs.declared.Cause.TheVariants.{BadArguments, BadForm, ShortBuffer, BadFile}
use Rattle.std.specs.Prelude.{Ok, Err}
use Rattle.model.specs.Raw.{entries_of}
use Rattle.model.specs.Form.{args_ok, form_place}
use Rattle.exact.proofs.FormExactly.{FormKept, form_exactly}
use Rattle.exact.proofs.Exactly.{
  Line,
  line,
  Says,
  none,
  step,
  says_then,
  numbers,
  Exactly,
  exactly_counts,
  ArgsPass,
  args_exactly,
}
use Rattle.format.specs.File.{
  width,
  reach,
  back,
  entries,
  columns,
  rows,
  layer_numbers,
  misfits,
  file_rows,
  file_answer,
  load_answer,
  save_answer,
}
use Rattle.probe.proofs.Answers.{Fits, fits_file, numbers_size}

-- what passes a test
not_below : (a b : ℕ) → (ltb a b ≡ false) ↔ (b ≤ a)
not_below a b = (ltb-false a b, le-ltb a b)

passes : (t : Bool) (W : Type 0) → ((t ≡ true) ↔ W) → (not t ≡ false) ↔ W
passes t W f = (λ h. f.0 (not-false t h), λ w. ap not (f.1 w))

-- the trailer says how far back the first entry is, and what stands before that is at most 256 bytes
abbrev pub Trailed : List ℕ → Type 0
Trailed f = Fits (back f) (reach (columns f) (entries f)) (length f)

trailed_exactly : (f : List ℕ) → (misfits f ≡ false) ↔ Trailed f
unfolding misfits
trailed_exactly f = (
  fits_file f,
  λ t.
      let r = reach (columns f) (entries f) in
      let b : back f ≤ length f = omega (arith, t.says, t.within) in
      let n : length f ≤ back f + 256 = omega (arith, t.says, t.noted) in
      rw (eq-eqb (back f) r t.says, le-ltb (length f) (back f) b, le-ltb (back f + 256) (length f) n),
)

-- A file: 12 under 32 bytes; 1 for c, n or m past its limits; 12 for the trailer or the note; 2 with its place.
module _ (f : List ℕ) where
  abbrev pub file_lines : List Line
  file_lines =
      line BadFile 0 (32 ≤ length f)
      ∷ line BadArguments 0 (ArgsPass (columns f) (rows f) (entries f) (width (columns f) (entries f)))
      ∷ line BadFile 0 (Trailed f)
      ∷ line BadForm (form_place (columns f) (rows f) (entries_of (columns f) (entries f) (layer_numbers f)))
      (FormKept (columns f) (rows f) (entries f) (layer_numbers f))
      ∷ []

  says_file : Says (file_rows f) file_lines
  says_file =
      let c = columns f in
      let n = rows f in
      let m = entries f in
      step refl (not_below (length f) 32) (λ l.
      step refl (passes (args_ok c n m (width c m)) _ (args_exactly c n m (width c m))) (λ w.
      step refl (trailed_exactly f) (λ t.
      step (zero-add (form_place c n (entries_of c m (layer_numbers f))))
      (form_exactly c n m (layer_numbers f) w.columns (omega (arith, numbers_size f))) (λ v. none))))

  pub file_table : Exactly Err (file_answer f) (Ok (entries f)) file_lines
  unfolding file_answer
  file_table = exactly_counts (entries f) says_file

  pub file_numbers : numbers file_lines ≡ 12 ∷ 1 ∷ 12 ∷ 2 ∷ []
  file_numbers = refl

  -- the reader into len numbers: the same, then 11
  module _ (len : ℕ) where
    abbrev pub load_lines : List Line
    load_lines = file_lines ++ (line ShortBuffer 0 (entries f * (columns f + 2) ≤ len) ∷ [])

    pub load_table : Exactly Err (load_answer f len) (Ok (entries f)) load_lines
    unfolding load_answer
    load_table =
        exactly_counts (entries f)
        (says_then says_file (λ w. step refl (not_below len (width (columns f) (entries f))) (λ v. none)))

    pub load_numbers : numbers load_lines ≡ 12 ∷ 1 ∷ 12 ∷ 2 ∷ 11 ∷ []
    load_numbers = refl

-- The writer into len bytes: 1, 2, 11.
module _ (c n m : ℕ) (raw : List ℕ) (len : ℕ) where
  abbrev pub save_lines : List Line
  save_lines =
      line BadArguments 0 (ArgsPass c n m (length raw))
      ∷ line BadForm (form_place c n (entries_of c m raw)) (FormKept c n m raw)
      ∷ line ShortBuffer 0 (32 + 8 * (m * (c + 2)) ≤ len)
      ∷ []

  pub save_table : Exactly Err (save_answer c n m raw len) (Ok (32 + 8 * (m * (c + 2)))) save_lines
  unfolding save_answer
  save_table =
      exactly_counts (reach c m)
      (step refl (passes (args_ok c n m (length raw)) _ (args_exactly c n m (length raw))) (λ w.
      step (zero-add (form_place c n (entries_of c m raw))) (form_exactly c n m raw w.columns w.fits) (λ v.
      step refl (not_below len (reach c m)) (λ u. none))))

  pub save_numbers : numbers save_lines ≡ 1 ∷ 2 ∷ 11 ∷ []
  save_numbers = refl
