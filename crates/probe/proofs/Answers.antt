-- What the file check and the reader answer, case by case, from the answer of the form check; and what is known of an accepted file.
-- Assumes nothing.
use Prim.Native.Nat.{ℕ, ◌+◌, ◌*◌, ◌-◌, ◌≤◌, ◌<◌}
use native.Mathlib.Nat.{zero-add, zero-mul}
use native.Mathlib.Omega.{arith}
use mathlib.Core.Path.{◌≡◌, refl, sym, ap, ◌∙◌}
use mathlib.Core.Bool.{Bool, true, false, not, ◌&&◌, ◌||◌}
use mathlib.Core.List.{List, [], ◌∷◌, ◌++◌}
use lib.ListN.{length, drop}
use lib.Dec.{ltb, leb, eqb}
use borrow.Author.Tests.{lt-ltb, le-ltb, le-leb, leb-true, ltb-false, eqb-true, eq-eqb, not-false}
use Rattle.words.specs.declared.Cause.TheVariants.{BadArguments, ShortBuffer, BadFile}
use Rattle.std.specs.Prelude.{Ok, Err}
use Rattle.order.proofs.Tests.{and_l, and_r, or_false}
use Rattle.little.specs.Little.{numbers_at}
use Rattle.little.proofs.Numbers.{numbers_length}
use Rattle.words.specs.declared.Refusal.{Refusal}
use Rattle.words.specs.Answer.{refusal, Answer}
use Rattle.model.specs.Raw.{Held}
use Rattle.model.specs.Form.{args_ok}
use Rattle.model.specs.Refusals.{Test, refuse, first_met}
use Rattle.model.specs.Calls.{form_answer, written}
use Rattle.theory.proofs.Stages.{onward, raised, stage, stage_passed}
use Rattle.theory.proofs.Raw.{small, args_held}
use Rattle.form.specs.InForm.{InForm}
use Rattle.form.proofs.Formed.{empty_done}
use Rattle.form.proofs.Answers.{form_row}
use Rattle.form.proofs.Accepted.{in_form_by}
use Rattle.format.specs.File.{
  width,
  reach,
  back,
  entries,
  columns,
  rows,
  layer_numbers,
  misfits,
  file_rows,
  file_answer,
  load_answer,
  load_slice,
  if_done,
  InFile,
}

-- within the limits no layer has more than 5,120 numbers
pub args_any : (c n m : ℕ) → args_ok c n m 5120 ≡ args_ok c n m (width c m)
unfolding args_ok
args_any c n m = by (leb c 8) refl (leb m 512) refl
  where
    by : (t : Bool) → leb c 8 ≡ t → (u : Bool) → leb m 512 ≡ u
        → (leb 1 c && (t && (leb n 4096 && (u && leb (width c m) 5120))))
        ≡ (leb 1 c && (t && (leb n 4096 && (u && leb (width c m) (width c m)))))
    by false e u f = refl
    by true e false f = refl
    by true e true f =
        rw (
          le-leb (width c m) 5120 (small {m = m} {c = c} (omega (arith, leb-true m 512 f)) (omega (arith, leb-true c 8 e))),
          le-leb (width c m) (width c m) (omega arith),
        )

-- the reach that a trailer should have stands for the one that it has
pub same_misfit : (b r l : ℕ)
    → (not (eqb b r) || (ltb l r || ltb (r + 256) l)) ≡ (not (eqb b r) || (ltb l b || ltb (b + 256) l))
same_misfit b r l = by (eqb b r) refl
  where
    by : (t : Bool) → eqb b r ≡ t → (not t || (ltb l r || ltb (r + 256) l)) ≡ (not t || (ltb l b || ltb (b + 256) l))
    by true e = ap (λ (k : ℕ). ltb l k || ltb (k + 256) l) (sym (eqb-true b r e))
    by false e = refl

-- a trailer that fits: it says how far back the first entry is, and the note is short
pub record Fits (b r l : ℕ) : Type 0 where
  pub says : b ≡ r
  pub within : r ≤ l
  pub noted : l ≤ r + 256

pub fits_of : (b r l : ℕ) → (not (eqb b r) || (ltb l b || ltb (b + 256) l)) ≡ false → Fits b r l
fits_of b r l h =
    let w = or_false (not (eqb b r)) (ltb l b || ltb (b + 256) l) h in
    let v = or_false (ltb l b) (ltb (b + 256) l) w.1 in
    let e = eqb-true b r (not-false (eqb b r) w.0) in
    record {
      says = e;
      within = omega (arith, e, ltb-false l b v.0);
      noted = omega (arith, e, ltb-false (b + 256) l v.1);
    }

-- the numbers are as many as the trailer says
pub numbers_size : (f : List ℕ) → length (layer_numbers f) ≡ width (columns f) (entries f)
unfolding layer_numbers
numbers_size f = numbers_length (width (columns f) (entries f)) (length f - back f) f

-- what the pass over the entries asks, and the form check of their numbers, where the limits are kept
module _ (c n m : ℕ) (f : List ℕ) (ok : args_ok c n m 5120 ≡ true) where
  pub args_numbers : (i : ℕ) → args_ok c n m (length (numbers_at (width c m) i f)) ≡ true
  args_numbers i = ap (args_ok c n m) (numbers_length (width c m) i f) ∙ sym (args_any c n m) ∙ ok

  limits : Held c m (numbers_at (width c m) 0 f)
  limits = (args_held c n m (numbers_at (width c m) 0 f) (args_numbers 0)).0

  pub few : c ≤ 8
  few = limits.columns

  pub few_numbers : width c m ≤ 5120
  few_numbers = small limits.entries limits.columns

  pub in_file : reach c m ≤ length f → InFile c m (length f - reach c m) f
  in_file h = record {
    some = limits.some;
    few = limits.columns;
    most = limits.entries;
    room = omega arith;
  }

raised_none : (x : Refusal) → raised 0 x ≡ x
raised_none x = ap (λ (p : ℕ). refusal x.cause p) (zero-add x.place)

module _ (f : List ℕ) where
  abbrev c : ℕ
  c = columns f

  abbrev n : ℕ
  n = rows f

  abbrev m : ℕ
  m = entries f

  pub too_short : length f < 32 → Err (refusal BadFile 0) ≡ file_answer f
  unfolding file_answer
  too_short h = rw (lt-ltb (length f) 32 h)

  module _ (long : 32 ≤ length f) where
    pub past_limits : args_ok c n m 5120 ≡ false → Err (refusal BadArguments 0) ≡ file_answer f
    unfolding file_answer
    past_limits h = rw (le-ltb (length f) 32 long, ← args_any c n m, h)

    module _ (ok : args_ok c n m 5120 ≡ true) where
      pub no_match : misfits f ≡ true → Err (refusal BadFile 0) ≡ file_answer f
      unfolding file_answer
      no_match h = rw (le-ltb (length f) 32 long, ← args_any c n m, ok, h)

      numbers_ok : args_ok c n m (length (layer_numbers f)) ≡ true
      unfolding layer_numbers
      numbers_ok = args_numbers c n m f ok (length f - back f)

      after_trailer : misfits f ≡ false → file_answer f ≡ onward Err (form_answer c n m (layer_numbers f)) (Ok m)
      unfolding file_answer
      after_trailer h =
          rw (le-ltb (length f) 32 long, ← args_any c n m, ok, h)
          (form_row Err 0 c n m (layer_numbers f) [] (Ok m) numbers_ok
          ∙ plain (form_answer c n m (layer_numbers f)))
        where
          plain : (a : Answer) → onward (λ x. Err (raised 0 x)) a (Ok m) ≡ onward Err a (Ok m)
          plain (Ok k) = refl
          plain (Err x) = ap Err (raised_none x)

      pub form_refused : misfits f ≡ false → (x : Refusal) → form_answer c n m (layer_numbers f) ≡ Err x
          → Err x ≡ file_answer f
      form_refused h x e = sym (after_trailer h ∙ rw e)

      pub form_done : misfits f ≡ false → (k : ℕ) → form_answer c n m (layer_numbers f) ≡ Ok k → Ok m ≡ file_answer f
      form_done h k e = sym (after_trailer h ∙ rw e)

      -- an empty layer has nothing to pass over
      pub none_at_fault : back f ≡ 32 → entries f ≡ 0 → length f ≤ 288 → file_answer f ≡ Ok 0
      unfolding misfits
      none_at_fault b z l =
          let r : reach c m ≡ 32 = omega (arith, ap (λ (k : ℕ). k * (c + 2)) z, zero-mul (c + 2)) in
          let h : misfits f ≡ false =
          rw (
            eq-eqb (back f) (reach c m) (omega (arith, b, r)),
            le-ltb (length f) (back f) (omega (arith, b, long)),
            le-ltb (back f + 256) (length f) (omega (arith, b, l)),
          ) in
          after_trailer h
          ∙ ap (λ (a : Answer). onward Err a (Ok m)) (sym (empty_done c n m (layer_numbers f) z numbers_ok))
          ∙ ap Ok z

  -- an accepted file
  pub record Kept (k : ℕ) : Type 0 where
    pub long : 32 ≤ length f
    pub counted : entries f ≡ k
    pub some : 1 ≤ columns f
    pub few : columns f ≤ 8
    pub base : rows f ≤ 4096
    pub most : entries f ≤ 512
    pub trails : Fits (back f) (reach (columns f) (entries f)) (length f)
    pub formed : InForm (columns f) (rows f) (entries f) (layer_numbers f)

  pub kept : (k : ℕ) → file_answer f ≡ Ok k → Kept k
  unfolding file_answer misfits
  kept k e =
      let w = stage_passed (file_rows f) (entries f) k e in
      let ok : args_ok c n m (width c m) ≡ true = not-false _ w.0.1.0 in
      let okN : args_ok c n m (length (layer_numbers f)) ≡ true = measured ∙ ok in
      let a = args_held c n m (layer_numbers f) okN in
      record {
        long = ltb-false (length f) 32 w.0.0;
        counted = w.1;
        some = a.0.some;
        few = a.0.columns;
        base = a.1;
        most = a.0.entries;
        trails = fits_of (back f) (reach c m) (length f) w.0.1.1.0;
        formed = in_form_by c n m (layer_numbers f) okN w.0.1.1.1.0;
      }
    where
      measured : args_ok c n m (length (layer_numbers f)) ≡ args_ok c n m (width c m)
      measured = ap (args_ok c n m) (numbers_size f)

  pub numbers_from : Fits (back f) (reach c m) (length f)
      → layer_numbers f ≡ numbers_at (width c m) (length f - reach c m) f
  unfolding layer_numbers
  numbers_from t = ap (λ (b : ℕ). numbers_at (width c m) (length f - b) f) t.says

-- what is asked of an accepted file, and of a refused one
pub when_done : {a : Answer} {k : ℕ} (v : ℕ) → a ≡ Ok k → v ≡ if_done a v
when_done v e = rw e

pub when_refused : {a : Answer} {x : Refusal} (v : ℕ) → a ≡ Err x → 0 ≡ if_done a v
when_refused v e = rw e

-- the trailer's numbers as code has read them
pub test_is : (f : List ℕ) (b m c : ℕ) → b ≡ back f → m ≡ entries f → c ≡ columns f
    → (not (eqb b (reach c m)) || (ltb (length f) (reach c m) || ltb (reach c m + 256) (length f))) ≡ misfits f
unfolding misfits
test_is f b m c eb em ec =
    same_misfit b (reach c m) (length f)
    ∙ (λ i. not (eqb (eb i) (reach (ec i) (em i))) || (ltb (length f) (eb i) || ltb (eb i + 256) (length f)))

-- an empty layer's file, as code has read and tested its trailer
module _ (f : List ℕ) (b m c n : ℕ) (eb : b ≡ back f) (em : m ≡ entries f) (ec : c ≡ columns f) (en : n ≡ rows f) where
  pub told_empty : 32 ≤ length f → m ≡ 0 → (t : Bool) → t ≡ args_ok c n m 5120
      → t && (eqb b 32 && leb (length f) 288) ≡ true → file_answer f ≡ Ok 0
  told_empty long z t a h =
      let w = and_r t (eqb b 32 && leb (length f) 288) h in
      none_at_fault f long
      (sym (a ∙ (λ i. args_ok (ec i) (en i) (em i) 5120)) ∙ and_l t (eqb b 32 && leb (length f) 288) h)
      (sym eb ∙ eqb-true b 32 (and_l (eqb b 32) (leb (length f) 288) w))
      (sym em ∙ z)
      (leb-true (length f) 288 (and_r (eqb b 32) (leb (length f) 288) w))

pub fits_file : (f : List ℕ) → misfits f ≡ false → Fits (back f) (reach (columns f) (entries f)) (length f)
unfolding misfits
fits_file f h = fits_of (back f) (reach (columns f) (entries f)) (length f) h

module _ (f : List ℕ) (m c n : ℕ) (em : m ≡ entries f) (ec : c ≡ columns f) (en : n ≡ rows f) (h : misfits f ≡ false) where
  pub reaches : reach c m ≤ length f
  reaches = let r : reach c m ≡ reach (columns f) (entries f) = λ i. reach (ec i) (em i) in
      omega (arith, r, (fits_file f h).within)

  pub form_is : form_answer c n m (numbers_at (width c m) (length f - reach c m) f)
      ≡ form_answer (columns f) (rows f) (entries f) (layer_numbers f)
  form_is =
      (λ i. form_answer (ec i) (en i) (em i) (numbers_at (width (ec i) (em i)) (length f - reach (ec i) (em i)) f))
      ∙ ap (form_answer (columns f) (rows f) (entries f)) (sym (numbers_from f (fits_file f h)))

-- an accepted file of k entries, where c is read from its trailer
module _ (f : List ℕ) (k : ℕ) (e : file_answer f ≡ Ok k) (c : ℕ) (ec : c ≡ columns f) where
  pub same_width : width c k ≡ width (columns f) (entries f)
  same_width = λ i. width (ec i) (sym (kept f k e).counted i)

  pub columns_few : c ≤ 8
  columns_few = omega (arith, ec, (kept f k e).few)

  pub width_few : width c k ≤ 5120
  width_few = omega (arith, same_width, small (kept f k e).most (kept f k e).few)

  pub reaches_in : reach c k ≤ length f
  reaches_in = omega (arith, same_width, (kept f k e).trails.within)

  pub load_written : (old : List ℕ)
      → numbers_at (width c k) (length f - reach c k) f ++ drop (width c k) old
      ≡ layer_numbers f ++ drop (length (layer_numbers f)) old
  load_written old =
      (λ i. numbers_at (same_width i) (length f - (32 + 8 * same_width i)) f ++ drop (same_width i) old)
      ∙ (λ i. sym (numbers_from f (kept f k e).trails) i ++ drop (sym (numbers_size f) i) old)

-- the reader: as the check, then the room of the slice
module _ (f : List ℕ) (len : ℕ) where
  abbrev short_buffer : List Test
  short_buffer = refuse ShortBuffer 0 (ltb len (width (columns f) (entries f))) ∷ []

  stages : load_answer f len ≡ onward Err (file_answer f) (first_met Err short_buffer (Ok (entries f)))
  unfolding load_answer file_answer
  stages = stage Err (file_rows f) short_buffer (entries f) (Ok (entries f))

  pub load_refused : (x : Refusal) → file_answer f ≡ Err x → Err x ≡ load_answer f len
  load_refused x e = sym (stages ∙ rw e)

  module _ (k : ℕ) (e : file_answer f ≡ Ok k) where
    pub load_short : len < width (columns f) (entries f) → Err (refusal ShortBuffer 0) ≡ load_answer f len
    load_short h = sym (stages ∙ rw (e, lt-ltb len (width (columns f) (entries f)) h))

    pub load_enough : width (columns f) (entries f) ≤ len → Ok k ≡ load_answer f len
    load_enough h = sym (stages ∙ rw (e, le-ltb len (width (columns f) (entries f)) h) (ap Ok (kept f k e).counted))

-- what the slice holds after an answer
pub load_after : (f old : List ℕ) (r : Answer) → r ≡ load_answer f (length old)
    → written r (layer_numbers f) old ≡ load_slice f old
load_after f old r e = ap (λ (a : Answer). written a (layer_numbers f) old) e

-- an empty layer leaves the slice as it was
pub load_none : (f old : List ℕ) → file_answer f ≡ Ok 0 → (Ok 0 ≡ load_answer f (length old)) × (old ≡ load_slice f old)
unfolding layer_numbers numbers_at
load_none f old e =
    let w : width (columns f) (entries f) ≡ 0 =
    omega (arith, ap (λ (k : ℕ). k * (columns f + 2)) (kept f 0 e).counted, zero-mul (columns f + 2)) in
    let n : layer_numbers f ≡ [] = ap (λ (k : ℕ). numbers_at k (length f - back f) f) w in
    let a = load_enough f (length old) 0 e (omega (arith, w)) in
    (a, sym (ap (λ (xs : List ℕ). xs ++ drop (length xs) old) n) ∙ load_after f old (Ok 0) a)
