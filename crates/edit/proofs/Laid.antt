-- What an accepted edit leaves in its slice, as numbers laid at its front: the slice keeps its length, and what is laid over it next lies
-- as if it had been laid at once.
-- Assumes nothing.
use Prim.Native.Nat.{ℕ, zero, suc, ◌+◌, ◌*◌, ◌-◌, ◌≤◌, max}
use native.Mathlib.Nat.{sub-zero, zero-sub, suc-sub-suc, mul-le-mul_right}
use native.Mathlib.Omega.{arith}
use mathlib.Core.Path.{◌≡◌, sym, ap, ◌∙◌}
use mathlib.Core.List.{List, ◌++◌}
use lib.ListN.{length, take, drop, replicate, length-append, length-drop, length-replicate, take-append-drop}
use lib.Seq.{length-take-le, drop-append-add, drop-drop}
use Rattle.std.specs.Prelude.{Ok}
use Rattle.model.specs.Row.{Table, keys}
use Rattle.model.specs.Layer.{Layer}
use Rattle.model.specs.Raw.{layer_of, flat}
use Rattle.model.specs.Steps.{Step, step_on}
use Rattle.model.specs.Calls.{edited}
use Rattle.exact.proofs.Exactly.{counts}
use Rattle.exact.proofs.Tables.{fit_table}
use Rattle.exact.proofs.Rightful.{Sound, sound_of}
use Rattle.splice.specs.Splice.{laid}
use Rattle.store.proofs.Laws.{in_room}
use Rattle.write.proofs.Layers.{laid_edited}
use Rattle.fit.specs.Ready.{Ready}
use Rattle.fit.proofs.Answers.{fitted, ready_form}
use Rattle.edit.specs.Runs.{step_answer, Lent, step_slice}
use Rattle.edit.proofs.Accepting.{Accepts, accepts}
use Rattle.edit.proofs.Laws.{edit_layer, edit_next}

-- what stands behind the first n of k zeros and a rest
behind_zeros : (n k : ℕ) (zs : List ℕ) → drop n (replicate k 0 ++ zs) ≡ replicate (k - n) 0 ++ drop (n - k) zs
behind_zeros zero k zs = rw (sub-zero k, zero-sub k)
behind_zeros (suc n) zero zs = rw (zero-sub (suc n), sub-zero (suc n))
behind_zeros (suc n) (suc k) zs = rw (suc-sub-suc k n, suc-sub-suc n k) (behind_zeros n k zs)

-- numbers laid where others were laid, of which there were no more, lie as if they alone had been laid
pub laid_again : (xs ys : List ℕ) (old : ℕ) (raw : List ℕ) → length xs ≤ length ys
    → laid ys (length xs) (laid xs old raw) ≡ laid ys old raw
unfolding laid
laid_again xs ys old raw h =
    let more = length ys - length xs in
    let Z = replicate {A = ℕ} (old - length xs) 0 ++ drop (max old (length xs)) raw in
    let none : length xs - length ys ≡ 0 = omega arith in
    let past : max (length xs) (length ys) ≡ length xs + more = omega arith in
    rw (none, past) (ap (λ (t : List ℕ). ys ++ t) (drop-append-add xs Z more
    ∙ (behind_zeros more (old - length xs) (drop (max old (length xs)) raw)
    ∙ rw (
      zeros (length xs) (length ys) h,
      drop-drop (more - (old - length xs)) (max old (length xs)) raw,
      rest (length xs) (length ys) h,
    ))))
  where
    zeros : (x y : ℕ) → x ≤ y → old - x - (y - x) ≡ old - y
    zeros x y l = omega arith

    rest : (x y : ℕ) → x ≤ y → max old x + (y - x - (old - x)) ≡ max old y
    rest x y l = omega arith

-- a slice's own numbers laid at its front
pub laid_own : (n : ℕ) (raw : List ℕ) → n ≤ length raw → laid (take n raw) n raw ≡ raw
unfolding laid
laid_own n raw h =
    let l : length (take n raw) ≡ n = length-take-le n raw h in
    let z : n - n ≡ 0 = omega arith in
    let t : max n n ≡ n = omega arith in
    rw (l, z, t) (take-append-drop n raw)

-- numbers laid within a slice leave its length
pub laid_length : (ys : List ℕ) (old : ℕ) (raw : List ℕ) → old ≤ length raw → length ys ≤ length raw
    → length (laid ys old raw) ≡ length raw
unfolding laid
laid_length ys old raw h g =
    omega (
      arith,
      length-append ys (replicate (old - length ys) 0 ++ drop (max old (length ys)) raw),
      length-append (replicate (old - length ys) 0) (drop (max old (length ys)) raw),
      length-replicate {A = ℕ} (old - length ys) 0,
      length-drop (max old (length ys)) raw,
    )

-- An accepted call: what it leaves.
module _ (c m : ℕ) (raw : List ℕ) (T : Table) (x : Step) (k : ℕ) (l : Lent c T x) (h : step_answer c m raw T x ≡ Ok k) where
  -- the layer before and after it, and the slice after it
  abbrev was : Layer
  was = layer_of c m raw

  abbrev is : Layer
  is = step_on T x was

  abbrev after : List ℕ
  after = step_slice c m raw T x k

  call : Accepts c m raw T x k
  call = accepts c m raw T x k l h

  next : Ready c k after (keys T)
  next = fitted c k after (keys T) 0 (edit_next c m raw T x k l h)

  -- as many numbers as its entries have
  pub left_numbers : length (flat c is) ≡ k * (c + 2)
  left_numbers =
      ap (λ (N : Layer). length (flat c N)) (sym (edit_layer c m raw T x k l h))
      ∙ (ap length (ready_form next).numbers ∙ length-take-le (k * (c + 2)) after (ready_form next).held.room)

  -- they are laid where the old ones stood
  pub left_laid : after ≡ laid (flat c is) (m * (c + 2)) raw
  left_laid = sym (laid_edited c m k is raw (left_numbers ∙ ap (λ (n : ℕ). n * (c + 2)) (sym call.size)))

  -- the slice is as long as before
  pub edit_length : length after ≡ length raw
  edit_length =
      ap length left_laid
      ∙ laid_length (flat c is) (m * (c + 2)) raw call.form.held.room
      (omega (arith, left_numbers, (in_room c (length raw) k call.room).1))

  -- a layer that passes 1 to 4
  pub left_sound : Sound c k after (keys T)
  left_sound =
      let w = (counts (fit_table c k after (keys T)) 0 (edit_next c m raw T x k l h)).1 in
      sound_of c k after (keys T) k w.0 w.1.0 w.1.1.0 w.1.1.1.0

  -- the numbers of the old layer; laid there again they are the old slice
  pub own_numbers : length (flat c was) ≡ length was * (c + 2)
  own_numbers =
      ap length call.form.numbers ∙ (length-take-le (m * (c + 2)) raw call.form.held.room
      ∙ ap (λ (n : ℕ). n * (c + 2)) (sym call.form.size))

  pub own_slice : (j : ℕ) → edited c m (Ok j) was raw ≡ raw
  own_slice j =
      sym (laid_edited c m j was raw own_numbers)
      ∙ (ap (λ (ys : List ℕ). laid ys (m * (c + 2)) raw) call.form.numbers
      ∙ laid_own (m * (c + 2)) raw call.form.held.room)

  -- a layer of no fewer entries laid over what is left lies as if it had been laid at once
  pub over_left : (N : Layer) (i j : ℕ) → length (flat c N) ≡ length N * (c + 2) → k ≤ length N
      → edited c k (Ok i) N after ≡ edited c m (Ok j) N raw
  over_left N i j n g =
      sym (laid_edited c k i N after n)
      ∙ (ap (laid (flat c N) (k * (c + 2))) left_laid
      ∙ (ap (λ (o : ℕ). laid (flat c N) o (laid (flat c is) (m * (c + 2)) raw)) (sym left_numbers)
      ∙ (laid_again (flat c is) (flat c N) (m * (c + 2)) raw
      (omega (arith, left_numbers, n, mul-le-mul_right {m = k} {n = length N} (c + 2) g))
      ∙ laid_edited c m j N raw n)))
