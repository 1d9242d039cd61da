-- What a renumbering answers, stage by stage: its arguments, the first four refusals, then its own rows.
-- Assumes nothing.
use Prim.Native.Nat.{ℕ, ◌*◌, ◌≤◌, ◌<◌, ◌/◌}
use native.Mathlib.Nat.{one-mul, mul_comm, mul-le-mul_right, le-div_iff_mul-le}
use native.Mathlib.Omega.{arith}
use mathlib.Core.Path.{◌≡◌, refl, sym, ap, ◌∙◌}
use mathlib.Core.Bool.{Bool, true, false, ◌&&◌}
use mathlib.Core.List.{List}
use lib.ListN.{length, take, length-map}
use lib.Seq.{length-take-le}
use lib.Dec.{leb}
use borrow.Author.Tests.{leb-true, leb-false, le-leb, lt-leb}
use Rattle.words.specs.declared.Cause.TheVariants.{BadArguments, NoSuchRow}
use Rattle.std.specs.Prelude.{Ok, Err}
use Rattle.order.proofs.Tests.{and_l, and_r}
use Rattle.words.specs.declared.Refusal.{Refusal}
use Rattle.words.specs.Answer.{refusal, Answer}
use Rattle.model.specs.Row.{Table, key, keys, columnwise}
use Rattle.model.specs.Layer.{Layer, rows_after}
use Rattle.model.specs.Raw.{layer_of}
use Rattle.model.specs.Form.{args_ok}
use Rattle.model.specs.Edits.{renumber_row}
use Rattle.model.specs.Refusals.{first_met}
use Rattle.model.specs.Calls.{ready_answer, edited, renumber_rows, renumber_over, renumber_answer, renumber_slice}
use Rattle.theory.proofs.Stages.{onward}
use Rattle.theory.proofs.Columnwise.{columnwise_length, columnwise_keys}
use Rattle.fit.proofs.Answers.{own_argument, after_own, rows_shown, is_ready}
use Rattle.plan.proofs.Answers.{Leaves, as_before, go_on_lem}
use Rattle.reseat.specs.Rest.{renumber_rest, Asked}

-- w numbers fit c times
pub fits_times : (c w len : ℕ) → 1 ≤ c → leb w (len / c) ≡ leb (c * w) len
fits_times c w len h = go (leb w (len / c)) refl (leb (c * w) len) refl
  where
    go : (t : Bool) → leb w (len / c) ≡ t → (u : Bool) → leb (c * w) len ≡ u → t ≡ u
    go true e true f = refl
    go true e false f =
        absurd (omega (
          arith,
          mul_comm c w,
          (le-div_iff_mul-le {k = c} {x = w} {y = len} (omega arith)).0 (leb-true w (len / c) e),
          leb-false (c * w) len f,
        ))
    go false e true f =
        absurd (omega (
          arith,
          (le-div_iff_mul-le {k = c} {x = w} {y = len} (omega arith)).1 (omega (arith, mul_comm c w, leb-true (c * w) len f)),
          leb-false w (len / c) e,
        ))
    go false e false f = refl

-- arguments that pass have a column
pub some_column : (c n m len : ℕ) → args_ok c n m len ≡ true → 1 ≤ c
unfolding args_ok
some_column c n m len h = leb-true 1 c (and_l (leb 1 c) _ h)

module _ (c n w m : ℕ) (raw B : List ℕ) (r g : ℕ) where
  abbrev T : Table
  T = columnwise c n w B

  abbrev L : Layer
  L = layer_of c m raw

  abbrev M : Layer
  M = renumber_row T r g L

  -- the table is lent whole
  abbrev own : Bool
  own = leb n w && leb (c * w) (length B)

  abbrev answer : Answer
  answer = renumber_over own c m raw T r g

  abbrev rest : Answer
  rest = first_met Err (renumber_rows c (length raw) T L r g) (Ok (length M))

  key_count : length (keys T) ≡ n
  key_count = length-map T key ∙ columnwise_length c n w B

  pub bad_args_lem : args_ok c n m (length raw) ≡ false → Err (refusal BadArguments 0) ≡ answer
  unfolding renumber_over
  bad_args_lem h =
      let e : args_ok c (length (keys T)) m (length raw) ≡ false = ap (λ (k : ℕ). args_ok c k m (length raw)) key_count ∙ h in
      rw e

  pub bad_table : own ≡ false → Err (refusal BadArguments 0) ≡ answer
  unfolding renumber_over
  bad_table h = own_argument Err c m raw (keys T) own (renumber_rows c (length raw) T L r g) (Ok (length M)) h

  stages : own ≡ true → answer ≡ onward Err (ready_answer c m raw (keys T)) rest
  unfolding renumber_over
  stages h = after_own Err c m raw (keys T) own (renumber_rows c (length raw) T L r g) (Ok (length M)) h

  -- The table is lent whole, and K are its first n numbers: these are its keys.
  module _ (some : 1 ≤ c) (h : own ≡ true) where
    within : n ≤ w
    within = leb-true n w (and_l (leb n w) (leb (c * w) (length B)) h)

    whole : c * w ≤ length B
    whole = leb-true (c * w) (length B) (and_r (leb n w) (leb (c * w) (length B)) h)

    pub in_slice : n ≤ length B
    in_slice = omega (arith, within, whole, one-mul w, mul-le-mul_right {m = 1} {n = c} w some)

    module _ (K : List ℕ) (first : K ≡ take n B) where
      keys_are : keys T ≡ K
      keys_are = columnwise_keys c n w B some in_slice ∙ sym first

      count_are : length K ≡ n
      count_are = ap length first ∙ length-take-le n B in_slice

      staged : answer ≡ onward Err (ready_answer c m raw K) rest
      staged = stages h ∙ ap (λ (Z : List ℕ). onward Err (ready_answer c m raw Z) rest) keys_are

      pub refused_before : (x : Refusal) → ready_answer c m raw K ≡ Err x → Err x ≡ answer
      refused_before = as_before c m raw K rest staged

      -- past the first four refusals, with k rows shown
      module _ (k : ℕ) (passed : ready_answer c m raw K ≡ Ok k) where
        shown : k ≡ rows_after (length (keys T)) L
        shown = rows_shown c m raw K k passed ∙ ap (λ (Z : List ℕ). rows_after (length Z) L) (sym keys_are)

        pub no_row : k ≤ r → Err (refusal NoSuchRow 0) ≡ answer
        no_row l =
            let e : leb (rows_after (length (keys T)) L) r ≡ true = le-leb _ r (omega (arith, shown)) in
            rw e at (go_on_lem c m raw K rest staged k passed)

        module _ (l : r < k) where
          pub asked : Asked c w m raw K B r
          asked = record {
            ready = is_ready c m raw K k passed;
            shown = omega (arith, rows_shown c m raw K k passed);
            own = first ∙ ap (λ (i : ℕ). take i B) (sym count_are);
            apart = omega (arith, within, count_are);
            whole = whole;
          }

          pub goes_on_lem : renumber_rest c (length raw) T L r g ≡ answer
          goes_on_lem =
              let e : leb (rows_after (length (keys T)) L) r ≡ false = lt-leb _ r (omega (arith, shown)) in
              rw e at (go_on_lem c m raw K rest staged k passed)

          -- what the last stage leaves is what the call leaves
          pub ends : (x : Answer) (new : List ℕ)
              → (x ≡ renumber_rest c (length raw) (columnwise c (length K) w B) L r g)
              × (new ≡ edited c m x (renumber_row (columnwise c (length K) w B) r g L) raw)
              → Leaves c m raw answer M x new
          ends x new o =
              let e : x ≡ answer = rw count_are at o.0 ∙ goes_on_lem in
              (e, rw count_are at o.1 ∙ ap (λ (t : Answer). edited c m t M raw) e)

-- columns end to end start n numbers apart
pub end_to_end_lem : (c n m : ℕ) (raw B : List ℕ) (r g : ℕ) (x : Answer) (new : List ℕ)
    → (let a = renumber_over (leb n n && leb (c * n) (length B)) c m raw (columnwise c n n B) r g in
    (x ≡ a) × (new ≡ edited c m a (renumber_row (columnwise c n n B) r g (layer_of c m raw)) raw))
    → (x ≡ renumber_answer c n m raw B r g) × (new ≡ renumber_slice c n m raw B r g)
end_to_end_lem c n m raw B r g x new o = rw (le-leb n n (omega arith)) at o
