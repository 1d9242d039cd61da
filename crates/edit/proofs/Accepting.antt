-- What is known once an edit is accepted: the step is allowed on what is shown, and the result has room and at most
-- 4,096 rows.
-- Assumes nothing.
use Prim.Native.Nat.{ℕ, ◌≤◌, ◌<◌}
use native.Mathlib.Omega.{arith}
use mathlib.Core.Path.{◌≡◌, sym, ap, ◌∙◌}
use mathlib.Core.Bool.{Bool, true, false, ◌&&◌, true≢false}
use mathlib.Core.List.{List, [], ◌++◌, Memᴰ as Mem}
use lib.ListN.{length, get_or}
use lib.Dec.{ltb, eqb}
use borrow.Author.Tests.{ltb-true, ltb-false, leb-false, eqb-true, eqb-false, eq-eqb, not-false}
use Rattle.std.specs.Prelude.{Ok, Err}
use Rattle.order.specs.Lists.{any, ascending, without}
use Rattle.order.proofs.Tests.{and_l, and_r}
use Rattle.order.proofs.Members.{any_of, mem_map}
use Rattle.order.proofs.Ascending.{AscFrom, At, asc_of, get_or_at, at_mem}
use Rattle.order.proofs.Edited.{without_map}
use Rattle.model.specs.Row.{Row, Table, key, keys}
use Rattle.model.specs.Cell.{to}
use Rattle.model.specs.Layer.{Layer, rows_after}
use Rattle.model.specs.Raw.{layer_of, room as room_of}
use Rattle.model.specs.Form.{args_ok}
use Rattle.model.specs.Read.{read, keys_after}
use Rattle.model.specs.Refusals.{Test, first_met, shown_key}
use Rattle.model.specs.Steps.{Step, adding, striking, changing, renumbering, step_on, Allowed}
use Rattle.model.specs.Calls.{
  form_rows,
  fit_rows,
  add_rows,
  add_answer,
  strike_rows,
  strike_answer,
  change_rows,
  change_answer,
  renumber_rows,
  renumber_over,
}
use Rattle.theory.proofs.Fit.{Good, good_of, key_kept, keys_length, fits_all}
use Rattle.theory.proofs.Count.{read_length}
use Rattle.theory.proofs.Column.{Wide, keys_read, read_wide}
use Rattle.theory.proofs.Renumbered.{renumber_rows_lem}
use Rattle.theory.proofs.Edited.{strike_rows_lem, change_rows_lem}
use Rattle.theory.proofs.Stages.{Passed, stage_passed}
use Rattle.form.proofs.Accepted.{Accepted, in_form_by}
use Rattle.fit.specs.Ready.{Ready}
use Rattle.fit.proofs.Answers.{ready_form}
use Rattle.edit.specs.Runs.{step_answer, Lent}

-- what an accepted step of table T leaves
pub record Accepts (c m : ℕ) (raw : List ℕ) (T : Table) (x : Step) (k : ℕ) : Type 0 where
  pub ready : Ready c m raw (keys T)
  pub form : Accepted c (length T) m raw (rows_after (length T) (layer_of c m raw))
  pub rising : AscFrom key 0 T
  pub good : Good c T (layer_of c m raw)
  pub allowed : Allowed c x (read T (layer_of c m raw))
  pub size : length (step_on T x (layer_of c m raw)) ≡ k
  pub room : k ≤ room_of c (length raw)
  pub rows : rows_after (length T) (step_on T x (layer_of c m raw)) ≤ 4096

-- the tests of an accepted call have passed: the first four, and its own
pub all_rows : (c m : ℕ) (raw K : List ℕ) (ok : Bool) → (ok ≡ true → args_ok c (length K) m (length raw) ≡ true)
    → (us : List Test) (z k : ℕ)
    → first_met Err (form_rows ok c (length K) m raw ++ (fit_rows K (layer_of c m raw) ++ us)) (Ok z) ≡ Ok k
    → Ready c m raw K × (ok ≡ true) × Passed us × (z ≡ k)
all_rows c m raw K ok args us z k h =
    let w = stage_passed (form_rows ok c (length K) m raw ++ (fit_rows K (layer_of c m raw) ++ us)) z k h in
    let p = w.0 in
    let o = not-false ok p.0 in (
      record {
        form = in_form_by c (length K) m raw (args o) p.1.0;
        keys = not-false (ascending K) p.1.1.0;
        fit = fits_all K (layer_of c m raw) p.1.1.1.0;
      },
      o,
      p.1.1.1.1,
      w.1,
    )

module _ (c m : ℕ) (raw : List ℕ) (T : Table) where
  abbrev K : List ℕ
  K = keys T

  abbrev L : Layer
  L = layer_of c m raw

  abbrev args : Bool
  args = args_ok c (length K) m (length raw)

  module _ (R : Ready c m raw K) where
    form_is : Accepted c (length T) m raw (rows_after (length T) L)
    form_is = rw (sym (keys_length T)) (ready_form R)

    asc : AscFrom key 0 T
    asc = asc_of key T R.keys

    is_good : Good c T L
    is_good = good_of c T L asc form_is.ordered R.fit

    shown_count : length (read T L) ≡ rows_after (length K) L
    shown_count = read_length T L is_good.fit ∙ ap (λ (n : ℕ). rows_after n L) (sym (keys_length T))

    row_at_lem : (i : ℕ) → i < length (read T L) → At (get_or (read T L) i []) i 0 (read T L)
    row_at_lem i h = get_or_at (read T L) i [] h

    -- a key that is not shown is no row's
    free : (r : Row) → shown_key (key r) (keys_after K L) ≡ false → (q : Row) → Mem q (read T L) → key q ≡ key r → ⊥
    free r h q n e =
        true≢false (sym (any_of (eqb (key r)) (keys (read T L)) (key q) (mem_map key (read T L) q n)
        (eq-eqb (key r) (key q) (sym e)))
        ∙ (ap (any (eqb (key r))) (sym (keys_read T L (key_kept T L is_good.fit))) ∙ h))

    -- the same of every step: it is allowed, and the result has its room and its rows
    step_accepts : (x : Step) (k : ℕ) → Allowed c x (read T L) → length (step_on T x L) ≡ k
        → ltb (room_of c (length raw)) (length (step_on T x L)) ≡ false → rows_after (length T) (step_on T x L) ≤ 4096
        → Accepts c m raw T x k
    step_accepts x k a s t n = record {
      ready = R;
      form = form_is;
      rising = asc;
      good = is_good;
      allowed = a;
      size = s;
      room = omega (arith, ltb-false (room_of c (length raw)) (length (step_on T x L)) t);
      rows = n;
    }

  add_accepts : (row : Row) (k : ℕ) → add_answer c m raw K row ≡ Ok k → Accepts c m raw T (adding row) k
  unfolding add_answer
  add_accepts row k h =
      let own = eqb (length row) c in
      let w = all_rows c m raw K (args && own) (and_l args own) (add_rows c (length raw) K L row)
      (length (step_on T (adding row) L)) k h in
      let R = w.0 in
      let t = w.2 in
      step_accepts R (adding row) k (eqb-true (length row) c (and_r args own w.1), free R row t.0) w.3 t.1.0
      (rw (sym (keys_length T)) (ltb-false 4096 (rows_after (length K) (step_on T (adding row) L)) t.1.1.0))

  strike_accepts : (r k : ℕ) → strike_answer c m raw K r ≡ Ok k → Accepts c m raw T (striking r) k
  unfolding strike_answer
  strike_accepts r k h =
      let w = all_rows c m raw K args (λ o. o) (strike_rows c (length raw) K L r)
      (length (step_on T (striking r) L)) k h in
      let R = w.0 in
      let t = w.2 in
      let below : r < length (read T L) =
      omega (arith, leb-false (rows_after (length K) L) r t.0, shown_count R) in
      step_accepts R (striking r) k below w.3 t.1.0
      (omega (
        arith,
        strike_rows_lem c T L (asc R) (is_good R) r (get_or (read T L) r []) (row_at_lem R r below),
        (form_is R).few,
      ))

  change_accepts : (r j v k : ℕ) → change_answer c m raw K r j v ≡ Ok k → Accepts c m raw T (changing r j (to v)) k
  unfolding change_answer
  change_accepts r j v k h =
      let own = ltb j c in
      let w = all_rows c m raw K (args && own) (and_l args own) (change_rows c (length raw) K L r j (to v))
      (length (step_on T (changing r j (to v)) L)) k h in
      let R = w.0 in
      let t = w.2 in
      let below : r < length (read T L) =
      omega (arith, leb-false (rows_after (length K) L) r t.0, shown_count R) in
      let past : 1 ≤ j = omega (arith, eqb-false j 0 t.1.0) in
      let within = ltb-true j c (and_r args own w.1) in
      step_accepts R (changing r j (to v)) k (below, past, within) w.3 t.1.1.0
      (omega (
        arith,
        change_rows_lem c T L (asc R) (is_good R) r (get_or (read T L) r []) (row_at_lem R r below) j (to v) past within,
        (form_is R).few,
      ))

  -- a number that is shown in no other row is no other row's
  module _ (R : Ready c m raw K) where
    free_beside : (r g : ℕ) → shown_key g (without r (keys_after K L)) ≡ false → (q : Row) → Mem q (without r (read T L))
        → key q ≡ g → ⊥
    free_beside r g h q n e =
        true≢false (sym (any_of (eqb g) (without r (keys (read T L))) (key q)
        (rw (without_map key r (read T L)) (mem_map key (without r (read T L)) q n)) (eq-eqb g (key q) (sym e)))
        ∙ (ap (λ (Z : List ℕ). any (eqb g) (without r Z)) (sym (keys_read T L (key_kept T L (is_good R).fit))) ∙ h))

  renumber_accepts : (r g k : ℕ) → Wide c T → renumber_over true c m raw T r g ≡ Ok k
      → Accepts c m raw T (renumbering r g) k
  unfolding renumber_over
  renumber_accepts r g k wide h =
      let w = all_rows c m raw K (args && true) (and_l args true) (renumber_rows c (length raw) T L r g)
      (length (step_on T (renumbering r g) L)) k h in
      let R = w.0 in
      let t = w.2 in
      let below : r < length (read T L) =
      omega (arith, leb-false (rows_after (length K) L) r t.0, shown_count R) in
      let some = (form_is R).held.some in
      let long = read_wide c T L wide (is_good R) (get_or (read T L) r []) (at_mem (row_at_lem R r below)) in
      let free = free_beside R r g t.1.0 in
      step_accepts R (renumbering r g) k (below, some, long, free) w.3 t.1.1.0
      (omega (
        arith,
        renumber_rows_lem c T L (asc R) (is_good R) r g below some long free,
        (form_is R).few,
      ))

  pub accepts : (x : Step) (k : ℕ) → Lent c T x → step_answer c m raw T x ≡ Ok k → Accepts c m raw T x k
  accepts (adding row) k l h = add_accepts row k h
  accepts (striking r) k l h = strike_accepts r k h
  accepts (changing r j (to v)) k l h = change_accepts r j v k h
  accepts (renumbering r g) k l h = renumber_accepts r g k l h
