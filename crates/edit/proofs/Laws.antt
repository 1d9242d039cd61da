-- The promises of the edits: an accepted call leaves a layer that keeps form and fits, so that the next call meets no
-- refusal 2 or 4;
-- reading every column through it is the edited table; a run of calls from an empty layer is those edits done one after
-- the other by key.
-- Assumes nothing.
use Prim.Native.Nat.{ℕ, ◌+◌, ◌-◌, ◌*◌, ◌≤◌, ◌<◌, max}
use native.Mathlib.Omega.{arith}
use mathlib.Core.Path.{◌≡◌, refl, sym, ap, ◌∙◌}
use mathlib.Core.Bool.{true}
use mathlib.Core.List.{List, [], ◌∷◌, ◌++◌}
use lib.ListN.{length, drop, replicate, length-append}
use lib.Dec.{leb}
use borrow.Author.Tests.{le-leb}
use Rattle.words.specs.Answer.{Answer}
use Rattle.std.specs.Prelude.{Ok, Err}
use Rattle.order.specs.Lists.{in_turn}
use Rattle.order.proofs.Tests.{and_of}
use Rattle.order.proofs.Pairs.{pairs_weaker}
use Rattle.order.proofs.Ascending.{of_asc}
use Rattle.words.specs.declared.Refusal.{Refusal}
use Rattle.model.specs.Row.{Table, key, keys, column}
use Rattle.model.specs.Layer.{Layer, rows_after}
use Rattle.model.specs.Raw.{entries_at, layer_of, flat}
use Rattle.model.specs.Form.{follows, keeps_form, in_order}
use Rattle.model.specs.Fit.{fits}
use Rattle.model.specs.Read.{read}
use Rattle.model.specs.Edits.{before}
use Rattle.model.specs.Steps.{Step, step_on, step_by}
use Rattle.model.specs.Calls.{form_answer, fit_answer, shown_column, edited}
use Rattle.theory.proofs.Readback.{sound_wide, read_back, zeros_back}
use Rattle.theory.proofs.Edits.{before_follows}
use Rattle.theory.proofs.Fit.{good_form, good_fits, keys_length}
use Rattle.theory.proofs.Column.{Wide, column_read}
use Rattle.theory.proofs.Edited.{Reads}
use Rattle.theory.proofs.Steps.{empty_good, empty_reads, step_reads}
use Rattle.form.specs.InForm.{InForm}
use Rattle.form.proofs.Accepted.{accepts_form}
use Rattle.fit.proofs.Answers.{ready_fits}
use Rattle.store.proofs.Laws.{in_room}
use Rattle.write.proofs.Layers.{flat_length}
use Rattle.edit.specs.Runs.{step_answer, Lent, Allows, step_slice, Ran, still, first}
use Rattle.edit.proofs.Accepting.{Accepts, accepts}

-- an outcome is an accepted step, or leaves the slice as it was
module _ (c m : ℕ) (raw : List ℕ) (T : Table) (x : Step) (r : Answer) (new : List ℕ) (o : Allows c m raw T x r new) where
  with_answer : (a : Answer) → r ≡ a → new ≡ edited c m a (step_on T x (layer_of c m raw)) raw
  with_answer a e = o.1 ∙ ap (λ (t : Answer). edited c m t (step_on T x (layer_of c m raw)) raw) (sym o.0 ∙ e)

  pub accepted_outcome : (k : ℕ) → r ≡ Ok k → (step_answer c m raw T x ≡ Ok k) × (new ≡ step_slice c m raw T x k)
  accepted_outcome k e = (sym o.0 ∙ e, with_answer (Ok k) e)

  pub refused_outcome : (y : Refusal) → r ≡ Err y → new ≡ raw
  refused_outcome y e = with_answer (Err y) e

module _ (c m : ℕ) (raw : List ℕ) (T : Table) (x : Step) (k : ℕ) (l : Lent c T x) (h : step_answer c m raw T x ≡ Ok k) where
  abbrev K : List ℕ
  K = keys T

  abbrev L : Layer
  L = layer_of c m raw

  -- the layer that the scope's definition gives, and the slice after the call
  abbrev M : Layer
  M = step_on T x L

  abbrev after : List ℕ
  after = step_slice c m raw T x k

  A : Accepts c m raw T x k
  A = accepts c m raw T x k l h

  R : Reads c T M (step_by x (read T L))
  R = step_reads c T A.rising x L (read T L) (record { good = A.good; reads = refl }) A.allowed

  behind : List ℕ
  behind = replicate ((m - length M) * (c + 2)) 0 ++ drop (max m (length M) * (c + 2)) raw

  -- the slice holds the new layer
  pub edit_layer : layer_of c k after ≡ M
  unfolding behind
  edit_layer = read_back c (length T) A.form.held.some A.form.held.columns k M behind A.size
      R.good.each

  -- it keeps form and fits
  pub edit_keeps_form : keeps_form c (length T) (layer_of c k after) ≡ true
  edit_keeps_form =
      rw edit_layer (and_of (in_order c (length T) M) (leb (rows_after (length T) M) 4096)
      (good_form c T M A.rising R.good)
      (le-leb (rows_after (length T) M) 4096 A.rows))

  pub edit_fits : fits K (layer_of c k after) ≡ true
  edit_fits = rw edit_layer (good_fits c T M A.rising R.good)

  -- so the next call meets none of the refusals 1 to 4
  inside : (k ≤ 512) × (k * (c + 2) ≤ length after)
  unfolding behind
  inside =
      let w = in_room c (length raw) k A.room in (
        w.0,
        omega (
          arith,
          length-append (flat c M) behind,
          ap (λ (n : ℕ). n * (c + 2)) A.size,
          flat_length c M (λ e n. sound_wide c (length T) A.form.held.some e (R.good.each e n)),
        ),
      )

  next_form : InForm c (length T) k after
  unfolding behind
  next_form =
      accepts_form c (length T) k after
      (record {
        some = A.form.held.some;
        columns = A.form.held.columns;
        entries = inside.0;
        room = inside.1;
      })
      A.form.base
      (zeros_back c (length T) A.form.held.some A.form.held.columns k M behind A.size R.good.each)
      (rw edit_layer R.good.each)
      (rw edit_layer (pairs_weaker before follows M (λ d e n l g. before_follows d e g) R.good.fit.sorted))
      (rw edit_layer A.rows)

  pub edit_next_form : form_answer c (length T) k after ≡ Ok (rows_after (length T) M)
  edit_next_form = rw edit_layer at next_form

  pub edit_next : fit_answer c k after K ≡ Ok 0
  edit_next = ready_fits (record {
    form = rw (keys_length T) next_form;
    keys = of_asc key T A.rising;
    fit = edit_fits;
  })

  -- what is read through it is the edited table, and so is every column of it
  pub edit_reads : read T (layer_of c k after) ≡ step_by x (read T L)
  edit_reads = rw edit_layer R.reads

  pub edit_columns : Wide c T → (j : ℕ) → j < c → shown_column c k after (column j T) j ≡ column j (step_by x (read T L))
  edit_columns w j g = sym (column_read c j T (layer_of c k after) w g) ∙ ap (column j) edit_reads

  edit_good : Reads c T (layer_of c k after) (step_by x (read T L))
  edit_good = rw edit_layer R

-- a run of accepted calls
module _ (c : ℕ) (T : Table) where
  run_on : (xs : List Step) (m : ℕ) (raw : List ℕ) (n : ℕ) (end : List ℕ) (Q : Table) → Ran c T xs m raw n end
      → Reads c T (layer_of c m raw) Q → Reads c T (layer_of c n end) (in_turn step_by xs Q)
  run_on [] m raw n end Q still R = R
  run_on (x ∷ xs) m raw n end Q (first {k = k} l e r) R =
      run_on xs k (step_slice c m raw T x k) n end (step_by x Q) r (rw (← R.reads) (edit_good c m raw T x k l e))

  begin : (raw : List ℕ) → Reads c T (layer_of c 0 raw) T
  unfolding layer_of entries_at
  begin raw = record { good = empty_good c T; reads = empty_reads T }

  -- from an empty layer it reads as those edits done one after the other by key, in every column
  pub run_reads : (xs : List Step) (raw : List ℕ) (n : ℕ) (end : List ℕ) → Ran c T xs 0 raw n end
      → read T (layer_of c n end) ≡ in_turn step_by xs T
  run_reads xs raw n end r = (run_on xs 0 raw n end T r (begin raw)).reads

  pub run_columns : (xs : List Step) (raw : List ℕ) (n : ℕ) (end : List ℕ) → Ran c T xs 0 raw n end
      → Wide c T → (j : ℕ) → j < c → shown_column c n end (column j T) j ≡ column j (in_turn step_by xs T)
  run_columns xs raw n end r w j l = sym (column_read c j T (layer_of c n end) w l)
      ∙ ap (column j) (run_reads xs raw n end r)
