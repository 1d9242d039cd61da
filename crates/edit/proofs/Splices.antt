-- An accepted edit is one move. Of the layer's edits one run goes, and at most one edit comes in its place; of a renumbering
-- two runs. In the slice it is one splice, two, or one value set.
-- Assumes nothing.
use Prim.Native.Nat.{ℕ, ◌+◌, ◌≤◌, ◌<◌}
use native.Mathlib.Omega.{arith}
use mathlib.Core.Path.{◌≡◌, refl, sym, ap, ◌∙◌}
use mathlib.Core.Bool.{Bool, true, false, not, ◌||◌, true≢false}
use mathlib.Core.List.{List, [], ◌∷◌}
use lib.ListN.{length, drop}
use Rattle.words.specs.declared.Origin.{Origin}
use Rattle.words.specs.declared.Origin.TheVariants.{Base as base, Added as added}
use Rattle.std.specs.Prelude.{Some, Ok}
use Rattle.order.specs.Lists.{one, any, count, filter}
use Rattle.order.proofs.Counts.{length_insert, filter_count}
use Rattle.model.specs.Row.{Table, keys}
use Rattle.model.specs.Cell.{CellEdit, to}
use Rattle.model.specs.Layer.{at, change, Layer, rows_after, changes_cell}
use Rattle.model.specs.Raw.{Held, layer_of}
use Rattle.words.specs.Entry.{change_entry}
use Rattle.model.specs.Read.{read}
use Rattle.model.specs.Position.{back}
use Rattle.model.specs.Edits.{before, composed, change_base, change_row_no}
use Rattle.model.specs.Steps.{Step, adding, striking, changing, renumbering, step_on}
use Rattle.theory.proofs.Fit.{keys_length}
use Rattle.theory.proofs.Count.{read_length}
use Rattle.enter.specs.declared.Move.{Move}
use Rattle.enter.specs.declared.Move.TheVariants.{Number as number}
use Rattle.enter.specs.Move.{count_after}
use Rattle.write.specs.Plans.{Plans, splices, OneRun, OneSplice}
use Rattle.store.proofs.Laws.{in_room}
use Rattle.write.proofs.Layers.{plan_splice, plan_count, plan_done, plan_within}
use Rattle.landing.specs.Landing.{aim, landing, changes_first}
use Rattle.landing.proofs.Known.{Known, known}
use Rattle.plan.specs.Moves.{one_of, change_move}
use Rattle.plan.proofs.Planned.{written, add_splices, strike_splices, change_plans, change_of_base, change_of_added}
use Rattle.plan.proofs.Renumbered.{renumber_plans}
use Rattle.edit.specs.Runs.{step_answer, Lent, step_slice, Allows}
use Rattle.edit.specs.OneMove.{move_for, OneMove, holds_cell, OneNumber}
use Rattle.edit.proofs.Accepting.{Accepts, accepts}
use Rattle.edit.proofs.Whole.{Whole, plan_whole}
use Rattle.edit.proofs.Laws.{accepted_outcome}

any_one : {A : Type 0} (f : A → Bool) (xs : List A) → any f xs ≡ true → 1 ≤ count f xs
any_one f [] h = absurd (true≢false (sym h))
any_one f (x ∷ xs) h = go (any_one f xs) (f x) h
  where
    go : (any f xs ≡ true → 1 ≤ count f xs) → (t : Bool) → t || any f xs ≡ true → 1 ≤ one t + count f xs
    go ih true e = omega arith
    go ih false e = omega (arith, ih e)

-- over a change of the cell a new one comes in its place
no_more : (s j : ℕ) (e : CellEdit) (L : Layer) → any (changes_cell s j) L ≡ true
    → length (change_base s j e L) ≤ length L
unfolding change_base
no_more s j e L h =
    omega (
      arith,
      length_insert before (at s (change j (composed s j e L))) (filter (λ d. not (changes_cell s j d)) L),
      filter_count (changes_cell s j) L,
      any_one (changes_cell s j) L h,
    )

-- an accepted edit is the move that it is said to be, of a layer that its slice holds; what comes is whole
abbrev pub Moves : ℕ → ℕ → List ℕ → Table → Step → ℕ → Type 0
Moves c m raw T x k =
    (let p = move_for T (layer_of c m raw) x in OneMove c m raw p k (step_slice c m raw T x k) × Held c m raw × Whole c p)

module _ (c m : ℕ) (raw : List ℕ) (T : Table) where
  abbrev K : List ℕ
  K = keys T

  abbrev L : Layer
  L = layer_of c m raw

  module _ {x : Step} {k : ℕ} (A : Accepts c m raw T x k) where
    N : Known c m raw K
    N = known A.ready

    -- a row that is read is one of those shown
    shown : (r : ℕ) → r < length (read T L) → r < rows_after (length K) L
    shown r h = omega (arith, read_length T L A.good.fit, ap (λ (n : ℕ). rows_after n L) (keys_length T))

    -- a change of column j of row number r
    module _ (r j v : ℕ) (h : r < rows_after (length K) L) (l : 1 ≤ j) (g : j < c) where
      abbrev spot : ℕ → ℕ
      spot s = landing (aim s j 0) L

      -- the move where value n of entry i is set; and that of base row s, whose change of the column stands already or not
      abbrev value_at : ℕ → ℕ → Move
      value_at i n = number (record { i = i; j = n; v = v })

      abbrev base_move : ℕ → Bool → Move
      base_move s t =
          one_of t (record { i = spot s; j = 0; v = v })
          (record { i = spot s; gone = 0; comes = Some (change_entry s j v) })

      base_plans : (s : ℕ) (t : Bool) → t ≡ changes_first s j (drop (spot s) L)
          → Plans c L (change_base s j (to v) L) (base_move s t)
      base_plans s t q = change_plans N s j v (spot s) l g refl t q (change_entry s j v) refl

      added_plans : (i : ℕ) → back (length K) L r ≡ added i → Plans c L (change_row_no K r j (to v) L) (value_at i j)
      added_plans i e = change_of_added N r h j v i e g

      changed_move : (o : Origin) → back (length K) L r ≡ o → Plans c L (change_row_no K r j (to v) L) (change_move L j v o)
      changed_move (base s) e =
          change_of_base N r h j v s e (change_move L j v (base s)) (base_plans s (changes_first s j (drop (spot s) L)) refl)
      changed_move (added i) e = added_plans i e

      -- where the layer holds a value of the cell, that value alone is set
      value_plans : (o : Origin) → back (length K) L r ≡ o → holds_cell j L o ≡ true
          → (i : ℕ) × (n : ℕ) × Plans c L (change_row_no K r j (to v) L) (value_at i n)
      value_plans (added i) e q = (i, j, added_plans i e)
      value_plans (base s) e q = go (changes_first s j (drop (spot s) L)) refl
        where
          go : (t : Bool) → t ≡ changes_first s j (drop (spot s) L)
              → (i : ℕ) × (n : ℕ) × Plans c L (change_row_no K r j (to v) L) (value_at i n)
          go true f = (spot s, 0, change_of_base N r h j v s e (value_at (spot s) 0) (base_plans s true f))
          go false f =
              absurd (omega (
                arith,
                plan_count c m raw L (written N) (base_plans s false f),
                no_more s j (to v) L q,
                N.acc.size,
              ))

  moved : (x : Step) (k : ℕ) → Accepts c m raw T x k → Plans c L (step_on T x L) (move_for T L x)
  moved (adding row) k A = splices (add_splices (N A) row A.allowed.0)
  moved (striking r) k A = splices (strike_splices (N A) r (shown A r A.allowed))
  moved (changing r j (to v)) k A =
      changed_move A r j v (shown A r A.allowed.0) A.allowed.1 A.allowed.2 (back (length K) L r) refl
  moved (renumbering r g) k A =
      renumber_plans T (N A) r g (shown A r A.allowed.0) A.allowed.1 A.allowed.2

  -- what an accepted edit leaves is what its move enters
  one_of_lem : {x : Step} {k : ℕ} (A : Accepts c m raw T x k) {p : Move} → Plans c L (step_on T x L) p
      → OneMove c m raw p k (step_slice c m raw T x k)
  one_of_lem {k = k} A {p} P =
      let W = written (N A) in
      let n : k ≡ count_after m p = sym (plan_count c m raw L W P ∙ A.size) in
      record {
        within = plan_within c m raw L W P;
        room = rw (← n) (in_room c (length raw) k A.room).1;
        count = n;
        slice = sym (plan_done c m raw L W P k);
      }

  module _ (x : Step) (k : ℕ) (l : Lent c T x) (h : step_answer c m raw T x ≡ Ok k) where
    pub edit_splice : OneRun (move_for T L x) → OneSplice L (step_on T x L)
    edit_splice o = plan_splice (moved x k (accepts c m raw T x k l h)) o

    pub whole_move : Moves c m raw T x k
    whole_move =
        let A = accepts c m raw T x k l h in
        let P = moved x k A in
        (one_of_lem A P, (N A).acc.held, plan_whole P)

    pub one_move : OneMove c m raw (move_for T L x) k (step_slice c m raw T x k)
    one_move = whole_move.0

  -- the same of what its contract allows
  pub allowed_move : (x : Step) (k : ℕ) (new : List ℕ) → Lent c T x → Allows c m raw T x (Ok k) new
      → OneMove c m raw (move_for T L x) k new
  allowed_move x k new l o =
      let w = accepted_outcome c m raw T x (Ok k) new o k refl in
      rw w.1 (one_move x k l w.0)

  -- a change of a cell of which the layer holds a value sets one number alone
  pub value_alone : (r j v k : ℕ) → step_answer c m raw T (changing r j (to v)) ≡ Ok k
      → holds_cell j L (back (length K) L r) ≡ true
      → OneNumber c m raw v k (step_slice c m raw T (changing r j (to v)) k)
  value_alone r j v k h q =
      let A = accepts c m raw T (changing r j (to v)) k tt h in
      let w = value_plans A r j v (shown A r A.allowed.0) A.allowed.1 A.allowed.2 (back (length K) L r) refl q in
      let o = one_of_lem A w.2 in
      record {
        i = w.0;
        j = w.1;
        entry = o.within.0;
        column = o.within.1;
        count = o.count;
        slice = o.slice;
      }
