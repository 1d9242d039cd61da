-- The operator's question over the calls: what was typed, moved past theirs, read through both and combined, by the slices that were lent.
-- Assumes nothing.
use Prim.Native.Nat.{ℕ, ◌≤◌, ◌<◌}
use native.Mathlib.Omega.{arith}
use mathlib.Core.Path.{◌≡◌, refl, sym, ap, ◌∙◌}
use mathlib.Core.Bool.{true, false}
use mathlib.Core.List.{List, [], ◌∷◌}
use lib.ListN.{length}
use Rattle.std.specs.Prelude.{Ok, Err}
use Rattle.order.proofs.Tests.{impossible}
use Rattle.words.specs.declared.Refusal.{Refusal}
use Rattle.words.specs.Answer.{cause_number, number_of, Answer}
use Rattle.model.specs.Row.{Table, keys, column}
use Rattle.model.specs.Layer.{Layer}
use Rattle.model.specs.Raw.{layer_of, flat}
use Rattle.model.specs.Read.{read}
use Rattle.model.specs.Demand.{Conflicting}
use Rattle.model.specs.Move.{move}
use Rattle.model.specs.Refusals.{Test, refuse, first_met}
use Rattle.model.specs.Calls.{edited, written, moved_layer, shown_column, move_rows, move_answer}
use Rattle.model.specs.Steps.{Step, step_on}
use Rattle.theory.proofs.Fit.{Good}
use Rattle.theory.proofs.Column.{Wide, column_read, read_wide}
use Rattle.theory.proofs.Demand3.{demand3}
use Rattle.theory.proofs.Stages.{stage_refuses, stage_passed}
use Rattle.edit.specs.Runs.{Allows, Lent, step_answer}
use Rattle.edit.proofs.Accepting.{Accepts, accepts}
use Rattle.edit.proofs.Laws.{edit_layer}
use Rattle.pass.specs.Outcome.{Outcome as Moved}
use Rattle.pair.specs.Pair.{pair_form, pair_rows}
use Rattle.pass.proofs.Sides.{good_side}
use Rattle.pass.proofs.Moving.{Moves, moves}
use Rattle.demand.specs.Promises.{MovedPast}
use Rattle.demand.proofs.Promises.{tested, moved_past, eight_exactly}
use Rattle.joined.specs.Promises.{Combined}
use Rattle.joined.proofs.Promises.{left}
use Rattle.question.specs.Typed.{Reached}
use Rattle.question.proofs.Typed.{reached}

-- tests with numbers up to 4 refuse with such a number
abbrev UpToFour : List Test → Type 0
UpToFour [] = Unit {0}
UpToFour (refuse k p t ∷ ts) = (cause_number k ≤ 4) × UpToFour ts

low : (ts : List Test) → UpToFour ts → (z : Refusal) → first_met {A = Answer} Err ts (Ok 0) ≡ Err z → cause_number z.cause ≤ 4
low [] u z h = impossible (cc)
low (refuse k p true ∷ ts) u z h = let w : z.cause ≡ k = cc in omega (arith, ap cause_number w, u.0)
low (refuse k p false ∷ ts) u z h = low ts u.1 z h

-- a refusal of the first four answers for the move
by_move : (c : ℕ) (K : List ℕ) (mx : ℕ) (xs : List ℕ) (my : ℕ) (y : List ℕ) (z : Refusal)
    → first_met {A = Answer} Err (pair_rows c K mx xs my y) (Ok 0) ≡ Err z → Err z ≡ move_answer c K mx xs my y
unfolding move_answer pair_form pair_rows
by_move c K mx xs my y z e =
    stage_refuses Err (pair_rows c K mx xs my y) (move_rows (length K) (layer_of c mx xs) (layer_of c my y)) 0 (Ok mx) z e

-- I typed x against the rows of my layer, which stands in `raw`; the call was accepted and left `new`, of k entries. Then the
-- move past theirs, which stands in y, answered q and left x'.
module _ (c : ℕ) (T : Table) (m : ℕ) (raw : List ℕ) (x : Step) (r : Answer) (new : List ℕ)
    (lent : Lent c T x) (typed : Allows c m raw T x r new) (k : ℕ) (done : r ≡ Ok k)
    (my : ℕ) (y : List ℕ) (q : Answer) (x' : List ℕ) (o : Moved c (keys T) k new my y q x') where
  abbrev K : List ℕ
  K = keys T

  abbrev L : Layer
  L = layer_of c m raw

  abbrev X : Layer
  X = step_on T x L

  abbrev Y : Layer
  Y = layer_of c my y

  answered : step_answer c m raw T x ≡ Ok k
  answered = sym typed.0 ∙ done

  A : Accepts c m raw T x k
  A = accepts c m raw T x k lent answered

  holds : layer_of c k new ≡ X
  holds =
      ap (layer_of c k) (typed.1 ∙ ap (λ (a : Answer). edited c m a X raw) answered)
      ∙ edit_layer c m raw T x k lent answered

  -- the move was accepted
  module _ (past : q ≡ Ok k) where
    M : Moves c K k new my y k
    M = moves c K k new my y k (sym o.0 ∙ past)

    theirs_good : Good c T Y
    theirs_good = good_side c T my y M.sides.theirs

    moved : MovedPast c T (layer_of c k new) Y k x'
    moved =
        moved_past c T k new my y k M
        (demand3 c T (layer_of c k new) Y M.sides.mine.keys (tested c T k new my y k new M.sides.mine)
        (tested c T k new my y my y M.sides.theirs) M.free).0 q x' o past

    lies : layer_of c k x' ≡ move X Y
    lies = moved.holds ∙ ap (λ (Z : Layer). move Z Y) holds

    -- the table read through both
    abbrev U : Table
    U = read (read T Y) (layer_of c k x')

    module _ (wide : Wide c T) where
      pub my_edit_reached : Reached T L Y x U
      my_edit_reached =
          rw lies (reached c T L Y A.rising A.good theirs_good wide x A.allowed (rw holds at M.free))

      -- its columns, read one by one through theirs and then through what the move left
      pub both_columns : (j : ℕ) → j < c → shown_column c k x' (shown_column c my y (column j T) j) j ≡ column j U
      both_columns j h =
          sym (column_read c j (read T Y) (layer_of c k x') (read_wide c T Y wide theirs_good) h
          ∙ ap (λ (xs : List ℕ). shown_column c k x' xs j) (column_read c j T Y wide h))

    -- and through what combining theirs and mine leaves
    pub combined_reads : (out : List ℕ) (a : Answer) (out' : List ℕ) → Combined c K my y k x' out a out'
        → (n : ℕ) → a ≡ Ok n → read T (layer_of c n out') ≡ U
    combined_reads out a out' p n e = (left c T my y k x' out a out' p n e).reads

  -- the move was refused with 8: one of the three cases holds, and no lent number changed
  pub refused_eight : number_of q ≡ 8 → Conflicting X Y × (x' ≡ new)
  unfolding pair_form pair_rows
  refused_eight h = (rw holds at (go (first_met Err (pair_rows c K k new my y) (Ok 0)) refl), kept q refl)
    where
      six : UpToFour (pair_rows c K k new my y)
      six = (omega arith, (omega arith, (omega arith, (omega arith, (omega arith, (omega arith, tt))))))

      go : (a : Answer) → first_met Err (pair_rows c K k new my y) (Ok 0) ≡ a → Conflicting (layer_of c k new) Y
      go (Ok l) e =
          let z : 0 ≡ l = (stage_passed (pair_rows c K k new my y) 0 l e).1 in
          (eight_exactly c K k new my y (e ∙ ap Ok (sym z)) q x' o).0 h
      go (Err z) e =
          let w : q ≡ Err z =
          o.0 ∙ sym (by_move c K k new my y z e) in
          absurd (omega (arith, h, ap number_of w, low (pair_rows c K k new my y) six z e))

      kept : (a : Answer) → q ≡ a → x' ≡ new
      kept (Ok l) e = absurd (omega (arith, h, ap number_of e))
      kept (Err z) e =
          o.1 ∙ ap (λ (a : Answer). written a (flat c (moved_layer c k new my y)) new) (sym o.0 ∙ e)
