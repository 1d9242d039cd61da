-- The answer of a move, case by case, and what X's slice then holds; and what an accepted move has passed.
-- Assumes nothing.
use Prim.Native.Nat.{ℕ, ◌+◌, ◌*◌, ◌≤◌, ◌<◌}
use native.Mathlib.Omega.{arith}
use mathlib.Core.Path.{◌≡◌, sym, ap, ◌∙◌}
use mathlib.Core.Bool.{false, cond}
use mathlib.Core.List.{List, ◌++◌}
use lib.ListN.{length, drop}
use lib.Dec.{ltb}
use borrow.Author.Tests.{ltb-false, lt-ltb, le-ltb}
use Rattle.words.specs.declared.Cause.TheVariants.{InConflict, TooManyRows}
use Rattle.std.specs.Prelude.{Ok, Err}
use Rattle.order.proofs.First.{any_first}
use Rattle.words.specs.declared.Refusal.{Refusal}
use Rattle.model.specs.Layer.{Layer, rows_after}
use Rattle.model.specs.Raw.{layer_of, flat}
use Rattle.model.specs.Conflict.{clashes_with, conflict, conflict_place}
use Rattle.model.specs.Refusals.{first_met}
use Rattle.words.specs.Answer.{refusal, Answer}
use Rattle.model.specs.Calls.{written, moved_layer, move_rows, move_answer}
use Rattle.theory.proofs.Raw.{layer_length}
use Rattle.theory.proofs.Stages.{stage, stage_refuses, stage_done, stage_passed, reached}
use Rattle.fit.proofs.Answers.{ready_form}
use Rattle.pass.specs.Outcome.{Outcome}
use Rattle.pair.specs.Pair.{pair_form, pair_rows, pair_total}
use Rattle.pair.proofs.Stages.{checked}
use Rattle.pass.proofs.Sides.{Sides, sides, move_length}

pub conflict_place_lem : (X Y : Layer) → conflict X Y ≡ ltb (conflict_place X Y) (length X)
unfolding conflict conflict_place
conflict_place_lem X Y = any_first (clashes_with Y) X

module _ (c : ℕ) (K : List ℕ) (mx : ℕ) (x : List ℕ) (my : ℕ) (y : List ℕ) where
  abbrev X : Layer
  X = layer_of c mx x

  abbrev Y : Layer
  Y = layer_of c my y

  pub refuses : (r : Refusal) → Err r ≡ move_answer c K mx x my y → Outcome c K mx x my y (Err r) x
  refuses r e = (e, ap (λ (a : Answer). written a (flat c (moved_layer c mx x my y)) x) e)

  -- a check of the pair that refuses answers for the move
  pub checked_refused : (r : Refusal) → checked c K mx x my y ≡ Err r → Outcome c K mx x my y (Err r) x
  unfolding move_answer pair_form pair_rows
  checked_refused r h =
      refuses r (stage_refuses Err (pair_rows c K mx x my y) (move_rows (length K) X Y)
      (pair_total c (length K) mx x my y) (Ok mx) r h)

  -- past it, conflict and the row total decide
  module _ (rows : ℕ) (h : checked c K mx x my y ≡ Ok rows) where
    pub ready : Sides c K mx x my y
    ready = (sides c K mx x my y (pair_total c (length K) mx x my y) rows h).0

    abbrev passing : Answer
    passing = first_met Err (move_rows (length K) X Y) (Ok mx)

    then : passing ≡ move_answer c K mx x my y
    unfolding move_answer pair_form pair_rows
    then =
        stage_done Err (pair_rows c K mx x my y) (move_rows (length K) X Y) (pair_total c (length K) mx x my y) rows
        (Ok mx) h

    module _ (p : ℕ) (ep : p ≡ conflict_place X Y) where
      clashing : p < mx → Err (refusal InConflict p) ≡ passing
      clashing l = rw (conflict_place_lem X Y, layer_length c mx x, ← ep, lt-ltb p mx l)

      pub clash_refused : p < mx → Outcome c K mx x my y (Err (refusal InConflict p)) x
      clash_refused l = refuses (refusal InConflict p) (clashing l ∙ then)

      abbrev rows_in_all : ℕ
      rows_in_all = rows_after (rows_after (length K) Y) X

      -- no conflict: the rows decide
      unopposed : mx ≤ p → cond (ltb 4096 rows_in_all) (Err (refusal TooManyRows 0)) (Ok mx) ≡ passing
      unopposed l = rw (conflict_place_lem X Y, layer_length c mx x, ← ep, le-ltb p mx l)

      by_rows : mx ≤ p → cond (ltb 4096 rows_in_all) (Err (refusal TooManyRows 0)) (Ok mx) ≡ move_answer c K mx x my y
      by_rows l = unopposed l ∙ then

      total : rows ≡ rows_after (length K) X + rows_after (length K) Y
      total = sym (sides c K mx x my y (pair_total c (length K) mx x my y) rows h).1

      pub rows_refused : mx ≤ p → 4096 + length K < rows → Outcome c K mx x my y (Err (refusal TooManyRows 0)) x
      rows_refused l g =
          refuses (refusal TooManyRows 0)
          (rw (lt-ltb 4096 rows_in_all (omega (arith, (ready_form ready.mine).strikes, total))) at (by_rows l))

      pub passes : mx ≤ p → rows ≤ 4096 + length K → (x' : List ℕ)
          → x' ≡ flat c (moved_layer c mx x my y) ++ drop (mx * (c + 2)) x → Outcome c K mx x my y (Ok mx) x'
      passes l g x' e =
          let a : Ok mx ≡ move_answer c K mx x my y =
          rw (le-ltb 4096 rows_in_all (omega (arith, (ready_form ready.mine).strikes, total))) at (by_rows l) in (
            a,
            e
                ∙ (ap (λ (n : ℕ). flat c (moved_layer c mx x my y) ++ drop n x) (sym (move_length c K mx x my y ready))
                ∙ ap (λ (r : Answer). written r (flat c (moved_layer c mx x my y)) x) a),
          )

-- an accepted move
pub record Moves (c : ℕ) (K : List ℕ) (mx : ℕ) (x : List ℕ) (my : ℕ) (y : List ℕ) (k : ℕ) : Type 0 where
  pub sides : Sides c K mx x my y
  pub free : conflict (layer_of c mx x) (layer_of c my y) ≡ false
  pub total : rows_after (rows_after (length K) (layer_of c my y)) (layer_of c mx x) ≤ 4096
  pub same : mx ≡ k

pub moves : (c : ℕ) (K : List ℕ) (mx : ℕ) (x : List ℕ) (my : ℕ) (y : List ℕ) (k : ℕ) → move_answer c K mx x my y ≡ Ok k
    → Moves c K mx x my y k
unfolding move_answer pair_form pair_rows
moves c K mx x my y k h =
    let X = layer_of c mx x in
    let Y = layer_of c my y in
    let w = reached (first_met Err (pair_rows c K mx x my y) (Ok 0))
    (sym (stage Err (pair_rows c K mx x my y) (move_rows (length K) X Y) 0 (Ok mx)) ∙ h) in
    let q = stage_passed (move_rows (length K) X Y) mx k w.2 in
    record {
      sides = (sides c K mx x my y 0 w.0 w.1).0;
      free = q.0.0;
      total = ltb-false 4096 (rows_after (rows_after (length K) Y) X) q.0.1.0;
      same = q.1;
    }
