-- Demand 3 of the call with no answer assumed: past refusals 1 to 4, with no conflict and at most 4,096 rows in the end, both
-- ways are accepted and both orders are one table. And the tie to the contract that `move_past` is proved to meet.
-- Assumes nothing.
use Prim.Native.Nat.{ℕ, ◌≤◌}
use native.Mathlib.Omega.{arith}
use mathlib.Core.Path.{◌≡◌, refl, sym, ap, ◌∙◌}
use mathlib.Core.Bool.{false, not, ◌&&◌}
use mathlib.Core.List.{List, ◌++◌}
use lib.ListN.{length, length-map}
use borrow.Author.Tests.{le-ltb, not-false}
use contract.Lifetimes.{Lfts}
use denote.Triple.Clauses.{AtExit}
use borrow.Fn.Kinds.{Dens, ended_of}
use Rattle.words.specs.Answer.{Answer}
use Rattle.std.specs.Prelude.{Ok, Err}
use Rattle.order.proofs.Tests.{not_passed, and_l, and_r, and_of}
use Rattle.order.proofs.Ascending.{asc_of}
use Rattle.model.specs.Row.{Table, key, keys}
use Rattle.model.specs.Layer.{Layer, rows_after}
use Rattle.model.specs.Raw.{layer_of}
use Rattle.model.specs.Read.{read}
use Rattle.model.specs.Form.{args_ok}
use Rattle.model.specs.Conflict.{conflict}
use Rattle.model.specs.Demand.{Conflicting}
use Rattle.model.specs.Move.{move}
use Rattle.model.specs.Past.{Past}
use Rattle.model.specs.Refusals.{first_met}
use Rattle.model.specs.Calls.{move_rows}
use Rattle.theory.proofs.Stages.{Passed, stage_passed, all_passed, stage_done}
use Rattle.theory.proofs.Fit.{good_of}
use Rattle.theory.proofs.Count.{read_length}
use Rattle.theory.proofs.Conflict.{conflicting, of_conflicting, conflict_sym}
use Rattle.theory.proofs.Demand3.{Tested, tested_good, demand3, move_rows_lem}
use Rattle.pass.specs.Outcome.{Outcome}
use Rattle.pair.specs.Pair.{pair_form, pair_rows}
use Rattle.pass.proofs.Sides.{Sides, sides}
use Rattle.pass.proofs.move_past.Kinds as move_kinds
use Rattle.pass.proofs.move_past.Reads as move_contract
use Rattle.demand.specs.Promises.{PassesFour, BothOrders}
use Rattle.demand.proofs.Promises.{answer, tested, both_orders}

-- the contract, as the call is proved to meet it, allows just these outcomes
pub outcome : (κs : Lfts 3) (a : Dens κs move_kinds.ps) (s : AtExit (ended_of 3 move_kinds.ps move_kinds.r) κs) (r : Answer)
    → move_contract.Post κs a r s
    → Outcome a.0 a.1.0.now a.1.1.0 a.1.1.1.0.now a.1.1.1.1.0 a.1.1.1.1.1.0.now r
    s.1.1.1.0.now
outcome κs a s r p = p

module _ (c : ℕ) (K : List ℕ) (mx : ℕ) (x : List ℕ) (my : ℕ) (y : List ℕ) (four : PassesFour c K mx x my y) where
  -- with no conflict and at most 4,096 rows, the move is accepted
  pub accepted : (Conflicting (layer_of c mx x) (layer_of c my y) → ⊥)
      → rows_after (rows_after (length K) (layer_of c my y)) (layer_of c mx x) ≤ 4096
      → (r : Answer) (x' : List ℕ) → Outcome c K mx x my y r x' → r ≡ Ok mx
  accepted apart few r x' o =
      let X = layer_of c mx x in
      let Y = layer_of c my y in
      o.0 ∙ (sym (answer c K mx x my y four)
      ∙ rw (not_passed (conflict X Y) (λ t. apart (conflicting X Y t)), le-ltb 4096 (rows_after (rows_after (length K) Y) X) few))

  -- refusals 1 to 4 are passed either way round
  pub turned : PassesFour c K my y mx x
  unfolding pair_form pair_rows
  turned =
      let w = (stage_passed (pair_rows c K mx x my y) 0 0 four).0 in
      let a = args_ok c (length K) mx (length x) in
      let b = args_ok c (length K) my (length y) in
      let ok = not-false (a && b) w.0 in
      all_passed Err (pair_rows c K my y mx x) (Ok 0) (
        ap not (and_of b a (and_r a b ok) (and_l a b ok)),
        (w.1.1.0, (w.1.0, (w.1.1.1.0, (w.1.1.1.1.1.0, (w.1.1.1.1.0, tt))))),
      )

module _ (c : ℕ) (T : Table) (mx : ℕ) (x : List ℕ) (my : ℕ) (y : List ℕ) (four : PassesFour c (keys T) mx x my y)
    (apart : Conflicting (layer_of c mx x) (layer_of c my y) → ⊥)
    (few : length (read (read T (layer_of c my y)) (move (layer_of c mx x) (layer_of c my y))) ≤ 4096) where
  abbrev X : Layer
  X = layer_of c mx x

  abbrev Y : Layer
  Y = layer_of c my y

  S : Sides c (keys T) mx x my y
  S = (sides c (keys T) mx x my y 0 0 four).0

  D : Past c T X Y × Past c T Y X
  D = demand3 c T X Y S.mine.keys (tested c T mx x my y mx x S.mine) (tested c T mx x my y my y S.theirs)
      (not_passed (conflict X Y) (λ t. apart (conflicting X Y t)))

  -- the rows in the end, either way round
  counted : (N Z : Layer) → Tested c T Z → Past c T N Z
      → length (read (read T Z) (move N Z)) ≡ rows_after (rows_after (length (keys T)) Z) N
  counted N Z G P =
      read_length (read T Z) (move N Z)
      (good_of c (read T Z) (move N Z) (asc_of key (read T Z) P.ascends) P.formed P.fitted).fit
      ∙ (move_rows_lem (length (read T Z)) N Z
      ∙ ap (λ (n : ℕ). rows_after n N) (read_length T Z (tested_good c T Z S.mine.keys G).fit
      ∙ ap (λ (n : ℕ). rows_after n Z) (sym (length-map T key))))

  mine_few : rows_after (rows_after (length (keys T)) Y) X ≤ 4096
  mine_few = omega (arith, few, counted X Y (tested c T mx x my y my y S.theirs) D.0)

  theirs_few : rows_after (rows_after (length (keys T)) X) Y ≤ 4096
  theirs_few = omega (arith, few, ap length D.0.alike, counted Y X (tested c T mx x my y mx x S.mine) D.1)

  swapped : Conflicting Y X → ⊥
  swapped C = apart (conflicting X Y (conflict_sym X Y ∙ of_conflicting Y X C))

  pub demand3_of_call : (r s : Answer) (x' y' : List ℕ) → Outcome c (keys T) mx x my y r x'
      → Outcome c (keys T) my y mx x s y' → (r ≡ Ok mx) × (s ≡ Ok my) × BothOrders c T mx x x' my y y'
  demand3_of_call r s x' y' o p =
      let e = accepted c (keys T) mx x my y four apart mine_few r x' o in
      let f = accepted c (keys T) my y mx x (turned c (keys T) mx x my y four) swapped theirs_few s y' p in
      (e, f, both_orders c T mx x my y (keys T) refl r s x' y' o p mx my e f)
