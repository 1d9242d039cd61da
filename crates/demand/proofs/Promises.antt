-- What is promised of a move: demand 3 of the call, one outcome for each input, and a layer past itself.
-- Assumes nothing.
use Prim.Native.Nat.{ℕ, ◌*◌, ◌+◌, ◌≤◌, ◌<◌}
use native.Mathlib.Omega.{arith}
use mathlib.Core.Path.{◌≡◌, refl, sym, ap, ◌∙◌}
use mathlib.Core.Bool.{Bool, true, false, cond}
use mathlib.Core.List.{List, ◌++◌}
use lib.ListN.{length, drop, length-map, take-append-drop}
use lib.Seq.{length-take-le}
use lib.Dec.{ltb, leb}
use borrow.Author.Tests.{ltb-true, le-ltb, le-leb}
use Rattle.words.specs.declared.Cause.TheVariants.{InConflict, TooManyRows}
use Rattle.std.specs.Prelude.{Ok, Err}
use Rattle.order.specs.Lists.{one, any, count, first_at}
use Rattle.order.proofs.Tests.{and_of}
use Rattle.order.proofs.Counts.{count_map, count_same}
use Rattle.order.proofs.First.{first_passes, first_least}
use Rattle.words.specs.Answer.{number_of, Answer}
use Rattle.model.specs.Row.{Table, key, keys}
use Rattle.model.specs.Layer.{add, strike, change, Edit, at, Layer, is_add, is_strike, is_add_or_strike, rows_after}
use Rattle.model.specs.Raw.{layer_of, flat}
use Rattle.model.specs.Form.{in_order}
use Rattle.model.specs.Read.{read}
use Rattle.model.specs.Conflict.{clashes_with, conflict, conflict_place}
use Rattle.model.specs.Demand.{Conflicting}
use Rattle.model.specs.Move.{moved, move}
use Rattle.model.specs.Past.{Past}
use Rattle.model.specs.Refusals.{first_met}
use Rattle.words.specs.Answer.{refusal}
use Rattle.model.specs.Calls.{written, moved_layer, move_rows, move_answer}
use Rattle.theory.proofs.Raw.{layer_length}
use Rattle.theory.proofs.Readback.{read_back}
use Rattle.theory.proofs.Count.{read_length}
use Rattle.theory.proofs.Conflict.{conflicting, of_conflicting}
use Rattle.theory.proofs.Itself.{own_conflict, own_place, none_moved, rows_kept}
use Rattle.theory.proofs.Position as position
use Rattle.theory.proofs.Demand3.{Tested, demand3}
use Rattle.theory.proofs.Stages.{stage_done}
use Rattle.fit.specs.Ready.{Ready}
use Rattle.form.proofs.Accepted.{Accepted}
use Rattle.fit.proofs.Answers.{ready_form}
use Rattle.pass.specs.Outcome.{Outcome}
use Rattle.pair.specs.Pair.{pair_form, pair_rows}
use Rattle.pass.proofs.Sides.{sides, good_side}
use Rattle.pass.proofs.Moving.{conflict_place_lem, Moves, moves}
use Rattle.demand.specs.Promises.{PassesFour, Lowest, MovedPast, BothOrders}

-- any two outcomes that the contract allows are one
pub move_unique : (c : ℕ) (K : List ℕ) (mx : ℕ) (x : List ℕ) (my : ℕ) (y : List ℕ) (r s : Answer) (x' z' : List ℕ)
    → Outcome c K mx x my y r x' → Outcome c K mx x my y s z' → (r ≡ s) × (x' ≡ z')
move_unique c K mx x my y r s x' z' o p = (o.0 ∙ sym p.0, o.1 ∙ sym p.1)

-- what an answer says of the slice
pub slice_of_lem : (c : ℕ) (K : List ℕ) (mx : ℕ) (x : List ℕ) (my : ℕ) (y : List ℕ) (r s : Answer) (x' : List ℕ)
    → Outcome c K mx x my y r x' → r ≡ s → x' ≡ written s (flat c (moved_layer c mx x my y)) x
slice_of_lem c K mx x my y r s x' o e =
    o.1 ∙ ap (λ (a : Answer). written a (flat c (moved_layer c mx x my y)) x) (sym o.0 ∙ e)

lowest : (X Y : Layer) → conflict X Y ≡ true → Lowest X Y (conflict_place X Y)
unfolding conflict_place
lowest X Y h = record {
  within = place;
  clashes = first_passes (clashes_with Y) (at 0 (strike 0)) X place;
  least = first_least (clashes_with Y) (at 0 (strike 0)) X;
}
  where
    place : first_at (clashes_with Y) X < length X
    place = ltb-true (conflict_place X Y) (length X) (sym (conflict_place_lem X Y) ∙ h)

-- Demand 3, the half that refuses: past refusals 1 to 4, the answer is 8 exactly on the demand's cases, at the lowest
-- entry.
module _ (c : ℕ) (K : List ℕ) (mx : ℕ) (x : List ℕ) (my : ℕ) (y : List ℕ) (four : PassesFour c K mx x my y) where
  pub answer : first_met Err (move_rows (length K) (layer_of c mx x) (layer_of c my y)) (Ok mx) ≡ move_answer c K mx x my y
  unfolding move_answer pair_form pair_rows
  answer =
      stage_done Err (pair_rows c K mx x my y) (move_rows (length K) (layer_of c mx x) (layer_of c my y)) 0 0 (Ok mx)
      four

  eight : (t u : Bool) (p : ℕ)
      → number_of (cond t (Err (refusal InConflict p)) (cond u (Err (refusal TooManyRows 0)) (Ok mx))) ≡ 8 → t ≡ true
  eight true u p h = refl
  eight false true p h = absurd (omega arith)
  eight false false p h = absurd (omega arith)

  pub eight_exactly : (r : Answer) (x' : List ℕ) → Outcome c K mx x my y r x'
      → (number_of r ≡ 8 → Conflicting (layer_of c mx x) (layer_of c my y))
      × (Conflicting (layer_of c mx x) (layer_of c my y)
      → (r ≡ Err (refusal InConflict (conflict_place (layer_of c mx x) (layer_of c my y))))
      × Lowest (layer_of c mx x) (layer_of c my y) (conflict_place (layer_of c mx x) (layer_of c my y)))
  eight_exactly r x' o =
      let X = layer_of c mx x in
      let Y = layer_of c my y in
      let rows = rows_after (rows_after (length K) Y) X in (
        λ h.
            let e = ap number_of (answer ∙ sym o.0) ∙ h in
            conflicting X Y (eight (conflict X Y) (ltb 4096 rows) (conflict_place X Y) e),
        λ C.
            let t = of_conflicting X Y C in
            (o.0 ∙ (sym answer ∙ rw t), lowest X Y t),
      )

-- a moved layer has the entries that it had
pub moved_entries : (X Y : Layer) → length (move X Y) ≡ length X
moved_entries X Y = length-map X (moved Y)

-- each of the kind that it was
moved_kind : (Y : Layer) (e : Edit) → (is_add (moved Y e) ≡ is_add e) × (is_strike (moved Y e) ≡ is_strike e)
moved_kind Y (at s (add r)) = (refl, refl)
moved_kind Y (at s (strike k)) = (refl, refl)
moved_kind Y (at s (change j f)) = (refl, refl)

moved_adds : (X Y : Layer) → count is_add (move X Y) ≡ count is_add X
moved_adds X Y =
    count_map (moved Y) is_add X ∙ count_same (λ e. is_add (moved Y e)) is_add X (λ e m. ap one (moved_kind Y e).0)

moved_strikes : (X Y : Layer) → count is_strike (move X Y) ≡ count is_strike X
moved_strikes X Y =
    count_map (moved Y) is_strike X
    ∙ count_same (λ e. is_strike (moved Y e)) is_strike X (λ e m. ap one (moved_kind Y e).1)

-- Demand 3, the half that accepts: where neither way is refused, both orders, read by the reading rule, are one
-- table: the first set done, then the second redone by key.
module _ (c : ℕ) (T : Table) (mx : ℕ) (x : List ℕ) (my : ℕ) (y : List ℕ) where
  pub tested : (m : ℕ) (xs : List ℕ) → Ready c m xs (keys T) → Tested c T (layer_of c m xs)
  tested m xs R = record { formed = rw (sym (length-map T key)) (ready_form R).ordered; fitted = R.fit }

  -- what one way leaves
  pub moved_past : (k : ℕ) → Moves c (keys T) mx x my y k → Past c T (layer_of c mx x) (layer_of c my y)
      → (r : Answer) (x' : List ℕ) → Outcome c (keys T) mx x my y r x' → r ≡ Ok k
      → MovedPast c T (layer_of c mx x) (layer_of c my y) mx x'
  moved_past k M P r x' o e = record {
    holds = back;
    formed = rw back (and_of (in_order c rows (move X Y)) (leb (rows_after rows (move X Y)) 4096) P.formed
        (le-leb (rows_after rows (move X Y)) 4096 few));
    fitted = rw back P.fitted;
    redone = rw back P.redone;
  }
    where
      X : Layer
      X = layer_of c mx x

      Y : Layer
      Y = layer_of c my y

      rows : ℕ
      rows = length (read T Y)

      back : layer_of c mx x' ≡ move X Y
      back =
          let H = (ready_form M.sides.mine).held in
          ap (layer_of c mx) (slice_of_lem c (keys T) mx x my y r (Ok k) x' o e)
          ∙ read_back c rows H.some H.columns mx (move X Y) (drop (length (flat c (move X Y))) x)
          (moved_entries X Y ∙ layer_length c mx x) (position.formed c rows (move X Y) P.formed).each

      few : rows_after rows (move X Y) ≤ 4096
      few =
          omega (
            arith,
            M.total,
            read_length T Y (good_side c T my y M.sides.theirs).fit,
            length-map T key,
            moved_adds X Y,
            moved_strikes X Y,
          )

module _ (c : ℕ) (T : Table) (mx : ℕ) (x : List ℕ) (my : ℕ) (y : List ℕ) where
  both_orders_keys : (r s : Answer) (x' y' : List ℕ) → Outcome c (keys T) mx x my y r x'
      → Outcome c (keys T) my y mx x s y'
      → (k l : ℕ) → r ≡ Ok k → s ≡ Ok l → BothOrders c T mx x x' my y y'
  both_orders_keys r s x' y' o p k l e f = record {
    mine = mine;
    theirs = theirs;
    alike = rw (mine.holds, theirs.holds) D.0.alike;
  }
    where
      M : Moves c (keys T) mx x my y k
      M = moves c (keys T) mx x my y k (sym o.0 ∙ e)

      N : Moves c (keys T) my y mx x l
      N = moves c (keys T) my y mx x l (sym p.0 ∙ f)

      D : Past c T (layer_of c mx x) (layer_of c my y) × Past c T (layer_of c my y) (layer_of c mx x)
      D =
          demand3 c T (layer_of c mx x) (layer_of c my y) M.sides.mine.keys
          (tested c T mx x my y mx x M.sides.mine)
          (tested c T mx x my y my y M.sides.theirs) M.free

      mine : MovedPast c T (layer_of c mx x) (layer_of c my y) mx x'
      mine = moved_past c T mx x my y k M D.0 r x' o e

      theirs : MovedPast c T (layer_of c my y) (layer_of c mx x) my y'
      theirs = moved_past c T my y mx x l N D.1 s y' p f

  pub both_orders : (K : List ℕ) → keys T ≡ K → (r s : Answer) (x' y' : List ℕ)
      → Outcome c K mx x my y r x' → Outcome c K my y mx x s y' → (k l : ℕ) → r ≡ Ok k → s ≡ Ok l
      → BothOrders c T mx x x' my y y'
  both_orders K h r s x' y' o p = both_orders_keys r s x' y' (rw (← h) at o) (rw (← h) at p)

-- A layer past itself, past refusals 1 to 4: 8 at its first add or strike; where it has none, accepted and as it was.
module _ (c : ℕ) (K : List ℕ) (m : ℕ) (x : List ℕ) (four : PassesFour c K m x m x) (r : Answer) (x' : List ℕ)
    (o : Outcome c K m x m x r x') where
  abbrev X : Layer
  X = layer_of c m x

  formed : Accepted c (length K) m x (rows_after (length K) X)
  formed = ready_form (sides c K m x m x 0 0 four).0.mine

  pub itself_refused : any is_add_or_strike X ≡ true → (r ≡ Err (refusal InConflict (first_at is_add_or_strike X))) × (x' ≡ x)
  itself_refused h =
      let e =
      ((eight_exactly c K m x m x four r x' o).1 (conflicting X X (own_conflict X formed.pairs ∙ h))).0
      ∙ ap (λ (p : ℕ). Err (refusal InConflict p)) (own_place X formed.pairs) in
      (e, slice_of_lem c K m x m x r (Err (refusal InConflict (first_at is_add_or_strike X))) x' o e)

  module _ (quiet : any is_add_or_strike X ≡ false) where
    itself_passes : move_answer c K m x m x ≡ Ok m
    itself_passes =
        sym (answer c K m x m x four)
        ∙ rw (
          own_conflict X formed.pairs,
          quiet,
          rows_kept X quiet (length K),
          rows_kept X quiet (length K),
          le-ltb 4096 (length K) formed.base,
        )

    as_it_was : flat c X ++ drop (length (flat c X)) x ≡ x
    as_it_was =
        rw (formed.numbers, length-take-le (m * (c + 2)) x formed.held.room) (take-append-drop (m * (c + 2)) x)

    pub itself_accepted : (r ≡ Ok m) × (x' ≡ x)
    itself_accepted =
        let e = o.0 ∙ itself_passes in
        (e, slice_of_lem c K m x m x r (Ok m) x' o e ∙ (rw (none_moved X quiet X) as_it_was))
