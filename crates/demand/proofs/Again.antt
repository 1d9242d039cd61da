-- What a move leaves is accepted by the next call: over the keys of what theirs show, the moved layer keeps form and fits.
-- Assumes nothing.
use Prim.Native.Nat.{ℕ, ◌*◌, ◌+◌, ◌≤◌}
use native.Mathlib.Omega.{arith}
use mathlib.Core.Path.{◌≡◌, sym, ap, ◌∙◌}
use mathlib.Core.Bool.{true}
use mathlib.Core.List.{List, ◌++◌, Memᴰ as Mem}
use lib.ListN.{length, drop, length-append}
use Rattle.words.specs.Answer.{Answer}
use Rattle.std.specs.Prelude.{Ok}
use Rattle.order.proofs.Pairs.{AllPairs}
use Rattle.words.specs.declared.Entry.{Entry}
use Rattle.model.specs.Row.{Table, keys}
use Rattle.model.specs.Layer.{Edit, Layer, rows_after}
use Rattle.model.specs.Raw.{Held, entries_of, layer_of, flat}
use Rattle.model.specs.Form.{zeros, sound, follows}
use Rattle.model.specs.Read.{read}
use Rattle.model.specs.Move.{move}
use Rattle.model.specs.Past.{Past}
use Rattle.model.specs.Calls.{fit_answer}
use Rattle.theory.proofs.Fit.{keys_length}
use Rattle.theory.proofs.Raw.{layer_length}
use Rattle.theory.proofs.Readback.{zeros_back}
use Rattle.theory.proofs.Count.{read_length}
use Rattle.theory.proofs.Demand3.{demand3, move_rows_lem}
use Rattle.theory.proofs.Position as position
use Rattle.form.proofs.Accepted.{accepts_form}
use Rattle.fit.specs.Ready.{Ready}
use Rattle.fit.proofs.Answers.{ready_form, ready_fits}
use Rattle.pass.specs.Outcome.{Outcome}
use Rattle.pass.proofs.Sides.{good_side, move_length}
use Rattle.pass.proofs.Moving.{Moves, moves}
use Rattle.demand.specs.Promises.{MovedPast}
use Rattle.demand.proofs.Promises.{slice_of_lem, tested, moved_past, moved_entries}

module _ (c : ℕ) (T : Table) (mx : ℕ) (x : List ℕ) (my : ℕ) (y : List ℕ) (r : Answer) (x' : List ℕ)
    (o : Outcome c (keys T) mx x my y r x') (k : ℕ) (e : r ≡ Ok k) where
  abbrev X : Layer
  X = layer_of c mx x

  abbrev Y : Layer
  Y = layer_of c my y

  abbrev N : List ℕ
  N = keys (read T Y)

  M : Moves c (keys T) mx x my y k
  M = moves c (keys T) mx x my y k (sym o.0 ∙ e)

  P : Past c T X Y
  P = (demand3 c T X Y M.sides.mine.keys (tested c T mx x my y mx x M.sides.mine)
      (tested c T mx x my y my y M.sides.theirs) M.free).0

  moved : MovedPast c T X Y mx x'
  moved = moved_past c T mx x my y k M P r x' o e

  held : Held c mx x
  held = (ready_form M.sides.mine).held

  written : x' ≡ flat c (move X Y) ++ drop (length (flat c (move X Y))) x
  written = slice_of_lem c (keys T) mx x my y r (Ok k) x' o e

  rows : length N ≡ rows_after (length (keys T)) Y
  rows =
      keys_length (read T Y)
      ∙ (read_length T Y (good_side c T my y M.sides.theirs).fit
      ∙ ap (λ (n : ℕ). rows_after n Y) (sym (keys_length T)))

  each : (d : Edit) → Mem d (move X Y) → sound c (length N) d ≡ true
  each = rw (keys_length (read T Y)) (position.formed c (length (read T Y)) (move X Y) P.formed).each

  pairs : AllPairs follows (move X Y)
  pairs = (position.formed c (length (read T Y)) (move X Y) P.formed).pairs

  ready : Ready c mx x' N
  ready = record {
    form = accepts_form c (length N) mx x'
        (record {
          some = held.some;
          columns = held.columns;
          entries = held.entries;
          room = omega (
            arith,
            move_length c (keys T) mx x my y M.sides,
            ap length written,
            length-append (flat c (move X Y)) (drop (length (flat c (move X Y))) x),
          );
        })
        (omega (arith, rows, (ready_form M.sides.theirs).few))
        (rw written (zeros_back c (length N) held.some held.columns mx (move X Y)
        (drop (length (flat c (move X Y))) x) (moved_entries X Y ∙ layer_length c mx x) each))
        (rw moved.holds each) (rw moved.holds pairs)
        (rw moved.holds (omega (arith, M.total, move_rows_lem (length N) X Y, ap (λ (n : ℕ). rows_after n X) rows)));
    keys = P.ascends;
    fit = moved.fitted;
  }

  pub moved_again : fit_answer c mx x' N ≡ Ok 0
  moved_again = ready_fits ready
