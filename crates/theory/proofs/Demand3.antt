-- Demand 3 in one statement, over tests that compute: where two good layers are free of conflict, either may be moved
-- past the other, both orders are one table, and it is the first set done and then the second redone by key.
-- Assumes nothing.
use mathlib.Core.Path.{◌≡◌, refl, sym, ap, ◌∙◌}
use mathlib.Core.Bool.{Bool, true, false, ◌&&◌}
use mathlib.Core.List.{Memᴰ as Mem}
use Prim.Native.Nat.{ℕ, ◌-◌}
use lib.ListN.{length}
use lib.Dec.{leb}
use Rattle.order.specs.Lists.{one, count, ascending}
use Rattle.order.proofs.Counts.{count_map, count_same}
use Rattle.order.proofs.Ascending.{asc_of, of_asc}
use Rattle.model.specs.Row.{Table, key, keys}
use Rattle.model.specs.Limits.{most_rows}
use Rattle.model.specs.Layer.{Edit, Layer, is_add, is_strike, rows_after}
use Rattle.model.specs.Form.{in_order, keeps_form}
use Rattle.model.specs.Fit.{fits}
use Rattle.model.specs.Read.{read}
use Rattle.model.specs.Conflict.{conflict}
use Rattle.model.specs.Demand.{Conflicting}
use Rattle.model.specs.Move.{moved, move}
use Rattle.model.specs.Past.{Past}
use Rattle.theory.proofs.Layer.{by_kind}
use Rattle.theory.proofs.Fit.{Good, good_of, good_form, good_fits}
use Rattle.theory.proofs.Count.{read_ascends, read_length}
use Rattle.theory.proofs.Conflict.{apart, conflict_sym, conflicting, of_conflicting}
use Rattle.theory.proofs.Move.{Beside, move_good}
use Rattle.theory.proofs.Moved.{move_redo, both_orders}

-- a layer over T that passes the tests of the scope
pub record Tested (c : ℕ) (T : Table) (L : Layer) : Type 0 where
  pub formed : in_order c (length T) L ≡ true
  pub fitted : fits (keys T) L ≡ true

pub tested_good : (c : ℕ) (T : Table) (L : Layer) → ascending (keys T) ≡ true → Tested c T L → Good c T L
tested_good c T L t G = good_of c T L (asc_of key T t) G.formed G.fitted

-- two such layers, free of conflict
module _ (c : ℕ) (T : Table) (X Y : Layer) (t : ascending (keys T) ≡ true) (GX : Tested c T X) (GY : Tested c T Y)
    (n : conflict X Y ≡ false) where
  pub beside : Beside T X Y
  beside = record {
    ascends = asc_of key T t;
    mine = (tested_good c T X t GX).fit;
    theirs = (tested_good c T Y t GY).fit;
    apart = apart X Y n;
  }

  past : Beside T Y X → Past c T X Y
  past C =
      let a = read_ascends T Y beside.ascends beside.theirs in
      let M = move_good T X Y beside c (tested_good c T X t GX).each in
      record {
        ascends = of_asc key (read T Y) a;
        formed = good_form c (read T Y) (move X Y) a M;
        fitted = good_fits c (read T Y) (move X Y) a M;
        alike = both_orders T X Y beside C;
        redone = move_redo T X Y beside;
      }

-- a moved layer has as many adds and strikes, so the rows after both are those of both counts
pub move_rows_lem : (n : ℕ) (X Y : Layer) → rows_after n (move X Y) ≡ rows_after n X
move_rows_lem n X Y = rw (kept is_add adds, kept is_strike strikes)
  where
    kept : (f : Edit → Bool) → ((e : Edit) → Mem e X → one (f (moved Y e)) ≡ one (f e)) → count f (move X Y) ≡ count f X
    kept f h = count_map (moved Y) f X ∙ count_same (λ e. f (moved Y e)) f X h

    adds : (e : Edit) → Mem e X → one (is_add (moved Y e)) ≡ one (is_add e)
    adds = by_kind (λ e. one (is_add (moved Y e)) ≡ one (is_add e)) X (λ p r m. refl) (λ p k m. refl) (λ p j e m. refl)

    strikes : (e : Edit) → Mem e X → one (is_strike (moved Y e)) ≡ one (is_strike e)
    strikes = by_kind (λ e. one (is_strike (moved Y e)) ≡ one (is_strike e)) X (λ p r m. refl) (λ p k m. refl) (λ p j e m. refl)

module _ (c : ℕ) (T : Table) (X Y : Layer) (t : ascending (keys T) ≡ true) (GX : Tested c T X) (GY : Tested c T Y)
    (n : conflict X Y ≡ false) where
  -- demand 3, the half that accepts
  pub demand3 : Past c T X Y × Past c T Y X
  demand3 =
      let n' = sym (conflict_sym X Y) ∙ n in
      (past c T X Y t GX GY n (beside c T Y X t GY GX n'), past c T Y X t GY GX n' (beside c T X Y t GX GY n))

  -- and the moved layer keeps form whole exactly where the rows after both are at most 4,096
  pub move_form : keeps_form c (length (read T Y)) (move X Y) ≡ leb (rows_after (rows_after (length T) Y) X) most_rows
  move_form =
      ap (λ (b : Bool). b && leb (rows_after (length (read T Y)) (move X Y)) most_rows) demand3.0.formed
      ∙ ap (λ (k : ℕ). leb k most_rows)
      (move_rows_lem (length (read T Y)) X Y ∙ ap (λ (k : ℕ). rows_after k X) (read_length T Y (tested_good c T Y t GY).fit))

-- demand 3, the half that refuses: the test is met exactly on the demand's three cases
pub record Exactly (X Y : Layer) : Type 0 where
  pub refused : conflict X Y ≡ true → Conflicting X Y
  pub only : Conflicting X Y → conflict X Y ≡ true

pub refused_exactly : (X Y : Layer) → Exactly X Y
refused_exactly X Y = record { refused = conflicting X Y; only = of_conflicting X Y }
