-- Redoing a layer by key, its strikes, then its changes, then its adds: on a table, and as edits on a layer. Combining.
use Rattle.std.specs.Prelude.{Bool, true, false, not, cond, List, map, ℕ, get_or, ltb, eqb}
use Rattle.order.specs.Lists.{filter, insert, in_turn}
use Rattle.model.specs.Row.{Row, Table, key}
use Rattle.model.specs.Cell.{CellEdit, put}
use Rattle.model.specs.Layer.{Deed, add, strike, change, Edit, at, Layer}
use Rattle.model.specs.Read.{keys_after}
use Rattle.model.specs.Edits.{add_row, strike_row, change_row_no, row_of_key}

-- how the three edits are done by key to something
pub record ByKey (S : Type 0) : Type 0 where
  pub strikes : ℕ → S → S
  pub changes : ℕ → ℕ → CellEdit → S → S
  pub adds : Row → S → S

module _ {S : Type 0} where
  abbrev pub do_strike : ByKey S → Edit → S → S
  do_strike D (at s (add r)) x = x
  do_strike D (at s (strike k)) x = D.strikes k x
  do_strike D (at s (change j e)) x = x

  -- a change is of the key that stands at its position
  abbrev pub do_change : ByKey S → List ℕ → Edit → S → S
  do_change D K (at s (add r)) x = x
  do_change D K (at s (strike k)) x = x
  do_change D K (at s (change j e)) x = D.changes (get_or K s 0) j e x

  abbrev pub do_add : ByKey S → Edit → S → S
  do_add D (at s (add r)) x = D.adds r x
  do_add D (at s (strike k)) x = x
  do_add D (at s (change j e)) x = x

  -- a layer over the key column K redone on x
  abbrev pub redo : ByKey S → List ℕ → Layer → S → S
  redo D K L x = in_turn (do_add D) L (in_turn (do_change D K) L (in_turn (do_strike D) L x))

-- on a table
abbrev pub strike_key : ℕ → Table → Table
strike_key k T = filter (λ r. not (eqb (key r) k)) T

abbrev pub put_key : ℕ → ℕ → CellEdit → Row → Row
put_key k j e r = cond (eqb (key r) k) (put r j e) r

abbrev pub change_key : ℕ → ℕ → CellEdit → Table → Table
change_key k j e T = map (put_key k j e) T

abbrev pub row_before : Row → Row → Bool
row_before q r = ltb (key q) (key r)

abbrev pub add_key : Row → Table → Table
add_key r T = insert row_before r T

abbrev pub on_table : ByKey Table
on_table = record { strikes = strike_key; changes = change_key; adds = add_key }

-- on a layer over the key column K, as edits
abbrev pub on_layer : List ℕ → ByKey Layer
on_layer K = record {
  strikes = λ k L. strike_row K (row_of_key K L k) L;
  changes = λ k j e L. change_row_no K (row_of_key K L k) j e L;
  adds = λ r L. add_row K r L;
}

-- one layer that reads as R and then W in turn: R with W's strikes, then changes, then adds redone by key as edits
unfoldable pub combine : List ℕ → Layer → Layer → Layer
combine K R W = redo (on_layer K) (keys_after K R) W R
