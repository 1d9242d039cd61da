-- What a layer means for one key: the deeds that concern it, wherever they stand; and what they make of the row of that key.
use Rattle.std.specs.Prelude.{Bool, true, false, cond, List, [], ◌∷◌, ℕ, get_or, eqb}
use Rattle.order.specs.Lists.{gather, in_turn}
use Rattle.model.specs.Row.{Row, Table, key}
use Rattle.model.specs.Cell.{put}
use Rattle.model.specs.Layer.{Deed, add, strike, change, Edit, at, Layer}

-- the key that an edit over the key column K concerns: the added row's, the struck one, the one that stands at its position
abbrev pub key_of : List ℕ → Edit → ℕ
key_of K (at s (add r)) = key r
key_of K (at s (strike k)) = k
key_of K (at s (change j e)) = get_or K s 0

-- the deed of an edit, where it concerns key k
abbrev pub concerning : List ℕ → ℕ → Edit → List Deed
concerning K k (at s d) = cond (eqb (key_of K (at s d)) k) (d ∷ []) []

-- nothing, an added row, a strike, an added row and a strike, or changes of cells
unfoldable pub meaning : List ℕ → Layer → ℕ → List Deed
meaning K L k = gather (concerning K k) L

-- the row of a key in a table, if there is one
pub data Found : Type 0 where
  row : Row → Found
  missing : Found

abbrev pub lookup : ℕ → Table → Found
lookup k [] = missing
lookup k (x ∷ T) = cond (eqb (key x) k) (row x) (lookup k T)

-- what deeds make of a row: strikes take it away, changes change it, an added row takes its place
abbrev pub strike_found : Deed → Found → Found
strike_found (add r) f = f
strike_found (strike k) f = missing
strike_found (change j e) f = f

abbrev pub change_found : Deed → Found → Found
change_found (add r) f = f
change_found (strike k) f = f
change_found (change j e) (row q) = row (put q j e)
change_found (change j e) missing = missing

abbrev pub add_found : Deed → Found → Found
add_found (add r) f = row r
add_found (strike k) f = f
add_found (change j e) f = f

unfoldable pub given : List Deed → Found → Found
given ds f = in_turn add_found ds (in_turn change_found ds (in_turn strike_found ds f))
