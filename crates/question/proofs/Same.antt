-- Two desks set one cell to one value, by the calls: theirs is committed, mine is moved past it and combined. One entry is left
-- for the cell, and layer and table are as if mine had not touched it.
-- Assumes nothing.
use Prim.Native.Nat.{ℕ}
use mathlib.Core.Path.{◌≡◌, sym, ap, ◌∙◌}
use mathlib.Core.List.{List, Memᴰ as Mem}
use Rattle.words.specs.Answer.{Answer}
use Rattle.std.specs.Prelude.{Ok}
use Rattle.order.specs.Lists.{count}
use Rattle.model.specs.Row.{Table, keys}
use Rattle.model.specs.Cell.{CellEdit}
use Rattle.model.specs.Layer.{Edit, at, change, Layer, changes_cell}
use Rattle.model.specs.Raw.{layer_of}
use Rattle.model.specs.Read.{read}
use Rattle.model.specs.Redo.{combine}
use Rattle.model.specs.Move.{move}
use Rattle.theory.proofs.Demand3.{Tested, demand3}
use Rattle.theory.proofs.Same.{sparing, once_layer, once_table, once_kept, once_entry, nothing_new}
use Rattle.pass.specs.Outcome.{Outcome as Moved}
use Rattle.pass.proofs.Moving.{Moves, moves}
use Rattle.demand.specs.Promises.{MovedPast}
use Rattle.demand.proofs.Promises.{tested, moved_past}
use Rattle.joined.specs.Promises.{Combined, Left}
use Rattle.joined.proofs.Promises.{left}

-- X stands in x, theirs, Y, in y; the move past it was accepted and left x', and combining Y with that was accepted and left out'
module _ (c : ℕ) (T : Table) (mx : ℕ) (x : List ℕ) (my : ℕ) (y : List ℕ) (q : Answer) (x' : List ℕ)
    (o : Moved c (keys T) mx x my y q x') (k : ℕ) (past : q ≡ Ok k)
    (out : List ℕ) (a : Answer) (out' : List ℕ) (p : Combined c (keys T) my y mx x' out a out') (n : ℕ) (done : a ≡ Ok n) where
  abbrev X : Layer
  X = layer_of c mx x

  abbrev Y : Layer
  Y = layer_of c my y

  abbrev Z : Layer
  Z = layer_of c n out'

  M : Moves c (keys T) mx x my y k
  M = moves c (keys T) mx x my y k (sym o.0 ∙ past)

  mine_tested : Tested c T X
  mine_tested = tested c T mx x my y mx x M.sides.mine

  theirs_tested : Tested c T Y
  theirs_tested = tested c T mx x my y my y M.sides.theirs

  moved : MovedPast c T X Y mx x'
  moved =
      moved_past c T mx x my y k M
      (demand3 c T X Y M.sides.mine.keys mine_tested theirs_tested M.free).0 q x' o past

  L : Left c T Y (layer_of c mx x') n out out'
  L = left c T my y mx x' out a out' p n done

  holds : Z ≡ combine (keys T) Y (move X Y)
  holds = L.holds ∙ ap (combine (keys T) Y) moved.holds

  reads : read T Z ≡ read (read T Y) (move X Y)
  reads = L.reads ∙ ap (read (read T Y)) moved.holds

  -- both change column j of base row s by f
  module _ (s j : ℕ) (f : CellEdit) (mine : Mem (at s (change j f)) X) (theirs : Mem (at s (change j f)) Y) where
    -- one entry is left for the cell, and it is that change
    pub committed_once : (count (changes_cell s j) Z ≡ 1) × Mem (at s (change j f)) Z
    committed_once = rw (holds) (
      once_entry c T X Y M.sides.mine.keys mine_tested theirs_tested M.free s j f mine theirs,
      once_kept c T X Y M.sides.mine.keys mine_tested theirs_tested M.free s j f mine theirs,
    )

    -- the layer, and the table, are as if mine had not changed the cell
    pub as_one_layer : Z ≡ combine (keys T) Y (move (sparing s j X) Y)
    as_one_layer =
        holds ∙ once_layer c T X Y M.sides.mine.keys mine_tested theirs_tested M.free s j f mine theirs

    pub as_one_table : read T Z ≡ read (read T Y) (move (sparing s j X) Y)
    as_one_table =
        reads ∙ once_table c T X Y M.sides.mine.keys mine_tested theirs_tested M.free s j f mine theirs

  -- where theirs has all that mine has, the layer left is theirs
  pub theirs_left : ((e : Edit) → Mem e X → Mem e Y) → Z ≡ Y
  theirs_left h = holds ∙ nothing_new c T X Y M.sides.mine.keys mine_tested theirs_tested M.free h
