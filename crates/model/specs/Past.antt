-- What demand 3 promises of moving X past Y, in one record.
use Rattle.std.specs.Prelude.{◌≡◌, true, ℕ, length}
use Rattle.order.specs.Lists.{ascending}
use Rattle.model.specs.Row.{Table, keys}
use Rattle.model.specs.Layer.{Layer}
use Rattle.model.specs.Form.{in_order}
use Rattle.model.specs.Fit.{fits}
use Rattle.model.specs.Read.{read}
use Rattle.model.specs.Redo.{redo, on_table}
use Rattle.model.specs.Move.{move}

pub record Past (c : ℕ) (T : Table) (X Y : Layer) : Type 0 where
  -- what is read through Y is a table, and the moved X keeps form and fits it
  pub ascends : ascending (keys (read T Y)) ≡ true
  pub formed : in_order c (length (read T Y)) (move X Y) ≡ true
  pub fitted : fits (keys (read T Y)) (move X Y) ≡ true
  -- both orders are one table
  pub alike : read (read T Y) (move X Y) ≡ read (read T X) (move Y X)
  -- the first set done, then the second redone by key
  pub redone : read (read T Y) (move X Y) ≡ redo on_table (keys T) X (read T Y)
