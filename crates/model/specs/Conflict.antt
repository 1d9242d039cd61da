-- Conflict: of two edits, as the rule that is met or none; of two layers, with the place of the lowest entry in any.
use Rattle.std.specs.Prelude.{Bool, not, cond, ◌&&◌, List, ℕ, eqb, Option, Some, None, is_some}
use Rattle.words.specs.declared.Rule.{Rule}
use Rattle.words.specs.declared.Rule.TheVariants.{StruckRow as struck_row, SameCell as same_cell, SameKey as same_key}
use Rattle.order.specs.Lists.{any, first_at}
use Rattle.model.specs.Row.{key}
use Rattle.model.specs.Cell.{agree}
use Rattle.model.specs.Layer.{Deed, add, strike, change, Edit, at, Layer}

-- the number of the rule that is met, 0 where none is
abbrev pub rule_number : Option Rule → ℕ
rule_number None = 0
rule_number (Some struck_row) = 1
rule_number (Some same_cell) = 2
rule_number (Some same_key) = 3

-- the rule that two edits of one base meet
abbrev pub clash : Edit → Edit → Option Rule
clash (at p (add q)) (at s (add r)) = cond (eqb (key q) (key r)) (Some same_key) None
clash (at p (add q)) (at s (strike k)) = None
clash (at p (add q)) (at s (change j e)) = None
clash (at p (strike l)) (at s (add r)) = None
clash (at p (strike l)) (at s (strike k)) = cond (eqb p s) (Some struck_row) None
clash (at p (strike l)) (at s (change j e)) = cond (eqb p s) (Some struck_row) None
clash (at p (change i f)) (at s (add r)) = None
clash (at p (change i f)) (at s (strike k)) = cond (eqb p s) (Some struck_row) None
clash (at p (change i f)) (at s (change j e)) = cond (eqb p s && (eqb i j && not (agree f e))) (Some same_cell) None

abbrev pub met : Option Rule → Bool
met = is_some

-- the edit x is in conflict with some edit of Y
abbrev pub clashes_with : Layer → Edit → Bool
clashes_with Y x = any (λ y. met (clash x y)) Y

-- two layers are in conflict; the place is the lowest entry number of X in any conflict
unfoldable pub conflict : Layer → Layer → Bool
conflict X Y = any (clashes_with Y) X

unfoldable pub conflict_place : Layer → Layer → ℕ
conflict_place X Y = first_at (clashes_with Y) X
