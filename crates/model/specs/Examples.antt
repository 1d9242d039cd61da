-- E1 to E12 of the scope and those of requests 2 and 4, one table of data; and what it is for a line of it to hold.
use Rattle.std.specs.Prelude.{Bool, true, false, not, ◌&&◌, List, [], ◌∷◌, map, ℕ, length, ℤ, pos, negsuc, eqb}
use Rattle.order.specs.Lists.{in_turn}
use Rattle.model.specs.Row.{Table, keys}
use Rattle.model.specs.Cell.{to}
use Rattle.model.specs.Layer.{add, strike, change, at, Layer, position}
use Rattle.model.specs.Raw.{flat}
use Rattle.model.specs.Form.{keeps_form}
use Rattle.model.specs.Fit.{fits}
use Rattle.model.specs.Read.{read}
use Rattle.model.specs.Position.{shift}
use Rattle.model.specs.Steps.{Step, adding, striking, changing, renumbering, step_on, step_by}
use Rattle.model.specs.Redo.{redo, on_table, combine}
use Rattle.model.specs.Conflict.{conflict, conflict_place}
use Rattle.model.specs.Move.{move}

-- base, c = 2
abbrev pub four : Table
four = (10 ∷ 1 ∷ []) ∷ (20 ∷ 2 ∷ []) ∷ (30 ∷ 4 ∷ []) ∷ (40 ∷ 8 ∷ []) ∷ []

pub data Example : Type 0 where
  -- edits from an empty layer: the layer that they leave, the table read through it, which is theirs done by key
  edits : List Step → Layer → Table → Example
  -- shifts of a layer at base positions
  shifts : Layer → List ℕ → List ℤ → Example
  -- X and Y pass each other: X's positions past Y, Y's past X, the one table
  passes : Layer → Layer → List ℕ → List ℕ → Table → Example
  -- X is refused past Y: refusal 8 at this place
  refuses : Layer → Layer → ℕ → Example
  -- R and W are combined
  combines : Layer → Layer → Layer → Example

abbrev same_numbers : List ℕ → List ℕ → Bool
same_numbers [] [] = true
same_numbers [] (y ∷ ys) = false
same_numbers (x ∷ xs) [] = false
same_numbers (x ∷ xs) (y ∷ ys) = eqb x y && same_numbers xs ys

abbrev same_rows : Table → Table → Bool
same_rows [] [] = true
same_rows [] (y ∷ ys) = false
same_rows (x ∷ xs) [] = false
same_rows (x ∷ xs) (y ∷ ys) = same_numbers x y && same_rows xs ys

abbrev same_signed : ℤ → ℤ → Bool
same_signed (pos a) (pos b) = eqb a b
same_signed (pos a) (negsuc b) = false
same_signed (negsuc a) (pos b) = false
same_signed (negsuc a) (negsuc b) = eqb a b

abbrev all_signed : Layer → List ℕ → List ℤ → Bool
all_signed L [] [] = true
all_signed L [] (z ∷ zs) = false
all_signed L (s ∷ ss) [] = false
all_signed L (s ∷ ss) (z ∷ zs) = same_signed (shift L s) z && all_signed L ss zs

-- the layer keeps form and fits, and has these entries
abbrev is : Table → Layer → Layer → Bool
is T L M = keeps_form 2 (length T) L && (fits (keys T) L && same_numbers (flat 2 L) (flat 2 M))

abbrev good : Table → Layer → Bool
good T L = is T L L

abbrev pub holds : Example → Bool
holds (edits steps L T) =
    is four (in_turn (step_on four) steps []) L && same_rows (read four L) T && same_rows (in_turn step_by steps four) T
holds (shifts L ss zs) = good four L && all_signed L ss zs
holds (passes X Y ps qs T) =
    good four X && good four Y && not (conflict X Y)
    && same_numbers (map position (move X Y)) ps && same_numbers (map position (move Y X)) qs
    && good (read four Y) (move X Y) && good (read four X) (move Y X)
    && same_rows (read (read four Y) (move X Y)) T && same_rows (read (read four X) (move Y X)) T
    && same_rows (redo on_table (keys four) X (read four Y)) T
holds (refuses X Y place) = good four X && good four Y && conflict X Y && eqb (conflict_place X Y) place
holds (combines R W L) =
    good four R && good (read four R) W && is four (combine (keys four) R W) L
    && same_rows (read four L) (read (read four R) W)

-- the layer of E4
abbrev layer4 : Layer
layer4 = at 2 (add (25 ∷ 7 ∷ [])) ∷ at 2 (add (27 ∷ 9 ∷ [])) ∷ at 2 (strike 30) ∷ at 3 (add (33 ∷ 5 ∷ [])) ∷ []

abbrev steps3 : List Step
steps3 = adding (25 ∷ 7 ∷ []) ∷ striking 3 ∷ []

unfoldable pub examples : List Example
examples =
    -- E1 empty layer: the base
    edits [] [] four
    -- E2 add (25,7): entry 2 add; keys 10 20 25 30 40
    ∷ edits (adding (25 ∷ 7 ∷ []) ∷ []) (at 2 (add (25 ∷ 7 ∷ [])) ∷ [])
    ((10 ∷ 1 ∷ []) ∷ (20 ∷ 2 ∷ []) ∷ (25 ∷ 7 ∷ []) ∷ (30 ∷ 4 ∷ []) ∷ (40 ∷ 8 ∷ []) ∷ [])
    -- E3 then strike row 3: 2 add 25; 2 strike 30
    ∷ edits steps3 (at 2 (add (25 ∷ 7 ∷ [])) ∷ at 2 (strike 30) ∷ [])
    ((10 ∷ 1 ∷ []) ∷ (20 ∷ 2 ∷ []) ∷ (25 ∷ 7 ∷ []) ∷ (40 ∷ 8 ∷ []) ∷ [])
    -- E4 then add (27,9), (33,5): 27 at position 2 after 25, 33 at 3; keys 10 20 25 27 33 40
    ∷ edits (adding (25 ∷ 7 ∷ []) ∷ striking 3 ∷ adding (27 ∷ 9 ∷ []) ∷ adding (33 ∷ 5 ∷ []) ∷ []) layer4
    ((10 ∷ 1 ∷ []) ∷ (20 ∷ 2 ∷ []) ∷ (25 ∷ 7 ∷ []) ∷ (27 ∷ 9 ∷ []) ∷ (33 ∷ 5 ∷ []) ∷ (40 ∷ 8 ∷ []) ∷ [])
    -- E5 shifts of E4 at 0, 2, 3, 4: 0, 2, 2, 2
    ∷ shifts layer4 (0 ∷ 2 ∷ 3 ∷ 4 ∷ []) (pos 0 ∷ pos 2 ∷ pos 2 ∷ pos 2 ∷ [])
    -- E6 strike row 0 twice: shifts at 1, 2, 4: -1, -2, -2
    ∷ edits (striking 0 ∷ striking 0 ∷ []) (at 0 (strike 10) ∷ at 1 (strike 20) ∷ []) ((30 ∷ 4 ∷ []) ∷ (40 ∷ 8 ∷ []) ∷ [])
    ∷ shifts (at 0 (strike 10) ∷ at 1 (strike 20) ∷ []) (1 ∷ 2 ∷ 4 ∷ []) (negsuc 0 ∷ negsuc 1 ∷ negsuc 1 ∷ [])
    -- E7 X moves to 2, 3; Y past X stays 0, 2; both ways 20 22 25 30 40, the last with 9
    ∷ passes (at 2 (add (25 ∷ 7 ∷ [])) ∷ at 3 (change 1 (to 9)) ∷ []) (at 0 (strike 10) ∷ at 2 (add (22 ∷ 3 ∷ [])) ∷ [])
    (2 ∷ 3 ∷ []) (0 ∷ 2 ∷ [])
    ((20 ∷ 2 ∷ []) ∷ (22 ∷ 3 ∷ []) ∷ (25 ∷ 7 ∷ []) ∷ (30 ∷ 4 ∷ []) ∷ (40 ∷ 9 ∷ []) ∷ [])
    -- E8 X = 2 strike 30, Y = 2 change: refusal 8 place 0
    ∷ refuses (at 2 (strike 30) ∷ []) (at 2 (change 1 (to 5)) ∷ []) 0
    -- E9 both add (25,7): 8 place 0
    ∷ refuses (at 2 (add (25 ∷ 7 ∷ [])) ∷ []) (at 2 (add (25 ∷ 7 ∷ [])) ∷ []) 0
    -- E10 X = 2 add 26, 2 add 28, 3 change; Y = 1 strike 20, 2 strike 30: X moves to 1, 1, 1
    ∷ passes (at 2 (add (26 ∷ 0 ∷ [])) ∷ at 2 (add (28 ∷ 0 ∷ [])) ∷ at 3 (change 1 (to 9)) ∷ [])
    (at 1 (strike 20) ∷ at 2 (strike 30) ∷ []) (1 ∷ 1 ∷ 1 ∷ []) (1 ∷ 4 ∷ [])
    ((10 ∷ 1 ∷ []) ∷ (26 ∷ 0 ∷ []) ∷ (28 ∷ 0 ∷ []) ∷ (40 ∷ 9 ∷ []) ∷ [])
    -- E11 X = 2 strike 30, Y = 2 add 25: no conflict, X moves to 3
    ∷ passes (at 2 (strike 30) ∷ []) (at 2 (add (25 ∷ 0 ∷ [])) ∷ []) (3 ∷ []) (2 ∷ [])
    ((10 ∷ 1 ∷ []) ∷ (20 ∷ 2 ∷ []) ∷ (25 ∷ 0 ∷ []) ∷ (40 ∷ 8 ∷ []) ∷ [])
    -- E12 R = 2 strike 30; W = 2 add 35: 2 strike 30, 3 add 35; with W = 2 add 27: 2 add 27, 2 strike 30
    ∷ combines (at 2 (strike 30) ∷ []) (at 2 (add (35 ∷ 0 ∷ [])) ∷ []) (at 2 (strike 30) ∷ at 3 (add (35 ∷ 0 ∷ [])) ∷ [])
    ∷ combines (at 2 (strike 30) ∷ []) (at 2 (add (27 ∷ 0 ∷ [])) ∷ []) (at 2 (add (27 ∷ 0 ∷ [])) ∷ at 2 (strike 30) ∷ [])
    -- request 2: both set one cell to 5: each passes and stays, and one table has it; done one after the other it is one entry
    ∷ passes (at 2 (change 1 (to 5)) ∷ []) (at 2 (change 1 (to 5)) ∷ []) (2 ∷ []) (2 ∷ [])
    ((10 ∷ 1 ∷ []) ∷ (20 ∷ 2 ∷ []) ∷ (30 ∷ 5 ∷ []) ∷ (40 ∷ 8 ∷ []) ∷ [])
    ∷ combines (at 2 (change 1 (to 5)) ∷ []) (at 2 (change 1 (to 5)) ∷ []) (at 2 (change 1 (to 5)) ∷ [])
    -- one to 5, the other to 6: refusal 8, at the place of the change
    ∷ refuses (at 1 (strike 20) ∷ at 2 (change 1 (to 5)) ∷ []) (at 2 (change 1 (to 6)) ∷ []) 1
    -- request 4: a base row renumbered upward and downward keeps its other values, changes included; its changes go
    ∷ edits (renumbering 0 25 ∷ []) (at 0 (strike 10) ∷ at 2 (add (25 ∷ 1 ∷ [])) ∷ [])
    ((20 ∷ 2 ∷ []) ∷ (25 ∷ 1 ∷ []) ∷ (30 ∷ 4 ∷ []) ∷ (40 ∷ 8 ∷ []) ∷ [])
    ∷ edits (changing 3 1 (to 9) ∷ renumbering 3 15 ∷ []) (at 1 (add (15 ∷ 9 ∷ [])) ∷ at 3 (strike 40) ∷ [])
    ((10 ∷ 1 ∷ []) ∷ (15 ∷ 9 ∷ []) ∷ (20 ∷ 2 ∷ []) ∷ (30 ∷ 4 ∷ []) ∷ [])
    -- an added row past a base row, among adds at one position, and to its own number
    ∷ edits (adding (25 ∷ 7 ∷ []) ∷ renumbering 2 35 ∷ []) (at 3 (add (35 ∷ 7 ∷ [])) ∷ [])
    ((10 ∷ 1 ∷ []) ∷ (20 ∷ 2 ∷ []) ∷ (30 ∷ 4 ∷ []) ∷ (35 ∷ 7 ∷ []) ∷ (40 ∷ 8 ∷ []) ∷ [])
    ∷ edits (adding (25 ∷ 7 ∷ []) ∷ adding (27 ∷ 9 ∷ []) ∷ renumbering 2 29 ∷ [])
    (at 2 (add (27 ∷ 9 ∷ [])) ∷ at 2 (add (29 ∷ 7 ∷ [])) ∷ [])
    ((10 ∷ 1 ∷ []) ∷ (20 ∷ 2 ∷ []) ∷ (27 ∷ 9 ∷ []) ∷ (29 ∷ 7 ∷ []) ∷ (30 ∷ 4 ∷ []) ∷ (40 ∷ 8 ∷ []) ∷ [])
    ∷ edits (adding (25 ∷ 7 ∷ []) ∷ renumbering 2 25 ∷ []) (at 2 (add (25 ∷ 7 ∷ [])) ∷ [])
    ((10 ∷ 1 ∷ []) ∷ (20 ∷ 2 ∷ []) ∷ (25 ∷ 7 ∷ []) ∷ (30 ∷ 4 ∷ []) ∷ (40 ∷ 8 ∷ []) ∷ [])
    -- a base row to its own number: no entry; away and back: a strike, and an add of its own key in front of it
    ∷ edits (renumbering 1 20 ∷ []) [] four
    ∷ edits (renumbering 1 25 ∷ renumbering 1 20 ∷ []) (at 1 (add (20 ∷ 2 ∷ [])) ∷ at 1 (strike 20) ∷ []) four
    -- an added row away and back: the layer as it was
    ∷ edits (adding (25 ∷ 7 ∷ []) ∷ renumbering 2 45 ∷ renumbering 4 25 ∷ []) (at 2 (add (25 ∷ 7 ∷ [])) ∷ [])
    ((10 ∷ 1 ∷ []) ∷ (20 ∷ 2 ∷ []) ∷ (25 ∷ 7 ∷ []) ∷ (30 ∷ 4 ∷ []) ∷ (40 ∷ 8 ∷ []) ∷ [])
    ∷ []
