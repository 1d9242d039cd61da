-- Stores of moves, computed: which numbers, where, and what they leave.
-- Assumes nothing.
use mathlib.Core.Path.{◌≡◌, refl}
use mathlib.Core.Bool.{true, false}
use mathlib.Core.List.{List, [], ◌∷◌, ◌++◌, map}
use Prim.Native.Nat.{ℕ}
use lib.ListN.{replicate}
use Rattle.words.specs.declared.Origin.TheVariants.{Base as base, Added as added}
use Rattle.order.specs.Lists.{count}
use Rattle.std.specs.Prelude.{Some, None}
use Rattle.words.specs.Entry.{ADD, STRIKE, add_entry, strike_entry, change_entry}
use Rattle.model.specs.Row.{Table, key}
use Rattle.model.specs.Cell.{to, put}
use Rattle.model.specs.Layer.{Layer, at, add, change}
use Rattle.model.specs.Position.{origins}
use Rattle.model.specs.Steps.{adding, striking, changing, renumbering}
use Rattle.splice.specs.Splice.{laid, spliced_two}
use Rattle.splice.specs.declared.Splice.{Splice}
use Rattle.enter.specs.declared.Move.{Move}
use Rattle.enter.specs.declared.Move.TheVariants.{Entries as entries, Both as both, Number as number}
use Rattle.enter.specs.Move.{spliced, none_at, entered}
use Rattle.landing.specs.Landing.{landing}
use Rattle.edit.specs.OneMove.{move_for, holds_cell}
use Rattle.edit.specs.Stores.{Store, all_stored, covers, stores_of, place_of}

abbrev from : ℕ → List ℕ → Store
from n xs = record { at = n; numbers = xs }

-- how often each of the numbers ns is stored
abbrev times : List Store → List ℕ → List ℕ
times ss ns = map (λ n. count (covers n) ss) ns

-- One column and one entry, a strike: an add in front of it moves it, frees nothing, and stores three numbers.
abbrev struck : List ℕ
struck = 0 ∷ STRIKE ∷ 5 ∷ 9 ∷ 9 ∷ 9 ∷ 9 ∷ []

abbrev adds : Move
adds = entries (record { i = 0; gone = 0; comes = Some (add_entry 0 (3 ∷ replicate 7 0)) })

add_stores : stores_of 1 1 adds struck ≡ from 3 (0 ∷ STRIKE ∷ 5 ∷ []) ∷ from 6 [] ∷ from 0 (0 ∷ ADD ∷ 3 ∷ []) ∷ []
add_stores = refl

add_leaves : all_stored struck (stores_of 1 1 adds struck) ≡ 0 ∷ ADD ∷ 3 ∷ 0 ∷ STRIKE ∷ 5 ∷ 9 ∷ []
add_leaves = refl

add_enters : entered 1 1 adds struck ≡ 0 ∷ ADD ∷ 3 ∷ 0 ∷ STRIKE ∷ 5 ∷ 9 ∷ []
unfolding spliced laid
add_enters = refl

add_times : times (stores_of 1 1 adds struck) (0 ∷ 2 ∷ 3 ∷ 5 ∷ 6 ∷ []) ≡ 1 ∷ 1 ∷ 1 ∷ 1 ∷ 0 ∷ []
add_times = refl

-- Three columns and three entries, two changes of row 1 and one of row 2: a strike of row 1 takes the place of its
-- changes, the third entry moves down, and five numbers become zero.
abbrev changed : List ℕ
changed = 1 ∷ 1 ∷ 7 ∷ 0 ∷ 0 ∷ (1 ∷ 2 ∷ 8 ∷ 0 ∷ 0 ∷ (2 ∷ 1 ∷ 4 ∷ 0 ∷ 0 ∷ (9 ∷ [])))

abbrev strikes : Move
strikes = entries (record { i = 0; gone = 2; comes = Some (strike_entry 1 6) })

strike_stores : stores_of 3 3 strikes changed
    ≡ from 5 (2 ∷ 1 ∷ 4 ∷ 0 ∷ 0 ∷ []) ∷ from 10 (replicate 5 0) ∷ from 0 (1 ∷ STRIKE ∷ 6 ∷ 0 ∷ 0 ∷ []) ∷ []
strike_stores = refl

strike_leaves : all_stored changed (stores_of 3 3 strikes changed)
    ≡ 1 ∷ STRIKE ∷ 6 ∷ 0 ∷ 0 ∷ (2 ∷ 1 ∷ 4 ∷ 0 ∷ 0 ∷ (replicate 5 0 ++ (9 ∷ [])))
strike_leaves = refl

-- A strike in the place of one change moves nothing and frees nothing.
strike_in_place : stores_of 3 1 (entries (record { i = 0; gone = 1; comes = Some (strike_entry 1 6) })) changed
    ≡ from 5 [] ∷ from 0 (1 ∷ STRIKE ∷ 6 ∷ 0 ∷ 0 ∷ []) ∷ []
strike_in_place = refl

-- The second change set to another value: one number.
value_stores : stores_of 3 3 (number (record { i = 1; j = 0; v = 5 })) changed ≡ from 7 (5 ∷ []) ∷ []
value_stores = refl

value_times : times (stores_of 3 3 (number (record { i = 1; j = 0; v = 5 })) changed) (6 ∷ 7 ∷ 8 ∷ []) ≡ 0 ∷ 1 ∷ 0 ∷ []
value_times = refl

-- Where a move begins to store.
place_of_add : place_of 1 (entries (record { i = 1; gone = 0; comes = Some (add_entry 0 (3 ∷ replicate 7 0)) })) ≡ 3
place_of_add = refl

place_of_value : place_of 3 (number (record { i = 1; j = 2; v = 4 })) ≡ 9
place_of_value = refl

-- Row 1 of three rows has two changes: which cells the layer holds, and which move each edit is.
abbrev three : Table
three = (10 ∷ 1 ∷ 2 ∷ []) ∷ (20 ∷ 3 ∷ 4 ∷ []) ∷ (30 ∷ 5 ∷ 6 ∷ []) ∷ []

abbrev two : Layer
two = at 1 (change 1 (to 5)) ∷ at 1 (change 2 (to 6)) ∷ []

held_cells : (holds_cell 2 two (base 1) ≡ true) × (holds_cell 3 two (base 1) ≡ false) × (holds_cell 2 two (base 0) ≡ false)
    × (holds_cell 2 [] (added 0) ≡ true)
held_cells = (refl, refl, refl, refl)

strike_moves : move_for three two (striking 1) ≡ entries (record { i = 0; gone = 2; comes = Some (strike_entry 1 20) })
unfolding landing origins key
strike_moves = refl

change_sets : move_for three two (changing 1 2 (to 9)) ≡ number (record { i = 1; j = 0; v = 9 })
unfolding landing origins key
change_sets = refl

change_comes : move_for three two (changing 2 1 (to 9))
    ≡ entries (record { i = 2; gone = 0; comes = Some (change_entry 2 1 9) })
unfolding landing origins key
change_comes = refl

add_comes : move_for three two (adding (15 ∷ 7 ∷ 8 ∷ []))
    ≡ entries (record { i = 0; gone = 0; comes = Some (add_entry 1 (15 ∷ 7 ∷ 8 ∷ replicate 5 0)) })
unfolding landing key
add_comes = refl

-- Row 1 gets another number: a lower one in front of its strike, a higher one behind, both with the changed values; its own
-- moves nothing.
abbrev struck_out : Splice
struck_out = record { i = 0; gone = 2; comes = Some (strike_entry 1 20) }

renumber_lower : move_for three two (renumbering 1 15)
    ≡ both (record { i = 0; gone = 0; comes = Some (add_entry 1 (15 ∷ 5 ∷ 6 ∷ replicate 5 0)) }) struck_out
unfolding landing origins key put
renumber_lower = refl

renumber_higher : move_for three two (renumbering 1 35)
    ≡ both struck_out (record { i = 2; gone = 0; comes = Some (add_entry 3 (35 ∷ 5 ∷ 6 ∷ replicate 5 0)) })
unfolding landing origins key put
renumber_higher = refl

renumber_same : move_for three two (renumbering 1 20) ≡ entries (none_at 2)
unfolding landing origins key put
renumber_same = refl

-- A row added in front of row 1: its entry goes, or gets the value.
abbrev one : Layer
one = at 1 (add (15 ∷ 7 ∷ 8 ∷ [])) ∷ two

added_goes : move_for three one (striking 1) ≡ entries (record { i = 0; gone = 1; comes = None })
unfolding landing origins key
added_goes = refl

added_set : move_for three one (changing 1 2 (to 9)) ≡ number (record { i = 0; j = 2; v = 9 })
unfolding landing origins key
added_set = refl

added_renumbered : move_for three one (renumbering 1 25)
    ≡ both (record { i = 0; gone = 1; comes = None })
    (record { i = 3; gone = 0; comes = Some (add_entry 2 (25 ∷ 7 ∷ 8 ∷ replicate 5 0)) })
unfolding landing origins key put
added_renumbered = refl

-- One column and three entries: the last goes and another comes in front. The two between move up, each number once, what
-- stands behind stays, and nothing is freed.
abbrev entered_three : List ℕ
entered_three = 0 ∷ STRIKE ∷ 5 ∷ (1 ∷ STRIKE ∷ 6 ∷ (2 ∷ ADD ∷ 8 ∷ (9 ∷ 9 ∷ [])))

abbrev turns : Move
turns =
    both (record { i = 0; gone = 0; comes = Some (add_entry 0 (3 ∷ replicate 7 0)) })
    (record { i = 2; gone = 1; comes = None })

turn_stores : stores_of 1 3 turns entered_three
    ≡ from 3 (0 ∷ STRIKE ∷ 5 ∷ 1 ∷ STRIKE ∷ 6 ∷ []) ∷ from 9 [] ∷ from 0 (0 ∷ ADD ∷ 3 ∷ []) ∷ from 9 [] ∷ []
turn_stores = refl

turn_leaves : all_stored entered_three (stores_of 1 3 turns entered_three)
    ≡ 0 ∷ ADD ∷ 3 ∷ (0 ∷ STRIKE ∷ 5 ∷ (1 ∷ STRIKE ∷ 6 ∷ (9 ∷ 9 ∷ [])))
turn_leaves = refl

turn_enters : entered 1 3 turns entered_three ≡ 0 ∷ ADD ∷ 3 ∷ (0 ∷ STRIKE ∷ 5 ∷ (1 ∷ STRIKE ∷ 6 ∷ (9 ∷ 9 ∷ [])))
unfolding spliced_two laid
turn_enters = refl

-- The first and the last go: what stands between moves down, and six numbers are freed.
abbrev falls : Move
falls =
    both (record { i = 0; gone = 1; comes = None })
    (record { i = 2; gone = 1; comes = None })

fall_stores : stores_of 1 3 falls entered_three ≡ from 0 (1 ∷ STRIKE ∷ 6 ∷ []) ∷ from 3 [] ∷ from 3 (replicate 6 0) ∷ from 0 [] ∷ from 3 [] ∷ []
fall_stores = refl

place_of_turn : place_of 1 turns ≡ 0
place_of_turn = refl

-- Two come, and both parts move up: the one behind is stored first, since the other is written over its old place.
abbrev rises : Move
rises =
    both (record { i = 1; gone = 0; comes = Some (add_entry 1 (3 ∷ replicate 7 0)) })
    (record { i = 2; gone = 0; comes = Some (strike_entry 2 7) })

rise_stores : stores_of 1 3 rises entered_three
    ≡ from 12 (2 ∷ ADD ∷ 8 ∷ []) ∷ from 6 (1 ∷ STRIKE ∷ 6 ∷ []) ∷ from 15 [] ∷ from 3 (1 ∷ ADD ∷ 3 ∷ [])
    ∷ from 9 (2 ∷ STRIKE ∷ 7 ∷ [])
    ∷ []
rise_stores = refl

place_of_rise : place_of 1 rises ≡ 3
place_of_rise = refl
