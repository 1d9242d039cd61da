-- Moving X past Y: only X's positions change.
use Rattle.std.specs.Prelude.{Bool, ◌&&◌, map, ℕ, ◌+◌, ◌-◌, ltb, eqb}
use Rattle.order.specs.Lists.{count}
use Rattle.model.specs.Row.{key}
use Rattle.model.specs.Layer.{add, strike, change, Edit, at, Layer, on_add}
use Rattle.model.specs.Position.{strike_before, row_of}

-- an add at a position before s
abbrev pub add_before : ℕ → Edit → Bool
add_before s = on_add (λ p r. ltb p s)

-- an add at s with key below k
abbrev pub add_here_below : ℕ → ℕ → Edit → Bool
add_here_below s k = on_add (λ p r. eqb s p && ltb (key r) k)

-- an add at s with key k moves by Y's adds before s, plus Y's adds at s with key below k, less Y's strikes before s
unfoldable pub add_position : Layer → ℕ → ℕ → ℕ
add_position Y s k = (s + (count (add_before s) Y + count (add_here_below s k) Y)) - count (strike_before s) Y

-- a strike or change at s moves by Y's adds up to and including s, less Y's strikes before s: to row s's number
abbrev pub moved : Layer → Edit → Edit
moved Y (at s (add r)) = at (add_position Y s (key r)) (add r)
moved Y (at s (strike k)) = at (row_of Y s) (strike k)
moved Y (at s (change j e)) = at (row_of Y s) (change j e)

abbrev pub move : Layer → Layer → Layer
move X Y = map (moved Y) X
