-- The changes of one base row.
use Rattle.std.specs.Prelude.{Bool, ◌&&◌, ℕ, eqb, ltb}
use Rattle.model.specs.Layer.{Edit, on_change}

-- the edit changes base row s, in a column below c
abbrev pub own_change : ℕ → ℕ → Edit → Bool
own_change c s = on_change (λ p j. eqb s p && ltb j c)
