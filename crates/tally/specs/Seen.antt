-- What an entry that is found counts in the shift at a base position.
use Rattle.std.specs.Prelude.{Bool, false, ℕ, leb, ltb}
use Rattle.entry.specs.declared.Sight.{Sight}
use Rattle.entry.specs.declared.Sight.TheVariants.{Add, Strike, Change}

-- what is found adds at a position up to and including s, or strikes at one before s
abbrev pub add_seen : ℕ → Sight → Bool
add_seen s (Add p k) = leb p s
add_seen s (Strike p k) = false
add_seen s (Change p j v) = false

abbrev pub strike_seen : ℕ → Sight → Bool
strike_seen s (Add p k) = false
strike_seen s (Strike p k) = ltb p s
strike_seen s (Change p j v) = false
