-- The keys from one of them on, strictly ascending.
use Rattle.std.specs.Prelude.{Bool, List, ℕ, ◌+◌, get_or, drop}
use Rattle.order.specs.Lists.{rising}

-- the keys from number i on
unfoldable pub ascend_from : List ℕ → ℕ → Bool
ascend_from K i = rising (get_or K i 0) (drop (i + 1) K)
