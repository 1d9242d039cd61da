-- A value stored in a part of a list, and behind it.
-- Assumes nothing.
use mathlib.Core.Path.{◌≡◌, ap, ◌∙◌}
use mathlib.Core.List.{List}
use Prim.Native.Nat.{ℕ, ◌+◌, ◌≤◌, ◌<◌}
use lib.ListN.{take, drop, set}
use lib.Seq.{take-set-le, take-set-lt, drop-set-add}

pub part_set : (t : List ℕ) (size o i v : ℕ) → i < size →
    take size (drop o (set t (o + i) v)) ≡ set (take size (drop o t)) i v
part_set t size o i v h = ap (take size) (drop-set-add o t i v) ∙ take-set-lt size (drop o t) i v h

pub part_kept : (t : List ℕ) (size o i v : ℕ) → size ≤ i → take size (drop o (set t (o + i) v)) ≡ take size (drop o t)
part_kept t size o i v h = ap (take size) (drop-set-add o t i v) ∙ take-set-le size (drop o t) i v h
