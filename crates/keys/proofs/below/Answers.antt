-- `keys::below` meets its contract: the keys below k stand in front.
-- Assumes nothing.
use lib.Dec.{ltb}
use Rattle.std.proofs.Common.{rules}
use Rattle.std.proofs.lemmas.List.Sorted.{IsPartitionPoint-from_clause, IsPartitionedBy-ltb}
use Rattle.keys.proofs.Ranked.{falls_nowhere, below_point}
use Rattle.keys.proofs.below.Goals as goal

pub returns : goal.returns
returns c =
    let a = c.args in
    let K = a.keys.now in
    let f = c.partition_point.ensures in
    below_point a.k K c.requires _ f.bound
    (IsPartitionPoint-from_clause (λ y. ltb y a.k) _ _ f.partitioned
    (IsPartitionedBy-ltb (λ x. x) K a.k (falls_nowhere K c.requires)) (λ b r q k. search rules))
