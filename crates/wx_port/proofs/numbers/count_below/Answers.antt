use Rattle.std.proofs.Common.{arith, rules, ltb}
use Rattle.std.proofs.lemmas.List.Sorted.{IsPartitionPoint-from_clause, IsPartitionedBy-ltb}
use Rattle.std.proofs.lemmas.Bool.{ltb-true, ltb-false}
use Rattle.wx_port.proofs.numbers.count_below.Goals as goal

pub returns-clause-below : goal.returns-clause-below
returns-clause-below c =
    let at = IsPartitionPoint-from_clause (λ n. ltb n c.args.k) c.args.numbers.now _ c.partition_point.ensures.partitioned (IsPartitionedBy-ltb (λ n. n) c.args.numbers.now c.args.k c.requires) (λ a r f' h. search rules) in
    λ i h. ltb-true _ c.args.k (at.0 i 0 (omega arith) h)

pub returns-clause-above : goal.returns-clause-above
returns-clause-above c =
    let at = IsPartitionPoint-from_clause (λ n. ltb n c.args.k) c.args.numbers.now _ c.partition_point.ensures.partitioned (IsPartitionedBy-ltb (λ n. n) c.args.numbers.now c.args.k c.requires) (λ a r f' h. search rules) in
    λ i low high. ltb-false _ c.args.k (at.1 i 0 low high)
