use Rattle.std.proofs.Common.{take}
use Rattle.std.specs.List.{AllByRecursion}
use Rattle.rel_algebra.specs.Aggregates.{agg_results}
use Rattle.rel_algebra.specs.Keys.{keys_in}
use Rattle.batch_answer.proofs.ByKey.{units, IsMember, group_made}
use Rattle.batch_answer.proofs.Turns.{Left}
use Rattle.batch_answer.proofs.groups.each_group.Given as goal

abbrev pub invariant-loop-key : goal.invariant-loop-key
invariant-loop-key l = Left (group_made (take l.keys) (agg_results l.columns l.aggs) l.fn.rows) (keys_in (take l.keys) l.fn.rows) l.made (units l.key-iterator)
    × AllByRecursion (IsMember (take l.keys) l.fn.rows) l.key-iterator
