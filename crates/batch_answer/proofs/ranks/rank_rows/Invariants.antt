use Rattle.std.specs.List.{AllByRecursion}
use Rattle.ct_value.specs.Rows.{project}
use Rattle.rel_algebra.specs.Keys.{keys_in}
use Rattle.batch_answer.proofs.ByKey.{units, IsMember}
use Rattle.batch_answer.proofs.Turns.{Left}
use Rattle.batch_answer.proofs.Ranking.{firsts}
use Rattle.batch_answer.proofs.ranks.rank_rows.Given as goal

abbrev pub invariant-loop-members : goal.invariant-loop-members
invariant-loop-members l = Left (firsts l.partition l.order l.bound l.ranked l.fn.rows) (keys_in (project l.partition) l.fn.rows) l.first (units l.members-iterator)
    × AllByRecursion (IsMember (project l.partition) l.fn.rows) l.members-iterator
