use Rattle.ct_value.specs.Rows.{project}
use Rattle.batch_answer.proofs.Indexes.{Building}
use Rattle.batch_answer.proofs.ranks.partition_index.Given as goal

abbrev pub invariant-loop-row : goal.invariant-loop-row
invariant-loop-row l = Building (project l.partition) l.fn.rows l.index l.row-iterator
