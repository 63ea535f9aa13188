use Rattle.std.proofs.Common.{take}
use Rattle.batch_answer.proofs.Indexes.{Building}
use Rattle.batch_answer.proofs.groups.group_index.Given as goal

abbrev pub invariant-loop-row : goal.invariant-loop-row
invariant-loop-row l = Building (take l.keys) l.fn.rows l.index l.row-iterator
