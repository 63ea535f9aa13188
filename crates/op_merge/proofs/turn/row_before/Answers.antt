use Rattle.phase_rules.specs.Merging.{merged}
use Rattle.op_merge.proofs.Counts.{no_row}
use Rattle.op_merge.proofs.turn.row_before.Goals as goal

pub returns-in-Err-Out : goal.returns-in-Err-Out
returns-in-Err-Out c = λ l rows is. no_row l c.args.key.now (merged l.aggs rows) (c.in-Err-Out.ensures.out c.in-Err-Out.field-0-is l rows is)
