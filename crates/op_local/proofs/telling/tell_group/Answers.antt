use Rattle.phase_rules.specs.LocalGrouping.{rows_come, rows_gone}
use Rattle.op_local.proofs.TellingOn.{answers_told}
use Rattle.op_local.proofs.telling.tell_group.Goals as goal

pub told-requires : goal.told-requires
told-requires g c = (c.args.aggs.now, rows_come c.args.changes, rows_gone c.args.changes, c.in-Ok.ensures.kept)

pub returns-clause-sent : goal.returns-clause-sent
returns-clause-sent g c =
    answers_told c.args.aggs.now c.args.key c.args.changes c.in_ok-sent.sent c.in-Ok.ensures.fit (c.in_ok-sent.ensures c.args.aggs.now (rows_come c.args.changes) (rows_gone c.args.changes) c.in-Ok.ensures.kept)
