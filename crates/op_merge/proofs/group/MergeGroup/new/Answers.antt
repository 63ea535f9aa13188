use Rattle.op_merge.proofs.Openings.{merged_none}
use Rattle.op_merge.proofs.group.MergeGroup.new.Goals as goal

pub returns-clause-stands : goal.returns-clause-stands
returns-clause-stands g c =
    let can = c.requires.1 in
    (record { have_partials = can.have_partials; tells = can.tells }, merged_none (record { alloc = c.args.alloc; keys = c.args.keys; aggs = c.args.aggs; tys = c.args.tys }) c.new.result c.new.ensures.ordered c.new.ensures.empty)
