use Rattle.op_group.specs.declared.groups.GroupBy.{GroupBy}
use Rattle.op_group.specs.Groups.{grouping}
use Rattle.op_group.proofs.Openings.{grouped_none}
use Rattle.op_group.proofs.group.Group.new.Goals as goal

pub returns-clause-stands : goal.returns-clause-stands
returns-clause-stands g c =
    let by : GroupBy = record { alloc = c.args.alloc; keys = c.args.keys; aggs = c.args.aggs; tys = c.args.tys; retracting = c.admits-retracting.result } in
    ((c.requires, c.admits-retracting.ensures), c.in_ok-rows.ensures, grouped_none by (grouping by (g.I.ChangeMode.mode c.args.input) (g.O.ChangeMode.mode c.args.output)) c.new.result c.requires c.new.ensures.ordered c.new.ensures.empty)
