use Rattle.std.proofs.Common.{refl, arith}
use Rattle.plan_rules.specs.Plans.{network_of}
use Rattle.session_open.proofs.Laying.{tables_laid}
use Rattle.session_open.proofs.wiring.wiring_of.Goals as goal

pub returns : goal.returns
returns b c = λ of doing job.
    let plan = c.args.plan.now in
    let g = network_of of doing plan in
    let wires = c.in_ok-wires.ensures.wires of doing job.columns_are job.wired in
    let stages = c.in_ok-stages.ensures g wires in
    let many = c.in_ok-wires.ensures.many in
    record {
      wired = job.wired;
      subtasks = wires.subtasks;
      nodes = wires.nodes;
      limit_is = refl;
      small = c.ranges.limit.fits;
      feeds_many = omega (arith, many.1, many.2);
      feeds = wires.feeds;
      routes_many = wires.routes_many;
      routes = wires.routes;
      tables_many = c.in_ok-tables.ensures.many;
      tables = tables_laid of doing plan c.in_ok-tables.tables.items c.in_ok-tables.ensures.many c.in_ok-tables.ensures.tables;
      types_many = c.in_ok-types.ensures.many;
      types = c.in_ok-types.ensures.types g job.runs_as;
      bundles = wires.bundles;
      stages_are = stages.laid;
      stages_there = stages.there (λ k d within. absurd (omega (arith, within)));
    }
