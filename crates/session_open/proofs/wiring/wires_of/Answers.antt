use Rattle.std.proofs.Common.{refl}
use Rattle.plan_rules.specs.Plans.{network_of}
use Rattle.session_open.proofs.Laying.{bundles_laid, feeds_laid}
use Rattle.session_open.proofs.wiring.wires_of.Goals as goal

pub returns-clause-wires : goal.returns-clause-wires
returns-clause-wires c = λ of doing are wired.
    let plan = c.args.plan.now in
    record {
      subtasks = refl;
      nodes = c.len.ensures;
      feeds = feeds_laid (network_of of doing plan) wired c.in_ok-feeds.feeds.items c.in_ok-feeds.ensures.many c.in_ok-feeds.ensures.feeds;
      routes_many = c.in_ok-routes.ensures.many;
      routes = c.in_ok-routes.ensures.routes of doing are;
      bundles = bundles_laid plan.mini_batch plan.nodes c.in_ok-bundles.bundles.items c.in_ok-bundles.ensures.many c.in_ok-bundles.ensures.sizes;
    }
