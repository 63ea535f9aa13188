use Rattle.std.proofs.Common.{◌≡◌, [], length, get_or}
use Rattle.phys_plan.specs.Reading.{numbered}
use Rattle.session_open.specs.Opening.{IsRouteIn, spread_types}
use Rattle.session_open.proofs.Laying.{Each}
use Rattle.session_open.proofs.routes.routes_of.Given as goal

abbrev pub invariant-loop-edge : goal.invariant-loop-edge
invariant-loop-edge l = record {
  count : length l.routes.items ≡ l.edge;
  routes : Each (λ e route. IsRouteIn (spread_types (numbered l.plan.nodes e) (get_or l.columns e [])) (numbered l.plan.edges e) route) l.routes.items;
}
