use Rattle.std.proofs.Common.{subst}
use Rattle.session_channels.specs.declared.exchange.Route.{Route}
use Rattle.session_channels.specs.Routes.{RoutesFor}
use Rattle.session_channels.proofs.Routings.{joins_forward, joins_hash}
use Rattle.session_channels.proofs.exchange.Route.joins.Goals as goal

pub returns-in-Forward : goal.returns-in-Forward
returns-in-Forward c = λ many edge is. joins_forward many edge c.args.from c.args.to (subst (λ (r : Route). RoutesFor many r edge) c.in-Forward.is is)

pub returns-in-Hash : goal.returns-in-Hash
returns-in-Hash c = λ many edge is. joins_hash many c.in-Hash.field-0 edge c.args.from c.args.to (subst (λ (r : Route). RoutesFor many r edge) c.in-Hash.is is)
