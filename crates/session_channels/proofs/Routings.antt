-- Where a change goes by what is kept for an edge.
use Rattle.std.proofs.Common.{◌≡◌, ℕ, ◌==◌, true, sym, ap, ◌∙◌}
use Rattle.ct_value.specs.Rows.{project}
use Rattle.ct_value.specs.declared.row.Row.{Row}
use Rattle.op_rules.specs.Edges.{Edge, Exchange, goes, goes_by}
use Rattle.stream_model.specs.Machine.{has_channel}
use Rattle.route.specs.Routing.{route_of, types_at}
use Rattle.session_channels.specs.declared.exchange.KeyRoute.{KeyRoute}
use Rattle.session_channels.specs.declared.exchange.Route.TheVariants.{Forward, Hash}
use Rattle.session_channels.specs.Routes.{RoutesFor}

pub goes_forward : (many : ℕ) (edge : Edge) (i j : ℕ) (row : Row) → RoutesFor many Forward edge → goes edge i j row ≡ (i == j)
goes_forward many edge i j row is = ap (λ (e : Exchange). goes_by e edge.route i j row) is

pub goes_by_key : (many : ℕ) (key : KeyRoute) (edge : Edge) (i j : ℕ) (row : Row) → RoutesFor many (Hash key) edge
    → goes edge i j row ≡ (route_of many (types_at key.columns key.types) (project key.columns row) == j)
goes_by_key many key edge i j row is = ap (λ (e : Exchange). goes_by e edge.route i j row) is.exchange ∙ ap (λ n. n == j) (is.spreads.routes (project key.columns row))

pub joins_forward : (many : ℕ) (edge : Edge) (i j : ℕ) → RoutesFor many Forward edge → (i == j) ≡ has_channel edge.exchange i j
joins_forward many edge i j is = sym (ap (λ (e : Exchange). has_channel e i j) is)

pub joins_hash : (many : ℕ) (key : KeyRoute) (edge : Edge) (i j : ℕ) → RoutesFor many (Hash key) edge → true ≡ has_channel edge.exchange i j
joins_hash many key edge i j is = sym (ap (λ (e : Exchange). has_channel e i j) is.exchange)
