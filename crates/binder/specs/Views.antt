-- What the code binds, as the definitions see it.
use Rattle.sql_syntax.specs.View.{query_view}
use Rattle.binding.specs.Queries as q
use Rattle.bind_clauses.specs.Views.{relation_view}
use Rattle.bind_nested.specs.PartViews.{parts_view}
use Rattle.binder.specs.Bound as b
use Rattle.binder.specs.declared.bound.Bound.{Bound}
use Rattle.binder.specs.declared.bound.BoundQuery.{BoundQuery}
use Rattle.binder.specs.declared.gathered.FromWhere.{FromWhere}

abbrev pub bound_query_view : BoundQuery → b.BoundQuery
bound_query_view x = record { query = query_view x.query.now; tables = x.tables; columns = x.columns }

abbrev pub bound_view : Bound → b.Bound
bound_view x = record { query = bound_query_view x.query; sources = x.sources; sink = x.sink }

abbrev pub from_where_view : FromWhere → q.FromWhere
from_where_view x = record { relation = relation_view x.relation; parts = parts_view x.parts }
