-- The algebra of a query whose names are bound: the walk in which each rank needs its bound.
use Rattle.std.specs.Prelude.{false, Ok}
use Rattle.rel_algebra.specs.Rel.{Rel}
use Rattle.binding.specs.Checked.{Checked, ◌>>=◌}
use Rattle.binding.specs.Inserts.{Inserted}
use Rattle.binding.specs.Queries.{query_bound}
use Rattle.binder.specs.Bound.{Bound, BoundQuery}

abbrev pub rewritten : BoundQuery → Checked Rel
rewritten q = query_bound false q.tables q.query >>= λ x. Ok x.rel

-- what the INSERT of such a query is bound to
abbrev pub inserted : Bound → Checked Inserted
inserted x = rewritten x.query >>= λ rel. Ok (record { query = record { rel = rel; scope = x.query.columns }; sources = x.sources; sink = x.sink })
