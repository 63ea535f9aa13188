-- Conjuncts that the code binds, as the definitions see them.
use Rattle.std.specs.Prelude.{List, map, Option, Some, None, option_map}
use Rattle.ct_expr.specs.View.{expr_view}
use Rattle.rel_algebra.specs.View.{rel_view}
use Rattle.query_answer.specs.Names.{Scope}
use Rattle.binding.specs.Queries as q
use Rattle.bind_nodes.specs.Views.{bound_view}
use Rattle.bind_nested.specs.declared.part.Part.{Part}
use Rattle.bind_nested.specs.declared.part.Part.TheVariants as p
use Rattle.bind_nested.specs.declared.part.Outside.{Outside}
use Rattle.bind_nested.specs.declared.part.Outside.TheVariants as o

abbrev pub part_view : Part → q.Part
part_view (p.Own condition) = q.Own (bound_view condition)
part_view (p.Linked pair condition) = q.Linked pair (bound_view condition)
part_view (p.Matched anti right on rest) = q.Matched anti (rel_view right) on (option_map expr_view rest)

abbrev pub parts_view : List Part → List q.Part
parts_view = map part_view

abbrev pub outside_view : Outside → Option Scope
outside_view o.Hidden = None
outside_view (o.InReach columns) = Some columns.now
