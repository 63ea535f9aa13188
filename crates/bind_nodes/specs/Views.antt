-- What the code binds, as the definitions see it.
use Rattle.std.specs.Prelude.{List, map, Option, option_map}
use Rattle.ct_expr.specs.View.{expr_view}
use Rattle.binding.specs.Nodes as n
use Rattle.bind_nodes.specs.declared.bound.Bound.{Bound}
use Rattle.bind_nodes.specs.declared.cases.Branch.{Branch}
use Rattle.bind_nodes.specs.declared.calls.CallForm.{CallForm}
use Rattle.bind_nodes.specs.declared.cases.Choice.{Choice}

abbrev pub bound_view : Bound → n.Bound
bound_view x = record { expr = expr_view x.expr; column = x.column }

abbrev pub bounds_view : List Bound → List n.Bound
bounds_view = map bound_view

abbrev pub branch_view : Branch → n.Bound × Option n.Bound
branch_view b = (bound_view b.cond, option_map bound_view b.result)

abbrev pub branches_view : List Branch → List (n.Bound × Option n.Bound)
branches_view = map branch_view

abbrev pub form_view : CallForm → n.CallForm
form_view f = record { distinct = f.distinct; filter = f.filter; over = f.over }

abbrev pub choice_view : Choice → n.Bound × n.Bound
choice_view c = (bound_view c.cond, bound_view c.result)

abbrev pub choices_view : List Choice → List (n.Bound × n.Bound)
choices_view = map choice_view
