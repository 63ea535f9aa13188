-- The clauses of a grouped select in the order of the walk: GROUP BY, then HAVING, then the items.
use Rattle.std.specs.Prelude.{◌+◌, List, Option, Ok, flat_map, length}
use Rattle.sql_syntax.specs.Tree.{Tree}
use Rattle.sql_syntax.specs.Tree as t
use Rattle.query_answer.specs.Calls.{Call}
use Rattle.query_answer.specs.Answer.{Entry, listed_calls}
use Rattle.query_answer.specs.Names.{Scope}
use Rattle.binding.specs.Checked.{Checked, ◌>>=◌}
use Rattle.binding.specs.Nodes.{Bound}
use Rattle.binding.specs.Expressions.{each_bound}
use Rattle.binding.specs.InGroups.{BoundCall, in_group, bound_arguments, bound_filters}
use Rattle.binding.specs.Queries.{Relation, filter_if, group_listed, group_rel, having_bound, headed, list_bound, projected}

pub record Parts : Type 0 where
  pub keys : List Bound
  pub having : Option Bound
  pub items : List Bound

-- HAVING and the items, the GROUP BY expressions being bound
abbrev pub behind_keys : Scope → List Entry → List Tree → t.OptionalTree → List Bound → Checked Parts
behind_keys scope es groups having keys =
    having_bound (in_group scope groups keys) (length (flat_map (λ e. listed_calls e.listed) es)) having >>= λ h.
    list_bound (group_listed scope groups keys) es >>= λ xs.
    Ok (record { keys = keys; having = h; items = xs })

abbrev pub parts_bound : Scope → List Entry → List Tree → t.OptionalTree → Checked Parts
parts_bound scope es groups having = each_bound scope groups >>= behind_keys scope es groups having

-- the Group, HAVING and the items over the rows of groups
abbrev pub made_of : List Entry → Relation → List Call → Parts → List BoundCall → Relation
made_of es x cs parts ys = record {
  rel = projected (length parts.keys + length cs) parts.items (filter_if parts.having (group_rel (length x.scope) parts.keys (bound_arguments ys) (bound_filters ys) cs x.rel));
  scope = headed es parts.items;
}
