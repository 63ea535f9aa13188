-- One column of ORDER BY, and bound items with that of the rank.
use Rattle.std.specs.Prelude.{Bool, true, false, List, [], ◌∷◌, ◌++◌, Ok}
use Rattle.rel_algebra.specs.declared.sort.SortCol.{SortCol}
use Rattle.sql_syntax.specs.Tree as t
use Rattle.query_answer.specs.Joins.{plain_column}
use Rattle.query_answer.specs.Names.{Scope, find}
use Rattle.binding.specs.Checked.{Checked, ◌>>=◌}
use Rattle.binding.specs.Nodes.{Bound}
use Rattle.binding.specs.Queries.{plain_place}

abbrev pub sort_bound : Scope → t.Sort → Checked SortCol
sort_bound scope (t.sort_of x desc) = plain_place (plain_column (find scope) x) >>= λ n. Ok (record { col = n; desc = desc })

abbrev pub with_bound : Bool → List Bound → Bound → List Bound
with_bound true xs x = xs ++ x ∷ []
with_bound false xs x = xs
