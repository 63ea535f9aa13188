-- Which trees within a subquery look outside: they have a name that none of its own columns has.
use Rattle.std.specs.Prelude.{Bool, true, false, Option}
use Rattle.sql_syntax.specs.Tree.{Tree, Text}
use Rattle.query_answer.specs.declared.scope.Found.{Found}
use Rattle.query_answer.specs.declared.scope.Found.TheVariants.{Absent, At, Several}
use Rattle.query_answer.specs.Mentions.{in_tree}
use Rattle.query_answer.specs.Names.{Scope, find}

abbrev pub is_absent : Found → Bool
is_absent Absent = true
is_absent (At n ty) = false
is_absent Several = false

-- a name that is of no column
abbrev pub is_foreign : Scope → Option Text → Text → Bool
is_foreign own of name = is_absent (find own of name)

abbrev pub looks_outside : Scope → Tree → Bool
looks_outside own x = in_tree (is_foreign own) x
