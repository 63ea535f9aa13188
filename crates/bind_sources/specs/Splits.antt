-- Conjuncts of an ON, split into key pairs and the rest, as the code comes to them.
use Rattle.std.specs.Prelude.{ℕ, List, [], ◌∷◌, ◌++◌, Option, Some, None, Ok, Err}
use Rattle.ct_expr.specs.Expr.{Expr}
use Rattle.rel_algebra.specs.declared.join.Pair.{Pair}
use Rattle.sql_syntax.specs.Tree.{Tree}
use Rattle.sql_syntax.specs.Tree as t
use Rattle.sql_syntax.specs.View.{trees_view}
use Rattle.sql_syntax.specs.declared.tree.Tree as d
use Rattle.query_answer.specs.Answer.{conjuncts, all_conjuncts}
use Rattle.query_answer.specs.Joins.{pairs_of, rest_of}
use Rattle.query_answer.specs.Names.{Scope, find}
use Rattle.binding.specs.Checked.{Checked, ◌>>=◌}
use Rattle.binding.specs.Expressions.{each_bound, conditions, conjuncts_bound}
use Rattle.binding.specs.Nodes.{Bound}
use Rattle.binding.specs.Queries.{all_of}

-- these, and then those that are left
abbrev pub behind : {A : Type 0} → List A → Checked (List A) → Checked (List A)
behind xs (Ok ys) = Ok (xs ++ ys)
behind xs (Err code) = Err code

abbrev pub conjuncts_of : List d.Tree → List Tree
conjuncts_of xs = all_conjuncts (t.trees (trees_view xs))

abbrev pub pairs_in : Scope → ℕ → List Tree → List Pair
pairs_in scope width cs = pairs_of width (find scope) cs

abbrev pub rest_in : Scope → ℕ → List Tree → Checked (List Bound)
rest_in scope width cs = each_bound scope (rest_of width (find scope) cs)

-- a condition that isn't refused as a whole
abbrev pub accepted : Scope → Tree → Checked (List Bound)
accepted scope on = conjuncts_bound scope on >>= conditions

-- several conditions as one, where there are any
abbrev pub rest_if : List Bound → Checked (Option Expr)
rest_if [] = Ok None
rest_if (x ∷ xs) = conditions (x ∷ xs) >>= λ ys. Ok (Some (all_of ys))

-- what a pair of rows is tested for
abbrev pub tests : Scope → ℕ → Tree → Checked (List Pair × Option Expr)
tests scope width on = rest_in scope width (conjuncts on) >>= rest_if >>= λ rest. Ok (pairs_in scope width (conjuncts on), rest)

-- the same of a condition that isn't refused as a whole
abbrev pub accepted_tests : Scope → ℕ → Tree → Checked (List Pair × Option Expr)
accepted_tests scope width on = accepted scope on >>= λ all. tests scope width on
