-- The aggregate calls of a tree, in the order in which they are written.
use Rattle.std.specs.Prelude.{cond, List, [], ◌∷◌, ◌++◌, Option, Some, None, option_map}
use Rattle.rel_algebra.specs.declared.agg.AggCall.{AggCall}
use Rattle.rel_algebra.specs.declared.agg.AggCall.TheVariants.{CountAll, Count, CountDistinct}
use Rattle.sql_syntax.specs.Tree.{Tree}
use Rattle.sql_syntax.specs.Tree as t
use Rattle.sql_syntax.specs.Walks.{of_tree, of_trees, of_sums, of_products, of_whens, of_sorts, of_optional, of_args, of_over}
use Rattle.query_answer.specs.declared.function.Function.{Function}
use Rattle.query_answer.specs.declared.function.Function.TheVariants.{Aggregate}
use Rattle.query_answer.specs.Functions.{function_of}

-- an aggregate call with its argument and its FILTER condition, where it has them
pub record Call : Type 0 where
  pub call : AggCall
  pub arg : Option Tree
  pub filter : Option Tree

-- the aggregate that a call without OVER is of
abbrev pub aggregate_of : Function → t.OptionalOver → Option AggCall
aggregate_of (Aggregate c) t.no_over = Some c
aggregate_of _ _ = None

abbrev pub of_all : AggCall → AggCall
of_all Count = CountAll
of_all c = c

abbrev pub of_distinct : AggCall → AggCall
of_distinct Count = CountDistinct
of_distinct c = c

abbrev pub optional : t.OptionalTree → Option Tree
optional t.no_tree = None
optional (t.some_tree x) = Some x

abbrev pub first_tree : t.Trees → Option Tree
first_tree t.no_trees = None
first_tree (t.tree_and x xs) = Some x

-- COUNT is of all rows, of one value or of distinct values
abbrev pub agg_call : AggCall → t.Args → AggCall
agg_call c t.Empty = c
agg_call c t.Star = of_all c
agg_call c (t.Values distinct xs) = cond distinct (of_distinct c) c

abbrev pub agg_arg : t.Args → Option Tree
agg_arg t.Empty = None
agg_arg t.Star = None
agg_arg (t.Values distinct xs) = first_tree xs

abbrev pub call_of : AggCall → t.Args → t.OptionalTree → Call
call_of c args filter = record { call = agg_call c args; arg = agg_arg args; filter = optional filter }

-- the aggregate call that a whole node is
abbrev pub call_at : Tree → Option Call
call_at (t.Call name args filter over) = option_map (λ c. call_of c args filter) (aggregate_of (function_of name) over)
call_at _ = None

-- a call itself, or those of its operands
abbrev pub call_or : Option Call → List Call → List Call
call_or None others = others
call_or (Some call) others = call ∷ []

abbrev pub own_calls : Tree → List Call → List Call
own_calls x below = call_or (call_at x) below

-- those within a query are the query's
abbrev pub calls : Tree → List Call
calls = of_tree (List Call) [] (λ cs ds. cs ++ ds) own_calls

abbrev pub all_calls : t.Trees → List Call
all_calls = of_trees (List Call) [] (λ cs ds. cs ++ ds) own_calls

abbrev pub sum_calls : t.SumTails → List Call
sum_calls = of_sums (List Call) [] (λ cs ds. cs ++ ds) own_calls

abbrev pub product_calls : t.ProductTails → List Call
product_calls = of_products (List Call) [] (λ cs ds. cs ++ ds) own_calls

abbrev pub when_calls : t.TreeWhens → List Call
when_calls = of_whens (List Call) [] (λ cs ds. cs ++ ds) own_calls

abbrev pub sort_calls : t.SortList → List Call
sort_calls = of_sorts (List Call) [] (λ cs ds. cs ++ ds) own_calls

abbrev pub optional_calls : t.OptionalTree → List Call
optional_calls = of_optional (List Call) [] (λ cs ds. cs ++ ds) own_calls

abbrev pub args_calls : t.Args → List Call
args_calls = of_args (List Call) [] (λ cs ds. cs ++ ds) own_calls

-- PARTITION BY, then ORDER BY
abbrev pub window_calls : t.OptionalOver → List Call
window_calls = of_over (List Call) [] (λ cs ds. cs ++ ds) own_calls

abbrev pub with_tree : Option Tree → List Tree → List Tree
with_tree None xs = xs
with_tree (Some x) xs = x ∷ xs

-- the arguments of calls, in order
abbrev pub arguments : List Call → List Tree
arguments [] = []
arguments (c ∷ cs) = with_tree c.arg (arguments cs)

-- the FILTER conditions of calls, in order
abbrev pub filters : List Call → List Tree
filters [] = []
filters (c ∷ cs) = with_tree c.filter (filters cs)
