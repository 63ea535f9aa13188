-- Binding of expressions in a grouped select: over the row of a group, whose columns are the GROUP BY expressions and then the aggregate
-- calls.
use Rattle.std.specs.Prelude.{ℕ, ◌+◌, Bool, true, false, cond, not, ◌&&◌, ◌||◌, List, [], ◌∷◌, length, slice_get, Option, Some, None, option_map, is_some, Ok, Err}
use Rattle.ct_value.specs.declared.codes.ScriptCode.TheVariants.{TypeMismatch, Unsupported, NotGrouped}
use Rattle.ct_value.specs.declared.ty.ColTy.{ColTy}
use Rattle.rel_algebra.specs.declared.agg.AggCall.{AggCall}
use Rattle.rel_algebra.specs.Aggregates.{call_type}
use Rattle.rel_algebra.specs.Types.{is_boolean}
use Rattle.sql_syntax.specs.Tree.{Tree}
use Rattle.sql_syntax.specs.Tree as t
use Rattle.query_answer.specs.Calls.{Call, aggregate_of, agg_call}
use Rattle.query_answer.specs.Functions.{function_of}
use Rattle.query_answer.specs.Names.{Scope, find}
use Rattle.query_answer.specs.Shapes.{Shape, shape, place_of}
use Rattle.binding.specs.Checked.{Checked, ◌>>=◌, or_code, refused_if}
use Rattle.binding.specs.Nodes.{Bound, is_count}
use Rattle.binding.specs.Expressions.{Leaf, is_distinct, args_bound, optional_bound, bound_over, names, may_change, found_column, column}

-- one operand, or the star of COUNT
abbrev pub has_operands : AggCall → t.Args → Bool
has_operands c t.Empty = false
has_operands c t.Star = is_count c
has_operands c (t.Values distinct t.no_trees) = false
has_operands c (t.Values distinct (t.tree_and x t.no_trees)) = true
has_operands c (t.Values distinct (t.tree_and x (t.tree_and y ys))) = false

abbrev pub first_column : List Bound → Option ColTy
first_column [] = None
first_column (x ∷ xs) = Some x.column

abbrev pub is_condition_if : Option Bound → Bool
is_condition_if None = true
is_condition_if (Some x) = is_boolean (Some x.column)

abbrev pub column_if : ℕ → Option ColTy → Checked Bound
column_if n None = Err TypeMismatch
column_if n (Some ty) = Ok (column n ty)

-- the column of an aggregate call, its operands being bound; `global` without GROUP BY
abbrev pub call_column : Bool → ℕ → AggCall → t.Args → List Bound → Option Bound → Checked Bound
call_column global place c args xs filter =
    refused_if (is_distinct args && not (is_count c)) Unsupported
    (cond (has_operands c args && is_condition_if filter)
    (column_if place (call_type (global || is_some filter) (agg_call c args) (first_column xs)))
    (Err TypeMismatch))

-- a call's operands are over the columns in reach, and have no place for aggregate calls
abbrev pub call_bound : Scope → Bool → ℕ → AggCall → t.Args → t.OptionalTree → Checked Bound
call_bound scope global place c args filter =
    args_bound (names scope) 0 args >>= λ xs. optional_bound (names scope) 0 filter >>= λ condition. call_column global place c args xs condition

-- ---- the calls of a select again, once they are accepted: what a Group is made of

-- a call with its operands
pub record BoundCall : Type 0 where
  pub arg : Option Bound
  pub filter : Option Bound
  pub column : ColTy

abbrev pub optional_over : Scope → Option Tree → Checked (Option Bound)
optional_over scope None = Ok None
optional_over scope (Some x) = bound_over scope x >>= λ a. Ok (Some a)

abbrev pub bound_column : Option Bound → Option ColTy
bound_column None = None
bound_column (Some x) = Some x.column

abbrev pub column_of : Bool → AggCall → Option Bound → Option Bound → Option ColTy
column_of global c arg filter = cond (is_condition_if filter) (call_type (global || is_some filter) c (bound_column arg)) None

abbrev pub operands_bound : Scope → Bool → Call → Checked BoundCall
operands_bound scope global c =
    optional_over scope c.arg >>= λ arg. optional_over scope c.filter >>= λ filter. or_code TypeMismatch (column_of global c.call arg filter) >>= λ ty.
    Ok (record { arg = arg; filter = filter; column = ty })

abbrev pub calls_bound : Scope → Bool → List Call → Checked (List BoundCall)
calls_bound scope global [] = Ok []
calls_bound scope global (c ∷ cs) = operands_bound scope global c >>= λ x. calls_bound scope global cs >>= λ xs. Ok (x ∷ xs)

abbrev pub with_bound : Option Bound → List Bound → List Bound
with_bound None xs = xs
with_bound (Some x) xs = x ∷ xs

-- the arguments of calls, and their FILTER conditions, in order
abbrev pub bound_arguments : List BoundCall → List Bound
bound_arguments [] = []
bound_arguments (c ∷ cs) = with_bound c.arg (bound_arguments cs)

abbrev pub bound_filters : List BoundCall → List Bound
bound_filters [] = []
bound_filters (c ∷ cs) = with_bound c.filter (bound_filters cs)

-- ---- whole nodes

abbrev pub has_no_keys : List Bound → Bool
has_no_keys [] = true
has_no_keys (key ∷ keys) = false

-- the n-th GROUP BY expression is the n-th column
abbrev pub key_column : List Bound → Option ℕ → Option Bound
key_column keys None = None
key_column keys (Some n) = option_map (λ key. column n key.column) (slice_get keys n)

-- a column that is no part of a GROUP BY expression
abbrev pub ungrouped : Bound → Checked (Option Bound)
ungrouped x = Err NotGrouped

abbrev pub or_refused : Scope → Tree → Option Bound → Checked (Option Bound)
or_refused scope (t.Name of name quoted) None = found_column (may_change of name quoted) (find scope of name) >>= ungrouped
or_refused scope x o = Ok o

module _ (scope : Scope) (groups : List Tree) (keys : List Bound) where
  abbrev pub key_for : Shape → Option Bound
  key_for x = key_column keys (place_of (find scope) groups x)

  abbrev pub call_or_key : ℕ → Option AggCall → Tree → t.Args → t.OptionalTree → Checked (Option Bound)
  call_or_key n None x args filter = Ok (key_for (shape (find scope) x))
  call_or_key n (Some c) x args filter = call_bound scope (has_no_keys keys) (length keys + n) c args filter >>= λ y. Ok (Some y)

  -- the n-th call is the column behind the keys and the n calls before it; any other node is the first GROUP BY expression that it equals
  abbrev pub in_group : Leaf
  in_group n (t.Call name args filter over) = call_or_key n (aggregate_of (function_of name) over) (t.Call name args filter over) args filter
  in_group n x = or_refused scope x (key_for (shape (find scope) x))
