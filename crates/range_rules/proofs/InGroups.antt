-- In a grouped select a whole node is bound to a column, and the operands of its calls calculate nothing.
use Rattle.std.proofs.Common.{ℕ, ◌+◌, Bool, ◌&&◌, ◌||◌, not, List, [], ◌∷◌, length, Option, Some, None, IfOk, refl, option_map, slice_get, is_some}
use Rattle.ct_value.specs.declared.codes.ScriptCode.TheVariants.{TypeMismatch, Unsupported}
use Rattle.ct_value.specs.declared.ty.ColTy.{ColTy}
use Rattle.rel_algebra.specs.declared.agg.AggCall.{AggCall}
use Rattle.rel_algebra.specs.Aggregates.{call_type}
use Rattle.sql_syntax.specs.Tree.{Tree}
use Rattle.sql_syntax.specs.Tree as t
use Rattle.query_answer.specs.Calls.{Call, aggregate_of, agg_call}
use Rattle.query_answer.specs.Functions.{function_of}
use Rattle.query_answer.specs.Names.{Scope, find}
use Rattle.query_answer.specs.Shapes.{shape, place_of}
use Rattle.binding.specs.Checked.{or_code}
use Rattle.binding.specs.Expressions.{is_distinct, args_bound, optional_bound, bound_over, names, may_change, found_column, column}
use Rattle.binding.specs.InGroups.{has_operands, first_column, is_condition_if, column_if, call_column, call_bound, BoundCall, optional_over, column_of, operands_bound, calls_bound, with_bound, bound_arguments, bound_filters, has_no_keys, key_column, ungrouped, or_refused, key_for, call_or_key, in_group}
use Rattle.binding.specs.Nodes.{Bound, is_count}
use Rattle.range_rules.proofs.Bound.{over_tame}
use Rattle.range_rules.proofs.Calls.{FreeIf, AreCounts, IsCount}
use Rattle.range_rules.proofs.Checked.{bind, then, tested, tested_else}
use Rattle.range_rules.proofs.Nodes.{Tame, AllTame, MayBe}

-- ---- whole nodes

column_tame : (n : ℕ) (o : Option ColTy) → IfOk (column_if n o) Tame
column_tame n None = tt
column_tame n (Some ty) = refl

call_column_tame : (global : Bool) (place : ℕ) (c : AggCall) (args : t.Args) (xs : List Bound) (filter : Option Bound) → IfOk (call_column global place c args xs filter) Tame
call_column_tame global place c args xs filter =
    tested (is_distinct args && not (is_count c)) Unsupported _ Tame
    (tested_else (has_operands c args && is_condition_if filter) _ TypeMismatch Tame
    (column_tame place (call_type (global || is_some filter) (agg_call c args) (first_column xs))))

call_bound_tame : (scope : Scope) (global : Bool) (place : ℕ) (c : AggCall) (args : t.Args) (filter : t.OptionalTree) → IfOk (call_bound scope global place c args filter) Tame
call_bound_tame scope global place c args filter =
    then (args_bound (names scope) 0 args) _ Tame (λ xs. then (optional_bound (names scope) 0 filter) _ Tame (λ condition. call_column_tame global place c args xs condition))

pub key_tame : (keys : List Bound) (o : Option ℕ) → MayBe (key_column keys o)
key_tame keys None = tt
key_tame keys (Some n) = go (slice_get keys n)
  where
    go : (o : Option Bound) → MayBe (option_map (λ key. column n key.column) o)
    go None = tt
    go (Some key) = refl

refused_tame : (scope : Scope) (x : Tree) (o : Option Bound) → MayBe o → IfOk (or_refused scope x o) MayBe
refused_tame scope (t.Name of name quoted) None h = then (found_column (may_change of name quoted) (find scope of name)) ungrouped MayBe (λ y. tt)
refused_tame scope (t.Name of name quoted) (Some y) h = h
refused_tame scope x o h = h

module _ (scope : Scope) (groups : List Tree) (keys : List Bound) where
  node_tame : (n : ℕ) (o : Option AggCall) (x : Tree) (args : t.Args) (filter : t.OptionalTree) → IfOk (call_or_key scope groups keys n o x args filter) MayBe
  node_tame n None x args filter = key_tame keys (place_of (find scope) groups (shape (find scope) x))
  node_tame n (Some c) x args filter = bind (call_bound scope (has_no_keys keys) (length keys + n) c args filter) _ Tame _ (call_bound_tame scope (has_no_keys keys) (length keys + n) c args filter) (λ y p. p)

  pub in_group_tame : (n : ℕ) (x : Tree) → IfOk (in_group scope groups keys n x) MayBe
  in_group_tame n (t.Call name args filter over) = node_tame n (aggregate_of (function_of name) over) (t.Call name args filter over) args filter
  in_group_tame n x = refused_tame scope x (key_for scope groups keys (shape (find scope) x)) (key_tame keys (place_of (find scope) groups (shape (find scope) x)))

-- ---- the calls with their operands

abbrev pub TameCall : BoundCall → Type 0
TameCall c = MayBe c.arg × MayBe c.filter

abbrev pub TameCalls : List BoundCall → Type 0
TameCalls [] = Unit {0}
TameCalls (c ∷ cs) = TameCall c × TameCalls cs

optional_tame : (scope : Scope) (o : Option Tree) → FreeIf o → IfOk (optional_over scope o) MayBe
optional_tame scope None f = tt
optional_tame scope (Some x) f = bind (bound_over scope x) _ Tame _ (over_tame scope x f) (λ y p. p)

operands_tame : (scope : Scope) (global : Bool) (c : Call) → IsCount c → IfOk (operands_bound scope global c) TameCall
operands_tame scope global c h =
    bind (optional_over scope c.arg) _ MayBe _ (optional_tame scope c.arg h.1) (λ arg p.
    bind (optional_over scope c.filter) _ MayBe _ (optional_tame scope c.filter h.2) (λ filter q.
    then (or_code TypeMismatch (column_of global c.call arg filter)) _ TameCall (λ ty. (p, q))))

pub calls_tame : (scope : Scope) (global : Bool) (cs : List Call) → AreCounts cs → IfOk (calls_bound scope global cs) TameCalls
calls_tame scope global [] h = tt
calls_tame scope global (c ∷ cs) h =
    bind (operands_bound scope global c) _ TameCall _ (operands_tame scope global c h.0) (λ x p.
    bind (calls_bound scope global cs) _ TameCalls _ (calls_tame scope global cs h.1) (λ xs q.
    (p, q)))

with_tame : (o : Option Bound) (xs : List Bound) → MayBe o → AllTame xs → AllTame (with_bound o xs)
with_tame None xs h k = k
with_tame (Some x) xs h k = (h, k)

pub arguments_tame : (cs : List BoundCall) → TameCalls cs → AllTame (bound_arguments cs)
arguments_tame [] h = tt
arguments_tame (c ∷ cs) h = with_tame c.arg (bound_arguments cs) h.0.0 (arguments_tame cs h.1)

pub filters_tame : (cs : List BoundCall) → TameCalls cs → AllTame (bound_filters cs)
filters_tame [] h = tt
filters_tame (c ∷ cs) h = with_tame c.filter (bound_filters cs) h.0.1 (filters_tame cs h.1)
