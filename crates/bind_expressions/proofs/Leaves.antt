-- What whole nodes are bound to: over rows, and in groups each exit of a call.
use Rattle.std.proofs.Common.{◌≡◌, ℕ, suc, ◌+◌, List, [], ◌∷◌, Option, Some, Ok, Err, length, refl, ap, ◌∙◌}
use Rattle.std.specs.Borrow.{Bor}
use Rattle.std.specs.Prelude.{Result, IfOk, option_map}
use Rattle.ct_value.specs.declared.codes.ScriptCode.{ScriptCode}
use Rattle.rel_algebra.specs.declared.agg.AggCall.{AggCall}
use Rattle.sql_syntax.specs.Tree.{Tree}
use Rattle.sql_syntax.specs.Tree as t
use Rattle.query_answer.specs.Calls.{aggregate_of}
use Rattle.query_answer.specs.Functions.{function_of}
use Rattle.query_answer.specs.Names.{Scope}
use Rattle.binding.specs.Checked.{Checked, ◌>>=◌}
use Rattle.binding.specs.Nodes.{Bound}
use Rattle.binding.specs.Expressions.{Leaf, args_bound, names, names_by, optional_bound}
use Rattle.binding.specs.InGroups.{call_bound, call_column, call_or_key, has_no_keys, in_group}
use Rattle.bind_names.specs.declared.fault.BindFault.{BindFault}
use Rattle.bind_names.specs.declared.names.Lookup.{Lookup}
use Rattle.bind_names.specs.declared.names.Lookup.TheVariants as l
use Rattle.bind_names.specs.Lookups.{lookup_of}
use Rattle.bind_nodes.specs.declared.bound.Bound.{Bound as Made}
use Rattle.bind_nodes.specs.Views.{bound_view, bounds_view}
use Rattle.bind_expressions.specs.declared.reach.Reach.TheVariants as r
use Rattle.bind_expressions.specs.Reach.{leaf_of}

pub rows_leaf : (look : Lookup) → leaf_of (r.Rows look) ≡ names_by (lookup_of look)
unfolding leaf_of
rows_leaf look = refl

pub own_leaf : (scope : Bor Scope) → leaf_of (r.Rows (l.Own scope)) ≡ names scope.now
own_leaf scope = rows_leaf (l.Own scope)

pub bounds_length : (xs : List Made) → length (bounds_view xs) ≡ length xs
bounds_length [] = refl
bounds_length (x ∷ xs) = ap suc (bounds_length xs)

-- what is answered whatever the number is
pub at_number : (o : Result (Option Made) BindFault) (leaf : Leaf) (n : ℕ) (p : Checked (Option Bound)) (x : Tree) → p ≡ leaf n x → IfOk o (λ y. (m : ℕ) → leaf m x ≡ Ok (option_map bound_view y)) → IfOk o (λ y. p ≡ Ok (option_map bound_view y))
at_number (Ok y) leaf n p x e h = e ∙ h n
at_number (Err fault) leaf n p x e h = h

module _ (scope : Scope) (groups : List Tree) (keys : List Bound) (n : ℕ) (name : List ℕ) (args : t.Args) (filter : t.OptionalTree) (over : t.OptionalOver) (a : AggCall) (is : aggregate_of (function_of name) over ≡ Some a) where
  abbrev whole : Checked (Option Bound)
  whole = in_group scope groups keys n (t.Call name args filter over)

  is_call : whole ≡ (call_bound scope (has_no_keys keys) (length keys + n) a args filter >>= λ y. Ok (Some y))
  is_call = ap (λ o. call_or_key scope groups keys n o (t.Call name args filter over) args filter) is

  pub args_failed : (code : ScriptCode) → args_bound (names scope) 0 args ≡ Err code → whole ≡ Err code
  args_failed code h = is_call ∙ (λ i. (h i >>= λ xs. optional_bound (names scope) 0 filter >>= λ condition. call_column (has_no_keys keys) (length keys + n) a args xs condition) >>= λ y. Ok (Some y))

  pub filter_failed : (xs : List Bound) (code : ScriptCode) → args_bound (names scope) 0 args ≡ Ok xs → optional_bound (names scope) 0 filter ≡ Err code → whole ≡ Err code
  filter_failed xs code h k = is_call ∙ (λ i. (h i >>= λ xs. k i >>= λ condition. call_column (has_no_keys keys) (length keys + n) a args xs condition) >>= λ y. Ok (Some y))

  pub column_is : (xs : List Bound) (o : Option Bound) (r : Checked Bound) → args_bound (names scope) 0 args ≡ Ok xs → optional_bound (names scope) 0 filter ≡ Ok o → call_column (has_no_keys keys) (length keys + n) a args xs o ≡ r
      → whole ≡ (r >>= λ y. Ok (Some y))
  column_is xs o r h k m = is_call ∙ (λ i. (h i >>= λ xs. k i >>= λ condition. call_column (has_no_keys keys) (length keys + n) a args xs condition) >>= λ y. Ok (Some y)) ∙ ap (λ s. s >>= λ y. Ok (Some y)) m
