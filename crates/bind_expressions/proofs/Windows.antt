-- The operands of OVER, in turn.
use Rattle.std.proofs.Common.{◌≡◌, ℕ, ◌+◌, List, Ok, Err, length, ap, sym, ◌∙◌}
use Rattle.ct_value.specs.declared.codes.ScriptCode.{ScriptCode}
use Rattle.sql_syntax.specs.declared.tree.Args.TheViews.{out-Over}
use Rattle.sql_syntax.specs.declared.tree.Over.{Over}
use Rattle.sql_syntax.specs.Tree as t
use Rattle.sql_syntax.specs.View.{over_view, sorts_view, trees_view}
use Rattle.sql_syntax.proofs.laws.Views.{over}
use Rattle.query_answer.specs.Calls.{all_calls}
use Rattle.binding.specs.Checked.{Checked, ◌>>=◌}
use Rattle.binding.specs.Nodes.{Bound}
use Rattle.binding.specs.Expressions.{Leaf, all_bound, order_bound, window_bound}

module _ (leaf : Leaf) (n : ℕ) where
  pub partition_failed : (partition : t.Trees) (order : t.SortList) (code : ScriptCode) → all_bound leaf n partition ≡ Err code → window_bound leaf n (t.some_over (t.over_of partition order)) ≡ Err code
  partition_failed partition order code h = ap (λ r. r >>= λ xs. order_bound leaf (n + length (all_calls partition)) order) h

  pub order_then : (partition : t.Trees) (order : t.SortList) (xs : List Bound) (m : ℕ) (r : Checked (List Bound)) → all_bound leaf n partition ≡ Ok xs → m ≡ n + length (all_calls partition) → order_bound leaf m order ≡ r
      → window_bound leaf n (t.some_over (t.over_of partition order)) ≡ r
  order_then partition order xs m r h e k = ap (λ o. o >>= λ xs. order_bound leaf (n + length (all_calls partition)) order) h ∙ ap (λ j. order_bound leaf j order) (sym e) ∙ k

  opened : (x : Over) → window_bound leaf n (t.some_over (over_view x)) ≡ window_bound leaf n (t.some_over (t.over_of (t.trees (trees_view (out-Over x).partition)) (t.sort_list (sorts_view (out-Over x).order))))
  opened x = ap (λ v. window_bound leaf n (t.some_over v)) (over x)

  pub over_failed : (x : Over) (code : ScriptCode) → all_bound leaf n (t.trees (trees_view (out-Over x).partition)) ≡ Err code → window_bound leaf n (t.some_over (over_view x)) ≡ Err code
  over_failed x code h = opened x ∙ partition_failed (t.trees (trees_view (out-Over x).partition)) (t.sort_list (sorts_view (out-Over x).order)) code h

  pub over_then : (x : Over) (xs : List Bound) (m : ℕ) (r : Checked (List Bound)) → all_bound leaf n (t.trees (trees_view (out-Over x).partition)) ≡ Ok xs → m ≡ n + length (all_calls (t.trees (trees_view (out-Over x).partition)))
      → order_bound leaf m (t.sort_list (sorts_view (out-Over x).order)) ≡ r → window_bound leaf n (t.some_over (over_view x)) ≡ r
  over_then x xs m r h e k = opened x ∙ order_then (t.trees (trees_view (out-Over x).partition)) (t.sort_list (sorts_view (out-Over x).order)) xs m r h e k
