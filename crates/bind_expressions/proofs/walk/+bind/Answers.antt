use Rattle.std.proofs.Common.{rules, ◌≡◌, suc, ◌+◌, false, [], ◌∷◌, ◌++◌, Some, Ok, Err, length, sym, ap, ◌∙◌, arith}
use Rattle.std.specs.Prelude.{option_map}
use Rattle.std.proofs.lemmas.List.{map-append}
use Rattle.sql_syntax.specs.declared.tree.Args.TheViews.{out-Over}
use Rattle.sql_syntax.specs.Tree as t
use Rattle.sql_syntax.specs.View.{view, trees_view, args_view, over_view, sorts_view, sum_tails_view, product_tails_view, whens_view}
use Rattle.sql_syntax.proofs.laws.Views.{tree_or, tree_and, tree_not, tree_compare, tree_is_null, tree_between, tree_in_list, tree_like, tree_sum, tree_product, tree_sign, tree_call, tree_cast, tree_case}
use Rattle.query_answer.specs.Calls.{aggregate_of, calls, all_calls, args_calls, optional_calls, when_calls}
use Rattle.query_answer.specs.Functions.{function_of}
use Rattle.binding.specs.Nodes.{added, multiplied, null_test, between, in_list, like, cast_to, call, case, compare, conjunction, disjunction, negation, negated_if, signed}
use Rattle.binding.specs.Expressions.{bound, all_bound, sum_bound, product_bound, whens_bound, otherwise_bound, optional_bound, order_bound, window_bound, args_bound, names_by, unless_null, is_long}
use Rattle.binding.specs.InGroups.{call_column, has_no_keys}
use Rattle.bind_names.specs.declared.names.Lookup.TheVariants as l
use Rattle.bind_names.specs.Lookups.{lookup_of}
use Rattle.bind_nodes.specs.declared.cases.Branch.{Branch}
use Rattle.bind_nodes.specs.Views.{bound_view, bounds_view, branch_view, branches_view, form_view}
use Rattle.bind_expressions.specs.declared.reach.Reach.TheVariants as r
use Rattle.bind_expressions.specs.Reach.{leaf_of, group_leaf}
use Rattle.bind_expressions.specs.Walk.{node}
use Rattle.bind_expressions.proofs.Exits.{Long, ok_as, or_1, or_2, and_1, and_2, not_1, not_2, compare_1, compare_2, compare_3, is_null_1, is_null_2, is_null_3, between_1, between_2, between_3, between_4, between_5, in_list_1, in_list_2, in_list_3, in_list_4, like_1, like_2, like_3, like_4, sum_long, sum_1, sum_2, product_long, product_1, product_2, sign_1, sign_2, call_1, call_2, call_3, call_4, cast_1, cast_2, case_1, case_2, case_3}
use Rattle.bind_expressions.proofs.Leaves.{args_failed, at_number, column_is, filter_failed, own_leaf, rows_leaf}
use Rattle.bind_expressions.proofs.Lists.{sum_length_is, product_length_is, sums_failed, sums_refused, sums_turn, products_failed, products_refused, products_turn, sorts_failed, sorts_turn, whens_failed, whens_refused, whens_turn}
use Rattle.bind_expressions.proofs.Windows.{over_failed, over_then}
use Rattle.bind_expressions.proofs.walk.+bind.Goals as goal

pub bind_node-returns-in_err-bounds-in-Or-clause-refused : goal.bind_node-returns-in_err-bounds-in-Or-clause-refused
bind_node-returns-in_err-bounds-in-Or-clause-refused u c =
    let L = leaf_of c.args.reach.now in
    let n = c.args.number in
    λ code e.
    let h : all_bound L n (t.trees (trees_view c.in-Or.trees)) ≡ Err code = search rules in
    (ap (node L n) (ap view c.in-Or.is ∙ tree_or c.in-Or.trees)) ∙ or_1 L n (t.trees (trees_view c.in-Or.trees)) code h

pub bind_node-returns-in_ok-bounds-in-Or-clause-ok : goal.bind_node-returns-in_ok-bounds-in-Or-clause-ok
bind_node-returns-in_ok-bounds-in-Or-clause-ok u c =
    let L = leaf_of c.args.reach.now in
    let n = c.args.number in
    let bound_all : all_bound L n (t.trees (trees_view c.in-Or.trees)) ≡ Ok (bounds_view c.in_ok-bounds-in-Or.bounds) = search rules in
    let e : node L n (view c.args.tree.now) ≡ disjunction (bounds_view c.in_ok-bounds-in-Or.bounds) = (ap (node L n) (ap view c.in-Or.is ∙ tree_or c.in-Or.trees)) ∙ or_2 L n (t.trees (trees_view c.in-Or.trees)) (bounds_view c.in_ok-bounds-in-Or.bounds) bound_all in
    ok_as c.disjunction.result (node L n (view c.args.tree.now)) (disjunction (bounds_view c.in_ok-bounds-in-Or.bounds)) e c.disjunction.ensures.ok

pub bind_node-returns-in_ok-bounds-in-Or-clause-refused : goal.bind_node-returns-in_ok-bounds-in-Or-clause-refused
bind_node-returns-in_ok-bounds-in-Or-clause-refused u c =
    let L = leaf_of c.args.reach.now in
    let n = c.args.number in
    let bound_all : all_bound L n (t.trees (trees_view c.in-Or.trees)) ≡ Ok (bounds_view c.in_ok-bounds-in-Or.bounds) = search rules in
    λ code r.
    let e : node L n (view c.args.tree.now) ≡ disjunction (bounds_view c.in_ok-bounds-in-Or.bounds) = (ap (node L n) (ap view c.in-Or.is ∙ tree_or c.in-Or.trees)) ∙ or_2 L n (t.trees (trees_view c.in-Or.trees)) (bounds_view c.in_ok-bounds-in-Or.bounds) bound_all in
    e ∙ c.disjunction.ensures.refused code r

pub bind_node-returns-in_err-bounds-in-And-clause-refused : goal.bind_node-returns-in_err-bounds-in-And-clause-refused
bind_node-returns-in_err-bounds-in-And-clause-refused u c =
    let L = leaf_of c.args.reach.now in
    let n = c.args.number in
    λ code e.
    let h : all_bound L n (t.trees (trees_view c.in-And.trees)) ≡ Err code = search rules in
    (ap (node L n) (ap view c.in-And.is ∙ tree_and c.in-And.trees)) ∙ and_1 L n (t.trees (trees_view c.in-And.trees)) code h

pub bind_node-returns-in_ok-bounds-in-And-clause-ok : goal.bind_node-returns-in_ok-bounds-in-And-clause-ok
bind_node-returns-in_ok-bounds-in-And-clause-ok u c =
    let L = leaf_of c.args.reach.now in
    let n = c.args.number in
    let bound_all : all_bound L n (t.trees (trees_view c.in-And.trees)) ≡ Ok (bounds_view c.in_ok-bounds-in-And.bounds) = search rules in
    let e : node L n (view c.args.tree.now) ≡ conjunction (bounds_view c.in_ok-bounds-in-And.bounds) = (ap (node L n) (ap view c.in-And.is ∙ tree_and c.in-And.trees)) ∙ and_2 L n (t.trees (trees_view c.in-And.trees)) (bounds_view c.in_ok-bounds-in-And.bounds) bound_all in
    ok_as c.conjunction.result (node L n (view c.args.tree.now)) (conjunction (bounds_view c.in_ok-bounds-in-And.bounds)) e c.conjunction.ensures.ok

pub bind_node-returns-in_ok-bounds-in-And-clause-refused : goal.bind_node-returns-in_ok-bounds-in-And-clause-refused
bind_node-returns-in_ok-bounds-in-And-clause-refused u c =
    let L = leaf_of c.args.reach.now in
    let n = c.args.number in
    let bound_all : all_bound L n (t.trees (trees_view c.in-And.trees)) ≡ Ok (bounds_view c.in_ok-bounds-in-And.bounds) = search rules in
    λ code r.
    let e : node L n (view c.args.tree.now) ≡ conjunction (bounds_view c.in_ok-bounds-in-And.bounds) = (ap (node L n) (ap view c.in-And.is ∙ tree_and c.in-And.trees)) ∙ and_2 L n (t.trees (trees_view c.in-And.trees)) (bounds_view c.in_ok-bounds-in-And.bounds) bound_all in
    e ∙ c.conjunction.ensures.refused code r

pub bind_node-returns-in_err-value-in-Not-clause-refused : goal.bind_node-returns-in_err-value-in-Not-clause-refused
bind_node-returns-in_err-value-in-Not-clause-refused u c =
    let L = leaf_of c.args.reach.now in
    let n = c.args.number in
    λ code e.
    let h : bound L n (view c.in-Not.value) ≡ Err code = search rules in
    (ap (node L n) (ap view c.in-Not.is ∙ tree_not c.in-Not.value)) ∙ not_1 L n (view c.in-Not.value) code h

pub bind_node-returns-in_ok-value-in-Not-clause-ok : goal.bind_node-returns-in_ok-value-in-Not-clause-ok
bind_node-returns-in_ok-value-in-Not-clause-ok u c =
    let L = leaf_of c.args.reach.now in
    let n = c.args.number in
    let one : bound L n (view c.in-Not.value) ≡ Ok (bound_view c.in_ok-value-in-Not.value) = search rules in
    let e : node L n (view c.args.tree.now) ≡ negation (bound_view c.in_ok-value-in-Not.value) = (ap (node L n) (ap view c.in-Not.is ∙ tree_not c.in-Not.value)) ∙ not_2 L n (view c.in-Not.value) (bound_view c.in_ok-value-in-Not.value) one in
    ok_as c.negation.result (node L n (view c.args.tree.now)) (negation (bound_view c.in_ok-value-in-Not.value)) e c.negation.ensures.ok

pub bind_node-returns-in_ok-value-in-Not-clause-refused : goal.bind_node-returns-in_ok-value-in-Not-clause-refused
bind_node-returns-in_ok-value-in-Not-clause-refused u c =
    let L = leaf_of c.args.reach.now in
    let n = c.args.number in
    let one : bound L n (view c.in-Not.value) ≡ Ok (bound_view c.in_ok-value-in-Not.value) = search rules in
    λ code r.
    let e : node L n (view c.args.tree.now) ≡ negation (bound_view c.in_ok-value-in-Not.value) = (ap (node L n) (ap view c.in-Not.is ∙ tree_not c.in-Not.value)) ∙ not_2 L n (view c.in-Not.value) (bound_view c.in_ok-value-in-Not.value) one in
    e ∙ c.negation.ensures.refused code r

pub bind_node-returns-in_err-value-in-Sign-clause-refused : goal.bind_node-returns-in_err-value-in-Sign-clause-refused
bind_node-returns-in_err-value-in-Sign-clause-refused u c =
    let L = leaf_of c.args.reach.now in
    let n = c.args.number in
    λ code e.
    let h : bound L n (view c.in-Sign.value) ≡ Err code = search rules in
    (ap (node L n) (ap view c.in-Sign.is ∙ tree_sign c.in-Sign.minus c.in-Sign.value)) ∙ sign_1 L n c.in-Sign.minus (view c.in-Sign.value) code h

pub bind_node-returns-in_ok-value-in-Sign-clause-ok : goal.bind_node-returns-in_ok-value-in-Sign-clause-ok
bind_node-returns-in_ok-value-in-Sign-clause-ok u c =
    let L = leaf_of c.args.reach.now in
    let n = c.args.number in
    let one : bound L n (view c.in-Sign.value) ≡ Ok (bound_view c.in_ok-value-in-Sign.value) = search rules in
    let e : node L n (view c.args.tree.now) ≡ signed c.in-Sign.minus (bound_view c.in_ok-value-in-Sign.value) = (ap (node L n) (ap view c.in-Sign.is ∙ tree_sign c.in-Sign.minus c.in-Sign.value)) ∙ sign_2 L n c.in-Sign.minus (view c.in-Sign.value) (bound_view c.in_ok-value-in-Sign.value) one in
    ok_as c.signed.result (node L n (view c.args.tree.now)) (signed c.in-Sign.minus (bound_view c.in_ok-value-in-Sign.value)) e c.signed.ensures.ok

pub bind_node-returns-in_ok-value-in-Sign-clause-refused : goal.bind_node-returns-in_ok-value-in-Sign-clause-refused
bind_node-returns-in_ok-value-in-Sign-clause-refused u c =
    let L = leaf_of c.args.reach.now in
    let n = c.args.number in
    let one : bound L n (view c.in-Sign.value) ≡ Ok (bound_view c.in_ok-value-in-Sign.value) = search rules in
    λ code r.
    let e : node L n (view c.args.tree.now) ≡ signed c.in-Sign.minus (bound_view c.in_ok-value-in-Sign.value) = (ap (node L n) (ap view c.in-Sign.is ∙ tree_sign c.in-Sign.minus c.in-Sign.value)) ∙ sign_2 L n c.in-Sign.minus (view c.in-Sign.value) (bound_view c.in_ok-value-in-Sign.value) one in
    e ∙ c.signed.ensures.refused code r

pub bind_node-returns-in_err-left-in-Compare-clause-refused : goal.bind_node-returns-in_err-left-in-Compare-clause-refused
bind_node-returns-in_err-left-in-Compare-clause-refused u c =
    let L = leaf_of c.args.reach.now in
    let n = c.args.number in
    λ code e.
    let h : bound L n (view c.in-Compare.left) ≡ Err code = search rules in
    (ap (node L n) (ap view c.in-Compare.is ∙ tree_compare c.in-Compare.op c.in-Compare.left c.in-Compare.right)) ∙ compare_1 L n c.in-Compare.op (view c.in-Compare.left) (view c.in-Compare.right) code h

pub bind_node-returns-in_err-right-in-Compare-clause-refused : goal.bind_node-returns-in_err-right-in-Compare-clause-refused
bind_node-returns-in_err-right-in-Compare-clause-refused u c =
    let L = leaf_of c.args.reach.now in
    let n = c.args.number in
    λ code e.
    let one : bound L n (view c.in-Compare.left) ≡ Ok (bound_view c.in_ok-left-in-Compare.left) = search rules in
    let e_next : c.in_ok-next-in-Compare.next ≡ n + length (calls (view c.in-Compare.left)) = search rules in
    let h : bound L c.in_ok-next-in-Compare.next (view c.in-Compare.right) ≡ Err code = search rules in
    (ap (node L n) (ap view c.in-Compare.is ∙ tree_compare c.in-Compare.op c.in-Compare.left c.in-Compare.right)) ∙ compare_2 L n c.in-Compare.op (view c.in-Compare.left) (view c.in-Compare.right) (bound_view c.in_ok-left-in-Compare.left) code one (ap (λ k. bound L k (view c.in-Compare.right)) (sym e_next) ∙ h)

pub bind_node-returns-in_ok-right-in-Compare-clause-ok : goal.bind_node-returns-in_ok-right-in-Compare-clause-ok
bind_node-returns-in_ok-right-in-Compare-clause-ok u c =
    let L = leaf_of c.args.reach.now in
    let n = c.args.number in
    let one : bound L n (view c.in-Compare.left) ≡ Ok (bound_view c.in_ok-left-in-Compare.left) = search rules in
    let e_next : c.in_ok-next-in-Compare.next ≡ n + length (calls (view c.in-Compare.left)) = search rules in
    let two : bound L c.in_ok-next-in-Compare.next (view c.in-Compare.right) ≡ Ok (bound_view c.in_ok-right-in-Compare.right) = search rules in
    let e : node L n (view c.args.tree.now) ≡ compare c.in-Compare.op (bound_view c.in_ok-left-in-Compare.left) (bound_view c.in_ok-right-in-Compare.right) = (ap (node L n) (ap view c.in-Compare.is ∙ tree_compare c.in-Compare.op c.in-Compare.left c.in-Compare.right)) ∙ compare_3 L n c.in-Compare.op (view c.in-Compare.left) (view c.in-Compare.right) (bound_view c.in_ok-left-in-Compare.left) (bound_view c.in_ok-right-in-Compare.right) one (ap (λ k. bound L k (view c.in-Compare.right)) (sym e_next) ∙ two) in
    ok_as c.compare.result (node L n (view c.args.tree.now)) (compare c.in-Compare.op (bound_view c.in_ok-left-in-Compare.left) (bound_view c.in_ok-right-in-Compare.right)) e c.compare.ensures.ok

pub bind_node-returns-in_ok-right-in-Compare-clause-refused : goal.bind_node-returns-in_ok-right-in-Compare-clause-refused
bind_node-returns-in_ok-right-in-Compare-clause-refused u c =
    let L = leaf_of c.args.reach.now in
    let n = c.args.number in
    let one : bound L n (view c.in-Compare.left) ≡ Ok (bound_view c.in_ok-left-in-Compare.left) = search rules in
    let e_next : c.in_ok-next-in-Compare.next ≡ n + length (calls (view c.in-Compare.left)) = search rules in
    let two : bound L c.in_ok-next-in-Compare.next (view c.in-Compare.right) ≡ Ok (bound_view c.in_ok-right-in-Compare.right) = search rules in
    λ code r.
    let e : node L n (view c.args.tree.now) ≡ compare c.in-Compare.op (bound_view c.in_ok-left-in-Compare.left) (bound_view c.in_ok-right-in-Compare.right) = (ap (node L n) (ap view c.in-Compare.is ∙ tree_compare c.in-Compare.op c.in-Compare.left c.in-Compare.right)) ∙ compare_3 L n c.in-Compare.op (view c.in-Compare.left) (view c.in-Compare.right) (bound_view c.in_ok-left-in-Compare.left) (bound_view c.in_ok-right-in-Compare.right) one (ap (λ k. bound L k (view c.in-Compare.right)) (sym e_next) ∙ two) in
    e ∙ c.compare.ensures.refused code r

pub bind_node-returns-in_err-value-in-IsNull-clause-refused : goal.bind_node-returns-in_err-value-in-IsNull-clause-refused
bind_node-returns-in_err-value-in-IsNull-clause-refused u c =
    let L = leaf_of c.args.reach.now in
    let n = c.args.number in
    λ code e.
    let h : bound L n (view c.in-IsNull.value) ≡ Err code = search rules in
    (ap (node L n) (ap view c.in-IsNull.is ∙ tree_is_null c.in-IsNull.value c.in-IsNull.negated)) ∙ is_null_1 L n (view c.in-IsNull.value) c.in-IsNull.negated code h

pub bind_node-returns-in_err-test-in-IsNull-clause-refused : goal.bind_node-returns-in_err-test-in-IsNull-clause-refused
bind_node-returns-in_err-test-in-IsNull-clause-refused u c =
    let L = leaf_of c.args.reach.now in
    let n = c.args.number in
    λ code e.
    let one : bound L n (view c.in-IsNull.value) ≡ Ok (bound_view c.in_ok-value-in-IsNull.value) = search rules in
    let h : null_test (bound_view c.in_ok-value-in-IsNull.value) ≡ Err code = search rules in
    (ap (node L n) (ap view c.in-IsNull.is ∙ tree_is_null c.in-IsNull.value c.in-IsNull.negated)) ∙ is_null_2 L n (view c.in-IsNull.value) c.in-IsNull.negated (bound_view c.in_ok-value-in-IsNull.value) code one h

pub bind_node-returns-in_ok-test-in-IsNull-clause-ok : goal.bind_node-returns-in_ok-test-in-IsNull-clause-ok
bind_node-returns-in_ok-test-in-IsNull-clause-ok u c =
    let L = leaf_of c.args.reach.now in
    let n = c.args.number in
    let one : bound L n (view c.in-IsNull.value) ≡ Ok (bound_view c.in_ok-value-in-IsNull.value) = search rules in
    let tested : null_test (bound_view c.in_ok-value-in-IsNull.value) ≡ Ok (bound_view c.in_ok-test-in-IsNull.test) = search rules in
    let e : node L n (view c.args.tree.now) ≡ negated_if c.in-IsNull.negated (bound_view c.in_ok-test-in-IsNull.test) = (ap (node L n) (ap view c.in-IsNull.is ∙ tree_is_null c.in-IsNull.value c.in-IsNull.negated)) ∙ is_null_3 L n (view c.in-IsNull.value) c.in-IsNull.negated (bound_view c.in_ok-value-in-IsNull.value) (bound_view c.in_ok-test-in-IsNull.test) one tested in
    ok_as c.negated_if.result (node L n (view c.args.tree.now)) (negated_if c.in-IsNull.negated (bound_view c.in_ok-test-in-IsNull.test)) e c.negated_if.ensures.ok

pub bind_node-returns-in_ok-test-in-IsNull-clause-refused : goal.bind_node-returns-in_ok-test-in-IsNull-clause-refused
bind_node-returns-in_ok-test-in-IsNull-clause-refused u c =
    let L = leaf_of c.args.reach.now in
    let n = c.args.number in
    let one : bound L n (view c.in-IsNull.value) ≡ Ok (bound_view c.in_ok-value-in-IsNull.value) = search rules in
    let tested : null_test (bound_view c.in_ok-value-in-IsNull.value) ≡ Ok (bound_view c.in_ok-test-in-IsNull.test) = search rules in
    λ code r.
    let e : node L n (view c.args.tree.now) ≡ negated_if c.in-IsNull.negated (bound_view c.in_ok-test-in-IsNull.test) = (ap (node L n) (ap view c.in-IsNull.is ∙ tree_is_null c.in-IsNull.value c.in-IsNull.negated)) ∙ is_null_3 L n (view c.in-IsNull.value) c.in-IsNull.negated (bound_view c.in_ok-value-in-IsNull.value) (bound_view c.in_ok-test-in-IsNull.test) one tested in
    e ∙ c.negated_if.ensures.refused code r

pub bind_node-returns-in_err-value-in-Between-clause-refused : goal.bind_node-returns-in_err-value-in-Between-clause-refused
bind_node-returns-in_err-value-in-Between-clause-refused u c =
    let L = leaf_of c.args.reach.now in
    let n = c.args.number in
    λ code e.
    let h : bound L n (view c.in-Between.value) ≡ Err code = search rules in
    (ap (node L n) (ap view c.in-Between.is ∙ tree_between c.in-Between.value c.in-Between.low c.in-Between.high c.in-Between.negated)) ∙ between_1 L n (view c.in-Between.value) (view c.in-Between.low) (view c.in-Between.high) c.in-Between.negated code h

pub bind_node-returns-in_err-low-in-Between-clause-refused : goal.bind_node-returns-in_err-low-in-Between-clause-refused
bind_node-returns-in_err-low-in-Between-clause-refused u c =
    let L = leaf_of c.args.reach.now in
    let n = c.args.number in
    λ code e.
    let one : bound L n (view c.in-Between.value) ≡ Ok (bound_view c.in_ok-value-in-Between.value) = search rules in
    let e_next : c.in_ok-next-in-Between.next ≡ n + length (calls (view c.in-Between.value)) = search rules in
    let h : bound L c.in_ok-next-in-Between.next (view c.in-Between.low) ≡ Err code = search rules in
    (ap (node L n) (ap view c.in-Between.is ∙ tree_between c.in-Between.value c.in-Between.low c.in-Between.high c.in-Between.negated)) ∙ between_2 L n (view c.in-Between.value) (view c.in-Between.low) (view c.in-Between.high) c.in-Between.negated (bound_view c.in_ok-value-in-Between.value) code one (ap (λ k. bound L k (view c.in-Between.low)) (sym e_next) ∙ h)

pub bind_node-returns-in_err-high-in-Between-clause-refused : goal.bind_node-returns-in_err-high-in-Between-clause-refused
bind_node-returns-in_err-high-in-Between-clause-refused u c =
    let L = leaf_of c.args.reach.now in
    let n = c.args.number in
    λ code e.
    let one : bound L n (view c.in-Between.value) ≡ Ok (bound_view c.in_ok-value-in-Between.value) = search rules in
    let e_next : c.in_ok-next-in-Between.next ≡ n + length (calls (view c.in-Between.value)) = search rules in
    let e_step : c.in_ok-last-in-Between.last ≡ c.in_ok-next-in-Between.next + length (calls (view c.in-Between.low)) = search rules in
    let e_last : c.in_ok-last-in-Between.last ≡ n + length (calls (view c.in-Between.value)) + length (calls (view c.in-Between.low)) = e_step ∙ ap (λ k. k + length (calls (view c.in-Between.low))) e_next in
    let two : bound L c.in_ok-next-in-Between.next (view c.in-Between.low) ≡ Ok (bound_view c.in_ok-low-in-Between.low) = search rules in
    let h : bound L c.in_ok-last-in-Between.last (view c.in-Between.high) ≡ Err code = search rules in
    (ap (node L n) (ap view c.in-Between.is ∙ tree_between c.in-Between.value c.in-Between.low c.in-Between.high c.in-Between.negated)) ∙ between_3 L n (view c.in-Between.value) (view c.in-Between.low) (view c.in-Between.high) c.in-Between.negated (bound_view c.in_ok-value-in-Between.value) (bound_view c.in_ok-low-in-Between.low) code one (ap (λ k. bound L k (view c.in-Between.low)) (sym e_next) ∙ two) (ap (λ k. bound L k (view c.in-Between.high)) (sym e_last) ∙ h)

pub bind_node-returns-in_err-test-in-Between-clause-refused : goal.bind_node-returns-in_err-test-in-Between-clause-refused
bind_node-returns-in_err-test-in-Between-clause-refused u c =
    let L = leaf_of c.args.reach.now in
    let n = c.args.number in
    λ code e.
    let one : bound L n (view c.in-Between.value) ≡ Ok (bound_view c.in_ok-value-in-Between.value) = search rules in
    let e_next : c.in_ok-next-in-Between.next ≡ n + length (calls (view c.in-Between.value)) = search rules in
    let e_step : c.in_ok-last-in-Between.last ≡ c.in_ok-next-in-Between.next + length (calls (view c.in-Between.low)) = search rules in
    let e_last : c.in_ok-last-in-Between.last ≡ n + length (calls (view c.in-Between.value)) + length (calls (view c.in-Between.low)) = e_step ∙ ap (λ k. k + length (calls (view c.in-Between.low))) e_next in
    let two : bound L c.in_ok-next-in-Between.next (view c.in-Between.low) ≡ Ok (bound_view c.in_ok-low-in-Between.low) = search rules in
    let three : bound L c.in_ok-last-in-Between.last (view c.in-Between.high) ≡ Ok (bound_view c.in_ok-high-in-Between.high) = search rules in
    let h : between (bound_view c.in_ok-value-in-Between.value) (bound_view c.in_ok-low-in-Between.low) (bound_view c.in_ok-high-in-Between.high) ≡ Err code = search rules in
    (ap (node L n) (ap view c.in-Between.is ∙ tree_between c.in-Between.value c.in-Between.low c.in-Between.high c.in-Between.negated)) ∙ between_4 L n (view c.in-Between.value) (view c.in-Between.low) (view c.in-Between.high) c.in-Between.negated (bound_view c.in_ok-value-in-Between.value) (bound_view c.in_ok-low-in-Between.low) (bound_view c.in_ok-high-in-Between.high) code one (ap (λ k. bound L k (view c.in-Between.low)) (sym e_next) ∙ two) (ap (λ k. bound L k (view c.in-Between.high)) (sym e_last) ∙ three) h

pub bind_node-returns-in_ok-test-in-Between-clause-ok : goal.bind_node-returns-in_ok-test-in-Between-clause-ok
bind_node-returns-in_ok-test-in-Between-clause-ok u c =
    let L = leaf_of c.args.reach.now in
    let n = c.args.number in
    let one : bound L n (view c.in-Between.value) ≡ Ok (bound_view c.in_ok-value-in-Between.value) = search rules in
    let e_next : c.in_ok-next-in-Between.next ≡ n + length (calls (view c.in-Between.value)) = search rules in
    let e_step : c.in_ok-last-in-Between.last ≡ c.in_ok-next-in-Between.next + length (calls (view c.in-Between.low)) = search rules in
    let e_last : c.in_ok-last-in-Between.last ≡ n + length (calls (view c.in-Between.value)) + length (calls (view c.in-Between.low)) = e_step ∙ ap (λ k. k + length (calls (view c.in-Between.low))) e_next in
    let two : bound L c.in_ok-next-in-Between.next (view c.in-Between.low) ≡ Ok (bound_view c.in_ok-low-in-Between.low) = search rules in
    let three : bound L c.in_ok-last-in-Between.last (view c.in-Between.high) ≡ Ok (bound_view c.in_ok-high-in-Between.high) = search rules in
    let tested : between (bound_view c.in_ok-value-in-Between.value) (bound_view c.in_ok-low-in-Between.low) (bound_view c.in_ok-high-in-Between.high) ≡ Ok (bound_view c.in_ok-test-in-Between.test) = search rules in
    let e : node L n (view c.args.tree.now) ≡ negated_if c.in-Between.negated (bound_view c.in_ok-test-in-Between.test) = (ap (node L n) (ap view c.in-Between.is ∙ tree_between c.in-Between.value c.in-Between.low c.in-Between.high c.in-Between.negated)) ∙ between_5 L n (view c.in-Between.value) (view c.in-Between.low) (view c.in-Between.high) c.in-Between.negated (bound_view c.in_ok-value-in-Between.value) (bound_view c.in_ok-low-in-Between.low) (bound_view c.in_ok-high-in-Between.high) (bound_view c.in_ok-test-in-Between.test) one (ap (λ k. bound L k (view c.in-Between.low)) (sym e_next) ∙ two) (ap (λ k. bound L k (view c.in-Between.high)) (sym e_last) ∙ three) tested in
    ok_as c.negated_if-in-Between.result (node L n (view c.args.tree.now)) (negated_if c.in-Between.negated (bound_view c.in_ok-test-in-Between.test)) e c.negated_if-in-Between.ensures.ok

pub bind_node-returns-in_ok-test-in-Between-clause-refused : goal.bind_node-returns-in_ok-test-in-Between-clause-refused
bind_node-returns-in_ok-test-in-Between-clause-refused u c =
    let L = leaf_of c.args.reach.now in
    let n = c.args.number in
    let one : bound L n (view c.in-Between.value) ≡ Ok (bound_view c.in_ok-value-in-Between.value) = search rules in
    let e_next : c.in_ok-next-in-Between.next ≡ n + length (calls (view c.in-Between.value)) = search rules in
    let e_step : c.in_ok-last-in-Between.last ≡ c.in_ok-next-in-Between.next + length (calls (view c.in-Between.low)) = search rules in
    let e_last : c.in_ok-last-in-Between.last ≡ n + length (calls (view c.in-Between.value)) + length (calls (view c.in-Between.low)) = e_step ∙ ap (λ k. k + length (calls (view c.in-Between.low))) e_next in
    let two : bound L c.in_ok-next-in-Between.next (view c.in-Between.low) ≡ Ok (bound_view c.in_ok-low-in-Between.low) = search rules in
    let three : bound L c.in_ok-last-in-Between.last (view c.in-Between.high) ≡ Ok (bound_view c.in_ok-high-in-Between.high) = search rules in
    let tested : between (bound_view c.in_ok-value-in-Between.value) (bound_view c.in_ok-low-in-Between.low) (bound_view c.in_ok-high-in-Between.high) ≡ Ok (bound_view c.in_ok-test-in-Between.test) = search rules in
    λ code r.
    let e : node L n (view c.args.tree.now) ≡ negated_if c.in-Between.negated (bound_view c.in_ok-test-in-Between.test) = (ap (node L n) (ap view c.in-Between.is ∙ tree_between c.in-Between.value c.in-Between.low c.in-Between.high c.in-Between.negated)) ∙ between_5 L n (view c.in-Between.value) (view c.in-Between.low) (view c.in-Between.high) c.in-Between.negated (bound_view c.in_ok-value-in-Between.value) (bound_view c.in_ok-low-in-Between.low) (bound_view c.in_ok-high-in-Between.high) (bound_view c.in_ok-test-in-Between.test) one (ap (λ k. bound L k (view c.in-Between.low)) (sym e_next) ∙ two) (ap (λ k. bound L k (view c.in-Between.high)) (sym e_last) ∙ three) tested in
    e ∙ c.negated_if-in-Between.ensures.refused code r

pub bind_node-returns-in_err-value-in-InList-clause-refused : goal.bind_node-returns-in_err-value-in-InList-clause-refused
bind_node-returns-in_err-value-in-InList-clause-refused u c =
    let L = leaf_of c.args.reach.now in
    let n = c.args.number in
    λ code e.
    let h : bound L n (view c.in-InList.value) ≡ Err code = search rules in
    (ap (node L n) (ap view c.in-InList.is ∙ tree_in_list c.in-InList.value c.in-InList.items c.in-InList.negated)) ∙ in_list_1 L n (view c.in-InList.value) (t.trees (trees_view c.in-InList.items)) c.in-InList.negated code h

pub bind_node-returns-in_err-items-in-InList-clause-refused : goal.bind_node-returns-in_err-items-in-InList-clause-refused
bind_node-returns-in_err-items-in-InList-clause-refused u c =
    let L = leaf_of c.args.reach.now in
    let n = c.args.number in
    λ code e.
    let one : bound L n (view c.in-InList.value) ≡ Ok (bound_view c.in_ok-value-in-InList.value) = search rules in
    let e_next : c.in_ok-next-in-InList.next ≡ n + length (calls (view c.in-InList.value)) = search rules in
    let h : all_bound L c.in_ok-next-in-InList.next (t.trees (trees_view c.in-InList.items)) ≡ Err code = search rules in
    (ap (node L n) (ap view c.in-InList.is ∙ tree_in_list c.in-InList.value c.in-InList.items c.in-InList.negated)) ∙ in_list_2 L n (view c.in-InList.value) (t.trees (trees_view c.in-InList.items)) c.in-InList.negated (bound_view c.in_ok-value-in-InList.value) code one (ap (λ k. all_bound L k (t.trees (trees_view c.in-InList.items))) (sym e_next) ∙ h)

pub bind_node-returns-in_err-test-in-InList-clause-refused : goal.bind_node-returns-in_err-test-in-InList-clause-refused
bind_node-returns-in_err-test-in-InList-clause-refused u c =
    let L = leaf_of c.args.reach.now in
    let n = c.args.number in
    λ code e.
    let one : bound L n (view c.in-InList.value) ≡ Ok (bound_view c.in_ok-value-in-InList.value) = search rules in
    let e_next : c.in_ok-next-in-InList.next ≡ n + length (calls (view c.in-InList.value)) = search rules in
    let two : all_bound L c.in_ok-next-in-InList.next (t.trees (trees_view c.in-InList.items)) ≡ Ok (bounds_view c.in_ok-items-in-InList.items) = search rules in
    let h : in_list (bound_view c.in_ok-value-in-InList.value) (bounds_view c.in_ok-items-in-InList.items) ≡ Err code = search rules in
    (ap (node L n) (ap view c.in-InList.is ∙ tree_in_list c.in-InList.value c.in-InList.items c.in-InList.negated)) ∙ in_list_3 L n (view c.in-InList.value) (t.trees (trees_view c.in-InList.items)) c.in-InList.negated (bound_view c.in_ok-value-in-InList.value) (bounds_view c.in_ok-items-in-InList.items) code one (ap (λ k. all_bound L k (t.trees (trees_view c.in-InList.items))) (sym e_next) ∙ two) h

pub bind_node-returns-in_ok-test-in-InList-clause-ok : goal.bind_node-returns-in_ok-test-in-InList-clause-ok
bind_node-returns-in_ok-test-in-InList-clause-ok u c =
    let L = leaf_of c.args.reach.now in
    let n = c.args.number in
    let one : bound L n (view c.in-InList.value) ≡ Ok (bound_view c.in_ok-value-in-InList.value) = search rules in
    let e_next : c.in_ok-next-in-InList.next ≡ n + length (calls (view c.in-InList.value)) = search rules in
    let two : all_bound L c.in_ok-next-in-InList.next (t.trees (trees_view c.in-InList.items)) ≡ Ok (bounds_view c.in_ok-items-in-InList.items) = search rules in
    let tested : in_list (bound_view c.in_ok-value-in-InList.value) (bounds_view c.in_ok-items-in-InList.items) ≡ Ok (bound_view c.in_ok-test-in-InList.test) = search rules in
    let e : node L n (view c.args.tree.now) ≡ negated_if c.in-InList.negated (bound_view c.in_ok-test-in-InList.test) = (ap (node L n) (ap view c.in-InList.is ∙ tree_in_list c.in-InList.value c.in-InList.items c.in-InList.negated)) ∙ in_list_4 L n (view c.in-InList.value) (t.trees (trees_view c.in-InList.items)) c.in-InList.negated (bound_view c.in_ok-value-in-InList.value) (bounds_view c.in_ok-items-in-InList.items) (bound_view c.in_ok-test-in-InList.test) one (ap (λ k. all_bound L k (t.trees (trees_view c.in-InList.items))) (sym e_next) ∙ two) tested in
    ok_as c.negated_if-in-InList.result (node L n (view c.args.tree.now)) (negated_if c.in-InList.negated (bound_view c.in_ok-test-in-InList.test)) e c.negated_if-in-InList.ensures.ok

pub bind_node-returns-in_ok-test-in-InList-clause-refused : goal.bind_node-returns-in_ok-test-in-InList-clause-refused
bind_node-returns-in_ok-test-in-InList-clause-refused u c =
    let L = leaf_of c.args.reach.now in
    let n = c.args.number in
    let one : bound L n (view c.in-InList.value) ≡ Ok (bound_view c.in_ok-value-in-InList.value) = search rules in
    let e_next : c.in_ok-next-in-InList.next ≡ n + length (calls (view c.in-InList.value)) = search rules in
    let two : all_bound L c.in_ok-next-in-InList.next (t.trees (trees_view c.in-InList.items)) ≡ Ok (bounds_view c.in_ok-items-in-InList.items) = search rules in
    let tested : in_list (bound_view c.in_ok-value-in-InList.value) (bounds_view c.in_ok-items-in-InList.items) ≡ Ok (bound_view c.in_ok-test-in-InList.test) = search rules in
    λ code r.
    let e : node L n (view c.args.tree.now) ≡ negated_if c.in-InList.negated (bound_view c.in_ok-test-in-InList.test) = (ap (node L n) (ap view c.in-InList.is ∙ tree_in_list c.in-InList.value c.in-InList.items c.in-InList.negated)) ∙ in_list_4 L n (view c.in-InList.value) (t.trees (trees_view c.in-InList.items)) c.in-InList.negated (bound_view c.in_ok-value-in-InList.value) (bounds_view c.in_ok-items-in-InList.items) (bound_view c.in_ok-test-in-InList.test) one (ap (λ k. all_bound L k (t.trees (trees_view c.in-InList.items))) (sym e_next) ∙ two) tested in
    e ∙ c.negated_if-in-InList.ensures.refused code r

pub bind_node-returns-in_err-value-in-Like-clause-refused : goal.bind_node-returns-in_err-value-in-Like-clause-refused
bind_node-returns-in_err-value-in-Like-clause-refused u c =
    let L = leaf_of c.args.reach.now in
    let n = c.args.number in
    λ code e.
    let h : bound L n (view c.in-Like.value) ≡ Err code = search rules in
    (ap (node L n) (ap view c.in-Like.is ∙ tree_like c.in-Like.value c.in-Like.pattern c.in-Like.negated)) ∙ like_1 L n (view c.in-Like.value) (view c.in-Like.pattern) c.in-Like.negated code h

pub bind_node-returns-in_err-pattern-in-Like-clause-refused : goal.bind_node-returns-in_err-pattern-in-Like-clause-refused
bind_node-returns-in_err-pattern-in-Like-clause-refused u c =
    let L = leaf_of c.args.reach.now in
    let n = c.args.number in
    λ code e.
    let one : bound L n (view c.in-Like.value) ≡ Ok (bound_view c.in_ok-value-in-Like.value) = search rules in
    let e_next : c.in_ok-next-in-Like.next ≡ n + length (calls (view c.in-Like.value)) = search rules in
    let h : bound L c.in_ok-next-in-Like.next (view c.in-Like.pattern) ≡ Err code = search rules in
    (ap (node L n) (ap view c.in-Like.is ∙ tree_like c.in-Like.value c.in-Like.pattern c.in-Like.negated)) ∙ like_2 L n (view c.in-Like.value) (view c.in-Like.pattern) c.in-Like.negated (bound_view c.in_ok-value-in-Like.value) code one (ap (λ k. bound L k (view c.in-Like.pattern)) (sym e_next) ∙ h)

pub bind_node-returns-in_err-test-in-Like-clause-refused : goal.bind_node-returns-in_err-test-in-Like-clause-refused
bind_node-returns-in_err-test-in-Like-clause-refused u c =
    let L = leaf_of c.args.reach.now in
    let n = c.args.number in
    λ code e.
    let one : bound L n (view c.in-Like.value) ≡ Ok (bound_view c.in_ok-value-in-Like.value) = search rules in
    let e_next : c.in_ok-next-in-Like.next ≡ n + length (calls (view c.in-Like.value)) = search rules in
    let two : bound L c.in_ok-next-in-Like.next (view c.in-Like.pattern) ≡ Ok (bound_view c.in_ok-pattern-in-Like.pattern) = search rules in
    let h : like (bound_view c.in_ok-value-in-Like.value) (bound_view c.in_ok-pattern-in-Like.pattern) ≡ Err code = search rules in
    (ap (node L n) (ap view c.in-Like.is ∙ tree_like c.in-Like.value c.in-Like.pattern c.in-Like.negated)) ∙ like_3 L n (view c.in-Like.value) (view c.in-Like.pattern) c.in-Like.negated (bound_view c.in_ok-value-in-Like.value) (bound_view c.in_ok-pattern-in-Like.pattern) code one (ap (λ k. bound L k (view c.in-Like.pattern)) (sym e_next) ∙ two) h

pub bind_node-returns-in_ok-test-in-Like-clause-ok : goal.bind_node-returns-in_ok-test-in-Like-clause-ok
bind_node-returns-in_ok-test-in-Like-clause-ok u c =
    let L = leaf_of c.args.reach.now in
    let n = c.args.number in
    let one : bound L n (view c.in-Like.value) ≡ Ok (bound_view c.in_ok-value-in-Like.value) = search rules in
    let e_next : c.in_ok-next-in-Like.next ≡ n + length (calls (view c.in-Like.value)) = search rules in
    let two : bound L c.in_ok-next-in-Like.next (view c.in-Like.pattern) ≡ Ok (bound_view c.in_ok-pattern-in-Like.pattern) = search rules in
    let tested : like (bound_view c.in_ok-value-in-Like.value) (bound_view c.in_ok-pattern-in-Like.pattern) ≡ Ok (bound_view c.in_ok-test-in-Like.test) = search rules in
    let e : node L n (view c.args.tree.now) ≡ negated_if c.in-Like.negated (bound_view c.in_ok-test-in-Like.test) = (ap (node L n) (ap view c.in-Like.is ∙ tree_like c.in-Like.value c.in-Like.pattern c.in-Like.negated)) ∙ like_4 L n (view c.in-Like.value) (view c.in-Like.pattern) c.in-Like.negated (bound_view c.in_ok-value-in-Like.value) (bound_view c.in_ok-pattern-in-Like.pattern) (bound_view c.in_ok-test-in-Like.test) one (ap (λ k. bound L k (view c.in-Like.pattern)) (sym e_next) ∙ two) tested in
    ok_as c.negated_if-in-Like.result (node L n (view c.args.tree.now)) (negated_if c.in-Like.negated (bound_view c.in_ok-test-in-Like.test)) e c.negated_if-in-Like.ensures.ok

pub bind_node-returns-in_ok-test-in-Like-clause-refused : goal.bind_node-returns-in_ok-test-in-Like-clause-refused
bind_node-returns-in_ok-test-in-Like-clause-refused u c =
    let L = leaf_of c.args.reach.now in
    let n = c.args.number in
    let one : bound L n (view c.in-Like.value) ≡ Ok (bound_view c.in_ok-value-in-Like.value) = search rules in
    let e_next : c.in_ok-next-in-Like.next ≡ n + length (calls (view c.in-Like.value)) = search rules in
    let two : bound L c.in_ok-next-in-Like.next (view c.in-Like.pattern) ≡ Ok (bound_view c.in_ok-pattern-in-Like.pattern) = search rules in
    let tested : like (bound_view c.in_ok-value-in-Like.value) (bound_view c.in_ok-pattern-in-Like.pattern) ≡ Ok (bound_view c.in_ok-test-in-Like.test) = search rules in
    λ code r.
    let e : node L n (view c.args.tree.now) ≡ negated_if c.in-Like.negated (bound_view c.in_ok-test-in-Like.test) = (ap (node L n) (ap view c.in-Like.is ∙ tree_like c.in-Like.value c.in-Like.pattern c.in-Like.negated)) ∙ like_4 L n (view c.in-Like.value) (view c.in-Like.pattern) c.in-Like.negated (bound_view c.in_ok-value-in-Like.value) (bound_view c.in_ok-pattern-in-Like.pattern) (bound_view c.in_ok-test-in-Like.test) one (ap (λ k. bound L k (view c.in-Like.pattern)) (sym e_next) ∙ two) tested in
    e ∙ c.negated_if-in-Like.ensures.refused code r

pub bind_node-returns-in_err-refuse_long-in-Sum-clause-refused : goal.bind_node-returns-in_err-refuse_long-in-Sum-clause-refused
bind_node-returns-in_err-refuse_long-in-Sum-clause-refused u c =
    let L = leaf_of c.args.reach.now in
    let n = c.args.number in
    λ code e.
    let counted : c.len.result ≡ length c.in-Sum.rest = search rules in
    let long : Long c.len.result code = search rules in
    (ap (node L n) (ap view c.in-Sum.is ∙ tree_sum c.in-Sum.first c.in-Sum.rest)) ∙ sum_long L n (view c.in-Sum.first) (t.sum_tails (sum_tails_view c.in-Sum.rest)) (ap is_long (sum_length_is c.in-Sum.rest ∙ ap suc (sym counted)) ∙ long.0) ∙ ap Err (sym long.1)

pub bind_node-returns-in_err-first-in-Sum-clause-refused : goal.bind_node-returns-in_err-first-in-Sum-clause-refused
bind_node-returns-in_err-first-in-Sum-clause-refused u c =
    let L = leaf_of c.args.reach.now in
    let n = c.args.number in
    λ code e.
    let counted : c.len.result ≡ length c.in-Sum.rest = search rules in
    let short : is_long (suc c.len.result) ≡ false = search rules in
    let h : bound L n (view c.in-Sum.first) ≡ Err code = search rules in
    (ap (node L n) (ap view c.in-Sum.is ∙ tree_sum c.in-Sum.first c.in-Sum.rest)) ∙ sum_1 L n (view c.in-Sum.first) (t.sum_tails (sum_tails_view c.in-Sum.rest)) code (ap is_long (sum_length_is c.in-Sum.rest ∙ ap suc (sym counted)) ∙ short) h

pub bind_node-returns-in_ok-first-in-Sum-clause-ok : goal.bind_node-returns-in_ok-first-in-Sum-clause-ok
bind_node-returns-in_ok-first-in-Sum-clause-ok u c =
    let L = leaf_of c.args.reach.now in
    let n = c.args.number in
    let counted : c.len.result ≡ length c.in-Sum.rest = search rules in
    let short : is_long (suc c.len.result) ≡ false = search rules in
    let one : bound L n (view c.in-Sum.first) ≡ Ok (bound_view c.in_ok-first-in-Sum.first) = search rules in
    let e_next : c.in_ok-next-in-Sum.next ≡ n + length (calls (view c.in-Sum.first)) = search rules in
    let e : node L n (view c.args.tree.now) ≡ sum_bound L c.in_ok-next-in-Sum.next (bound_view c.in_ok-first-in-Sum.first) (t.sum_tails (sum_tails_view c.in-Sum.rest)) = (ap (node L n) (ap view c.in-Sum.is ∙ tree_sum c.in-Sum.first c.in-Sum.rest)) ∙ (sum_2 L n (view c.in-Sum.first) (t.sum_tails (sum_tails_view c.in-Sum.rest)) (bound_view c.in_ok-first-in-Sum.first) (ap is_long (sum_length_is c.in-Sum.rest ∙ ap suc (sym counted)) ∙ short) one ∙ ap (λ k. sum_bound L k (bound_view c.in_ok-first-in-Sum.first) (t.sum_tails (sum_tails_view c.in-Sum.rest))) (sym e_next)) in
    ok_as c.bind_sum.result (node L n (view c.args.tree.now)) (sum_bound L c.in_ok-next-in-Sum.next (bound_view c.in_ok-first-in-Sum.first) (t.sum_tails (sum_tails_view c.in-Sum.rest))) e c.bind_sum.ensures.ok

pub bind_node-returns-in_ok-first-in-Sum-clause-refused : goal.bind_node-returns-in_ok-first-in-Sum-clause-refused
bind_node-returns-in_ok-first-in-Sum-clause-refused u c =
    let L = leaf_of c.args.reach.now in
    let n = c.args.number in
    let counted : c.len.result ≡ length c.in-Sum.rest = search rules in
    let short : is_long (suc c.len.result) ≡ false = search rules in
    let one : bound L n (view c.in-Sum.first) ≡ Ok (bound_view c.in_ok-first-in-Sum.first) = search rules in
    let e_next : c.in_ok-next-in-Sum.next ≡ n + length (calls (view c.in-Sum.first)) = search rules in
    λ code r.
    let e : node L n (view c.args.tree.now) ≡ sum_bound L c.in_ok-next-in-Sum.next (bound_view c.in_ok-first-in-Sum.first) (t.sum_tails (sum_tails_view c.in-Sum.rest)) = (ap (node L n) (ap view c.in-Sum.is ∙ tree_sum c.in-Sum.first c.in-Sum.rest)) ∙ (sum_2 L n (view c.in-Sum.first) (t.sum_tails (sum_tails_view c.in-Sum.rest)) (bound_view c.in_ok-first-in-Sum.first) (ap is_long (sum_length_is c.in-Sum.rest ∙ ap suc (sym counted)) ∙ short) one ∙ ap (λ k. sum_bound L k (bound_view c.in_ok-first-in-Sum.first) (t.sum_tails (sum_tails_view c.in-Sum.rest))) (sym e_next)) in
    e ∙ c.bind_sum.ensures.refused code r

pub bind_node-returns-in_err-refuse_long-in-Product-clause-refused : goal.bind_node-returns-in_err-refuse_long-in-Product-clause-refused
bind_node-returns-in_err-refuse_long-in-Product-clause-refused u c =
    let L = leaf_of c.args.reach.now in
    let n = c.args.number in
    λ code e.
    let counted : c.len-in-Product.result ≡ length c.in-Product.rest = search rules in
    let long : Long c.len-in-Product.result code = search rules in
    (ap (node L n) (ap view c.in-Product.is ∙ tree_product c.in-Product.first c.in-Product.rest)) ∙ product_long L n (view c.in-Product.first) (t.product_tails (product_tails_view c.in-Product.rest)) (ap is_long (product_length_is c.in-Product.rest ∙ ap suc (sym counted)) ∙ long.0) ∙ ap Err (sym long.1)

pub bind_node-returns-in_err-first-in-Product-clause-refused : goal.bind_node-returns-in_err-first-in-Product-clause-refused
bind_node-returns-in_err-first-in-Product-clause-refused u c =
    let L = leaf_of c.args.reach.now in
    let n = c.args.number in
    λ code e.
    let counted : c.len-in-Product.result ≡ length c.in-Product.rest = search rules in
    let short : is_long (suc c.len-in-Product.result) ≡ false = search rules in
    let h : bound L n (view c.in-Product.first) ≡ Err code = search rules in
    (ap (node L n) (ap view c.in-Product.is ∙ tree_product c.in-Product.first c.in-Product.rest)) ∙ product_1 L n (view c.in-Product.first) (t.product_tails (product_tails_view c.in-Product.rest)) code (ap is_long (product_length_is c.in-Product.rest ∙ ap suc (sym counted)) ∙ short) h

pub bind_node-returns-in_ok-first-in-Product-clause-ok : goal.bind_node-returns-in_ok-first-in-Product-clause-ok
bind_node-returns-in_ok-first-in-Product-clause-ok u c =
    let L = leaf_of c.args.reach.now in
    let n = c.args.number in
    let counted : c.len-in-Product.result ≡ length c.in-Product.rest = search rules in
    let short : is_long (suc c.len-in-Product.result) ≡ false = search rules in
    let one : bound L n (view c.in-Product.first) ≡ Ok (bound_view c.in_ok-first-in-Product.first) = search rules in
    let e_next : c.in_ok-next-in-Product.next ≡ n + length (calls (view c.in-Product.first)) = search rules in
    let e : node L n (view c.args.tree.now) ≡ product_bound L c.in_ok-next-in-Product.next (bound_view c.in_ok-first-in-Product.first) (t.product_tails (product_tails_view c.in-Product.rest)) = (ap (node L n) (ap view c.in-Product.is ∙ tree_product c.in-Product.first c.in-Product.rest)) ∙ (product_2 L n (view c.in-Product.first) (t.product_tails (product_tails_view c.in-Product.rest)) (bound_view c.in_ok-first-in-Product.first) (ap is_long (product_length_is c.in-Product.rest ∙ ap suc (sym counted)) ∙ short) one ∙ ap (λ k. product_bound L k (bound_view c.in_ok-first-in-Product.first) (t.product_tails (product_tails_view c.in-Product.rest))) (sym e_next)) in
    ok_as c.bind_product.result (node L n (view c.args.tree.now)) (product_bound L c.in_ok-next-in-Product.next (bound_view c.in_ok-first-in-Product.first) (t.product_tails (product_tails_view c.in-Product.rest))) e c.bind_product.ensures.ok

pub bind_node-returns-in_ok-first-in-Product-clause-refused : goal.bind_node-returns-in_ok-first-in-Product-clause-refused
bind_node-returns-in_ok-first-in-Product-clause-refused u c =
    let L = leaf_of c.args.reach.now in
    let n = c.args.number in
    let counted : c.len-in-Product.result ≡ length c.in-Product.rest = search rules in
    let short : is_long (suc c.len-in-Product.result) ≡ false = search rules in
    let one : bound L n (view c.in-Product.first) ≡ Ok (bound_view c.in_ok-first-in-Product.first) = search rules in
    let e_next : c.in_ok-next-in-Product.next ≡ n + length (calls (view c.in-Product.first)) = search rules in
    λ code r.
    let e : node L n (view c.args.tree.now) ≡ product_bound L c.in_ok-next-in-Product.next (bound_view c.in_ok-first-in-Product.first) (t.product_tails (product_tails_view c.in-Product.rest)) = (ap (node L n) (ap view c.in-Product.is ∙ tree_product c.in-Product.first c.in-Product.rest)) ∙ (product_2 L n (view c.in-Product.first) (t.product_tails (product_tails_view c.in-Product.rest)) (bound_view c.in_ok-first-in-Product.first) (ap is_long (product_length_is c.in-Product.rest ∙ ap suc (sym counted)) ∙ short) one ∙ ap (λ k. product_bound L k (bound_view c.in_ok-first-in-Product.first) (t.product_tails (product_tails_view c.in-Product.rest))) (sym e_next)) in
    e ∙ c.bind_product.ensures.refused code r

pub bind_node-returns-in_err-value-in-Cast-clause-refused : goal.bind_node-returns-in_err-value-in-Cast-clause-refused
bind_node-returns-in_err-value-in-Cast-clause-refused u c =
    let L = leaf_of c.args.reach.now in
    let n = c.args.number in
    λ code e.
    let h : unless_null (view c.in-Cast.value) (bound L n (view c.in-Cast.value)) ≡ Err code = search rules in
    (ap (node L n) (ap view c.in-Cast.is ∙ tree_cast c.in-Cast.value c.in-Cast.ty)) ∙ cast_1 L n (view c.in-Cast.value) c.in-Cast.ty code h

pub bind_node-returns-in_ok-value-in-Cast-clause-ok : goal.bind_node-returns-in_ok-value-in-Cast-clause-ok
bind_node-returns-in_ok-value-in-Cast-clause-ok u c =
    let L = leaf_of c.args.reach.now in
    let n = c.args.number in
    let one : unless_null (view c.in-Cast.value) (bound L n (view c.in-Cast.value)) ≡ Ok (option_map bound_view c.in_ok-value-in-Cast.value) = search rules in
    let e : node L n (view c.args.tree.now) ≡ cast_to c.type_of.result (option_map bound_view c.in_ok-value-in-Cast.value) = (ap (node L n) (ap view c.in-Cast.is ∙ tree_cast c.in-Cast.value c.in-Cast.ty)) ∙ (cast_2 L n (view c.in-Cast.value) c.in-Cast.ty (option_map bound_view c.in_ok-value-in-Cast.value) one ∙ ap (λ y. cast_to y (option_map bound_view c.in_ok-value-in-Cast.value)) (sym c.type_of.ensures)) in
    ok_as c.cast_to.result (node L n (view c.args.tree.now)) (cast_to c.type_of.result (option_map bound_view c.in_ok-value-in-Cast.value)) e c.cast_to.ensures.ok

pub bind_node-returns-in_ok-value-in-Cast-clause-refused : goal.bind_node-returns-in_ok-value-in-Cast-clause-refused
bind_node-returns-in_ok-value-in-Cast-clause-refused u c =
    let L = leaf_of c.args.reach.now in
    let n = c.args.number in
    let one : unless_null (view c.in-Cast.value) (bound L n (view c.in-Cast.value)) ≡ Ok (option_map bound_view c.in_ok-value-in-Cast.value) = search rules in
    λ code r.
    let e : node L n (view c.args.tree.now) ≡ cast_to c.type_of.result (option_map bound_view c.in_ok-value-in-Cast.value) = (ap (node L n) (ap view c.in-Cast.is ∙ tree_cast c.in-Cast.value c.in-Cast.ty)) ∙ (cast_2 L n (view c.in-Cast.value) c.in-Cast.ty (option_map bound_view c.in_ok-value-in-Cast.value) one ∙ ap (λ y. cast_to y (option_map bound_view c.in_ok-value-in-Cast.value)) (sym c.type_of.ensures)) in
    e ∙ c.cast_to.ensures.refused code r

pub bind_node-returns-in_err-operands-in-Call-clause-refused : goal.bind_node-returns-in_err-operands-in-Call-clause-refused
bind_node-returns-in_err-operands-in-Call-clause-refused u c =
    let L = leaf_of c.args.reach.now in
    let n = c.args.number in
    let A = args_view c.in-Call.args in
    let F = t.optional_tree (option_map view c.in-Call.filter) in
    let O = t.optional_over (option_map over_view c.in-Call.over) in
    λ code e.
    let h : args_bound L n A ≡ Err code = search rules in
    ap (node L n) (ap view c.in-Call.is ∙ tree_call c.in-Call.name c.in-Call.args c.in-Call.filter c.in-Call.over) ∙ call_1 L n c.in-Call.name A F O code h

pub bind_node-returns-in_err-bind_optional-in-Call-clause-refused : goal.bind_node-returns-in_err-bind_optional-in-Call-clause-refused
bind_node-returns-in_err-bind_optional-in-Call-clause-refused u c =
    let L = leaf_of c.args.reach.now in
    let n = c.args.number in
    let A = args_view c.in-Call.args in
    let F = t.optional_tree (option_map view c.in-Call.filter) in
    let O = t.optional_over (option_map over_view c.in-Call.over) in
    λ code e.
    let one : args_bound L n A ≡ Ok (bounds_view c.in_ok-operands-in-Call.operands) = search rules in
    let e_next : c.in_ok-next-in-Call.next ≡ n + length (args_calls A) = search rules in
    let h : optional_bound L c.in_ok-next-in-Call.next F ≡ Err code = search rules in
    ap (node L n) (ap view c.in-Call.is ∙ tree_call c.in-Call.name c.in-Call.args c.in-Call.filter c.in-Call.over) ∙ call_2 L n c.in-Call.name A F O (bounds_view c.in_ok-operands-in-Call.operands) code one (ap (λ k. optional_bound L k F) (sym e_next) ∙ h)

pub bind_node-returns-in_err-bind_window_if-in-Call-clause-refused : goal.bind_node-returns-in_err-bind_window_if-in-Call-clause-refused
bind_node-returns-in_err-bind_window_if-in-Call-clause-refused u c =
    let L = leaf_of c.args.reach.now in
    let n = c.args.number in
    let A = args_view c.in-Call.args in
    let F = t.optional_tree (option_map view c.in-Call.filter) in
    let O = t.optional_over (option_map over_view c.in-Call.over) in
    λ code e.
    let one : args_bound L n A ≡ Ok (bounds_view c.in_ok-operands-in-Call.operands) = search rules in
    let e_next : c.in_ok-next-in-Call.next ≡ n + length (args_calls A) = search rules in
    let two : optional_bound L c.in_ok-next-in-Call.next F ≡ Ok (option_map bound_view c.in_ok-bind_optional-in-Call.field-0) = search rules in
    let e_last : c.in_ok-last-in-Call.last ≡ c.in_ok-next-in-Call.next + length (optional_calls F) = search rules in
    let at : c.in_ok-last-in-Call.last ≡ n + length (args_calls A) + length (optional_calls F) = e_last ∙ ap (λ k. k + length (optional_calls F)) e_next in
    let h : window_bound L c.in_ok-last-in-Call.last O ≡ Err code = search rules in
    ap (node L n) (ap view c.in-Call.is ∙ tree_call c.in-Call.name c.in-Call.args c.in-Call.filter c.in-Call.over)
    ∙ call_3 L n c.in-Call.name A F O (bounds_view c.in_ok-operands-in-Call.operands) (option_map bound_view c.in_ok-bind_optional-in-Call.field-0) code one (ap (λ k. optional_bound L k F) (sym e_next) ∙ two) (ap (λ k. window_bound L k O) (sym at) ∙ h)

pub bind_node-returns-in_ok-bind_window_if-in-Call-clause-ok : goal.bind_node-returns-in_ok-bind_window_if-in-Call-clause-ok
bind_node-returns-in_ok-bind_window_if-in-Call-clause-ok u c =
    let L = leaf_of c.args.reach.now in
    let n = c.args.number in
    let A = args_view c.in-Call.args in
    let F = t.optional_tree (option_map view c.in-Call.filter) in
    let O = t.optional_over (option_map over_view c.in-Call.over) in
    let one : args_bound L n A ≡ Ok (bounds_view c.in_ok-operands-in-Call.operands) = search rules in
    let e_next : c.in_ok-next-in-Call.next ≡ n + length (args_calls A) = search rules in
    let two : optional_bound L c.in_ok-next-in-Call.next F ≡ Ok (option_map bound_view c.in_ok-bind_optional-in-Call.field-0) = search rules in
    let e_last : c.in_ok-last-in-Call.last ≡ c.in_ok-next-in-Call.next + length (optional_calls F) = search rules in
    let at : c.in_ok-last-in-Call.last ≡ n + length (args_calls A) + length (optional_calls F) = e_last ∙ ap (λ k. k + length (optional_calls F)) e_next in
    let three : window_bound L c.in_ok-last-in-Call.last O ≡ Ok (bounds_view c.in_ok-bind_window_if-in-Call.field-0) = search rules in
    let e : node L n (view c.args.tree.now) ≡ call c.function_of.result (form_view c.call_form-form.result) (bounds_view c.in_ok-operands-in-Call.operands) =
    ap (node L n) (ap view c.in-Call.is ∙ tree_call c.in-Call.name c.in-Call.args c.in-Call.filter c.in-Call.over)
    ∙ (call_4 L n c.in-Call.name A F O (bounds_view c.in_ok-operands-in-Call.operands) (option_map bound_view c.in_ok-bind_optional-in-Call.field-0) (bounds_view c.in_ok-bind_window_if-in-Call.field-0) one (ap (λ k. optional_bound L k F) (sym e_next) ∙ two) (ap (λ k. window_bound L k O) (sym at) ∙ three)
    ∙ (λ i. call (sym c.function_of.ensures i) (sym c.call_form-form.ensures i) (bounds_view c.in_ok-operands-in-Call.operands))) in
    ok_as c.call.result (node L n (view c.args.tree.now)) (call c.function_of.result (form_view c.call_form-form.result) (bounds_view c.in_ok-operands-in-Call.operands)) e c.call.ensures.ok

pub bind_node-returns-in_ok-bind_window_if-in-Call-clause-refused : goal.bind_node-returns-in_ok-bind_window_if-in-Call-clause-refused
bind_node-returns-in_ok-bind_window_if-in-Call-clause-refused u c =
    let L = leaf_of c.args.reach.now in
    let n = c.args.number in
    let A = args_view c.in-Call.args in
    let F = t.optional_tree (option_map view c.in-Call.filter) in
    let O = t.optional_over (option_map over_view c.in-Call.over) in
    let one : args_bound L n A ≡ Ok (bounds_view c.in_ok-operands-in-Call.operands) = search rules in
    let e_next : c.in_ok-next-in-Call.next ≡ n + length (args_calls A) = search rules in
    let two : optional_bound L c.in_ok-next-in-Call.next F ≡ Ok (option_map bound_view c.in_ok-bind_optional-in-Call.field-0) = search rules in
    let e_last : c.in_ok-last-in-Call.last ≡ c.in_ok-next-in-Call.next + length (optional_calls F) = search rules in
    let at : c.in_ok-last-in-Call.last ≡ n + length (args_calls A) + length (optional_calls F) = e_last ∙ ap (λ k. k + length (optional_calls F)) e_next in
    λ code r.
    let three : window_bound L c.in_ok-last-in-Call.last O ≡ Ok (bounds_view c.in_ok-bind_window_if-in-Call.field-0) = search rules in
    let e : node L n (view c.args.tree.now) ≡ call c.function_of.result (form_view c.call_form-form.result) (bounds_view c.in_ok-operands-in-Call.operands) =
    ap (node L n) (ap view c.in-Call.is ∙ tree_call c.in-Call.name c.in-Call.args c.in-Call.filter c.in-Call.over)
    ∙ (call_4 L n c.in-Call.name A F O (bounds_view c.in_ok-operands-in-Call.operands) (option_map bound_view c.in_ok-bind_optional-in-Call.field-0) (bounds_view c.in_ok-bind_window_if-in-Call.field-0) one (ap (λ k. optional_bound L k F) (sym e_next) ∙ two) (ap (λ k. window_bound L k O) (sym at) ∙ three)
    ∙ (λ i. call (sym c.function_of.ensures i) (sym c.call_form-form.ensures i) (bounds_view c.in_ok-operands-in-Call.operands))) in
    e ∙ c.call.ensures.refused code r

pub bind_node-returns-in_err-branches-in-Case-clause-refused : goal.bind_node-returns-in_err-branches-in-Case-clause-refused
bind_node-returns-in_err-branches-in-Case-clause-refused u c =
    let L = leaf_of c.args.reach.now in
    let n = c.args.number in
    λ code e.
    let h : whens_bound L n (t.tree_whens (whens_view c.in-Case.whens)) ≡ Err code = search rules in
    (ap (node L n) (ap view c.in-Case.is ∙ tree_case c.in-Case.whens c.in-Case.otherwise)) ∙ case_1 L n (t.tree_whens (whens_view c.in-Case.whens)) (t.optional_tree (option_map view c.in-Case.otherwise)) code h

pub bind_node-returns-in_err-otherwise-in-Case-clause-refused : goal.bind_node-returns-in_err-otherwise-in-Case-clause-refused
bind_node-returns-in_err-otherwise-in-Case-clause-refused u c =
    let L = leaf_of c.args.reach.now in
    let n = c.args.number in
    λ code e.
    let one : whens_bound L n (t.tree_whens (whens_view c.in-Case.whens)) ≡ Ok (branches_view c.in_ok-branches-in-Case.branches) = search rules in
    let e_next : c.in_ok-next-in-Case.next ≡ n + length (when_calls (t.tree_whens (whens_view c.in-Case.whens))) = search rules in
    let h : otherwise_bound L c.in_ok-next-in-Case.next (t.optional_tree (option_map view c.in-Case.otherwise)) ≡ Err code = search rules in
    (ap (node L n) (ap view c.in-Case.is ∙ tree_case c.in-Case.whens c.in-Case.otherwise)) ∙ case_2 L n (t.tree_whens (whens_view c.in-Case.whens)) (t.optional_tree (option_map view c.in-Case.otherwise)) (branches_view c.in_ok-branches-in-Case.branches) code one (ap (λ k. otherwise_bound L k (t.optional_tree (option_map view c.in-Case.otherwise))) (sym e_next) ∙ h)

pub bind_node-returns-in_ok-otherwise-in-Case-clause-ok : goal.bind_node-returns-in_ok-otherwise-in-Case-clause-ok
bind_node-returns-in_ok-otherwise-in-Case-clause-ok u c =
    let L = leaf_of c.args.reach.now in
    let n = c.args.number in
    let one : whens_bound L n (t.tree_whens (whens_view c.in-Case.whens)) ≡ Ok (branches_view c.in_ok-branches-in-Case.branches) = search rules in
    let e_next : c.in_ok-next-in-Case.next ≡ n + length (when_calls (t.tree_whens (whens_view c.in-Case.whens))) = search rules in
    let two : otherwise_bound L c.in_ok-next-in-Case.next (t.optional_tree (option_map view c.in-Case.otherwise)) ≡ Ok (option_map (option_map bound_view) c.in_ok-otherwise-in-Case.otherwise) = search rules in
    let e : node L n (view c.args.tree.now) ≡ case (branches_view c.in_ok-branches-in-Case.branches) (option_map (option_map bound_view) c.in_ok-otherwise-in-Case.otherwise) = (ap (node L n) (ap view c.in-Case.is ∙ tree_case c.in-Case.whens c.in-Case.otherwise)) ∙ case_3 L n (t.tree_whens (whens_view c.in-Case.whens)) (t.optional_tree (option_map view c.in-Case.otherwise)) (branches_view c.in_ok-branches-in-Case.branches) (option_map (option_map bound_view) c.in_ok-otherwise-in-Case.otherwise) one (ap (λ k. otherwise_bound L k (t.optional_tree (option_map view c.in-Case.otherwise))) (sym e_next) ∙ two) in
    ok_as c.case.result (node L n (view c.args.tree.now)) (case (branches_view c.in_ok-branches-in-Case.branches) (option_map (option_map bound_view) c.in_ok-otherwise-in-Case.otherwise)) e c.case.ensures.ok

pub bind_node-returns-in_ok-otherwise-in-Case-clause-refused : goal.bind_node-returns-in_ok-otherwise-in-Case-clause-refused
bind_node-returns-in_ok-otherwise-in-Case-clause-refused u c =
    let L = leaf_of c.args.reach.now in
    let n = c.args.number in
    let one : whens_bound L n (t.tree_whens (whens_view c.in-Case.whens)) ≡ Ok (branches_view c.in_ok-branches-in-Case.branches) = search rules in
    let e_next : c.in_ok-next-in-Case.next ≡ n + length (when_calls (t.tree_whens (whens_view c.in-Case.whens))) = search rules in
    let two : otherwise_bound L c.in_ok-next-in-Case.next (t.optional_tree (option_map view c.in-Case.otherwise)) ≡ Ok (option_map (option_map bound_view) c.in_ok-otherwise-in-Case.otherwise) = search rules in
    λ code r.
    let e : node L n (view c.args.tree.now) ≡ case (branches_view c.in_ok-branches-in-Case.branches) (option_map (option_map bound_view) c.in_ok-otherwise-in-Case.otherwise) = (ap (node L n) (ap view c.in-Case.is ∙ tree_case c.in-Case.whens c.in-Case.otherwise)) ∙ case_3 L n (t.tree_whens (whens_view c.in-Case.whens)) (t.optional_tree (option_map view c.in-Case.otherwise)) (branches_view c.in_ok-branches-in-Case.branches) (option_map (option_map bound_view) c.in_ok-otherwise-in-Case.otherwise) one (ap (λ k. otherwise_bound L k (t.optional_tree (option_map view c.in-Case.otherwise))) (sym e_next) ∙ two) in
    e ∙ c.case.ensures.refused code r

pub bind_sum-returns-in_err-value-clause-refused : goal.bind_sum-returns-in_err-value-clause-refused
bind_sum-returns-in_err-value-clause-refused u c = λ code e.
    let L = leaf_of c.args.reach.now in
    let xs = c.as_slice-tail-items.result.now in
    let n = c.loop-tail.number in
    let x = c.tail-item.result in
    let h : bound L n (view x.value) ≡ Err code = search rules in
    sums_failed L n _ xs c.loop-tail.tail-index (bound_view c.loop-tail.all) c.loop-tail.invariant x code (omega arith) c.tail-item.is h

pub bind_sum-returns-in_err-all-clause-refused : goal.bind_sum-returns-in_err-all-clause-refused
bind_sum-returns-in_err-all-clause-refused u c = λ code e.
    let L = leaf_of c.args.reach.now in
    let xs = c.as_slice-tail-items.result.now in
    let n = c.loop-tail.number in
    let x = c.tail-item.result in
    let one : bound L n (view x.value) ≡ Ok (bound_view c.in_ok-value.value) = search rules in
    let h : added x.word (bound_view c.loop-tail.all) (bound_view c.in_ok-value.value) ≡ Err code = search rules in
    sums_refused L n _ xs c.loop-tail.tail-index (bound_view c.loop-tail.all) c.loop-tail.invariant x (bound_view c.in_ok-value.value) code (omega arith) c.tail-item.is one h

pub bind_sum-loop-tail-preserved : goal.bind_sum-loop-tail-preserved
bind_sum-loop-tail-preserved u c =
    let L = leaf_of c.args.reach.now in
    let xs = c.as_slice-tail-items.result.now in
    let n = c.loop-tail.number in
    let x = c.tail-item.result in
    let one : bound L n (view x.value) ≡ Ok (bound_view c.in_ok-value.value) = search rules in
    let two : added x.word (bound_view c.loop-tail.all) (bound_view c.in_ok-value.value) ≡ Ok (bound_view c.in_ok-all.all) = search rules in
    let e_next : c.in_ok-next.next ≡ n + length (calls (view x.value)) = search rules in
    sums_turn L n _ xs c.loop-tail.tail-index (bound_view c.loop-tail.all) c.loop-tail.invariant x (bound_view c.in_ok-value.value) (bound_view c.in_ok-all.all) c.in_ok-next.next (omega arith) c.tail-item.is one two e_next

pub bind_product-returns-in_err-value-clause-refused : goal.bind_product-returns-in_err-value-clause-refused
bind_product-returns-in_err-value-clause-refused u c = λ code e.
    let L = leaf_of c.args.reach.now in
    let xs = c.as_slice-tail-items.result.now in
    let n = c.loop-tail.number in
    let x = c.tail-item.result in
    let h : bound L n (view x.value) ≡ Err code = search rules in
    products_failed L n _ xs c.loop-tail.tail-index (bound_view c.loop-tail.all) c.loop-tail.invariant x code (omega arith) c.tail-item.is h

pub bind_product-returns-in_err-all-clause-refused : goal.bind_product-returns-in_err-all-clause-refused
bind_product-returns-in_err-all-clause-refused u c = λ code e.
    let L = leaf_of c.args.reach.now in
    let xs = c.as_slice-tail-items.result.now in
    let n = c.loop-tail.number in
    let x = c.tail-item.result in
    let one : bound L n (view x.value) ≡ Ok (bound_view c.in_ok-value.value) = search rules in
    let h : multiplied x.word (bound_view c.loop-tail.all) (bound_view c.in_ok-value.value) ≡ Err code = search rules in
    products_refused L n _ xs c.loop-tail.tail-index (bound_view c.loop-tail.all) c.loop-tail.invariant x (bound_view c.in_ok-value.value) code (omega arith) c.tail-item.is one h

pub bind_product-loop-tail-preserved : goal.bind_product-loop-tail-preserved
bind_product-loop-tail-preserved u c =
    let L = leaf_of c.args.reach.now in
    let xs = c.as_slice-tail-items.result.now in
    let n = c.loop-tail.number in
    let x = c.tail-item.result in
    let one : bound L n (view x.value) ≡ Ok (bound_view c.in_ok-value.value) = search rules in
    let two : multiplied x.word (bound_view c.loop-tail.all) (bound_view c.in_ok-value.value) ≡ Ok (bound_view c.in_ok-all.all) = search rules in
    let e_next : c.in_ok-next.next ≡ n + length (calls (view x.value)) = search rules in
    products_turn L n _ xs c.loop-tail.tail-index (bound_view c.loop-tail.all) c.loop-tail.invariant x (bound_view c.in_ok-value.value) (bound_view c.in_ok-all.all) c.in_ok-next.next (omega arith) c.tail-item.is one two e_next

pub bind_window-returns-in_err-bind_all-clause-refused : goal.bind_window-returns-in_err-bind_all-clause-refused
bind_window-returns-in_err-bind_all-clause-refused u c = λ code e.
    let L = leaf_of c.args.reach.now in
    let n = c.args.number in
    let x = c.args.over.now in
    let h : all_bound L n (t.trees (trees_view (out-Over x).partition)) ≡ Err code = search rules in
    over_failed L n x code h

pub bind_window-returns-in_err-bounds-clause-refused : goal.bind_window-returns-in_err-bounds-clause-refused
bind_window-returns-in_err-bounds-clause-refused u c = λ code e.
    let L = leaf_of c.args.reach.now in
    let n = c.args.number in
    let x = c.args.over.now in
    let P = t.trees (trees_view (out-Over x).partition) in
    let one : all_bound L n P ≡ Ok (bounds_view c.in_ok-bind_all.field-0) = search rules in
    let e_next : c.in_ok-next.next ≡ n + length (all_calls P) = search rules in
    let h : order_bound L c.in_ok-next.next (t.sort_list (sorts_view (out-Over x).order)) ≡ Err code = search rules in
    over_then L n x (bounds_view c.in_ok-bind_all.field-0) c.in_ok-next.next (Err code) one e_next h

pub bind_window-returns-clause-ok : goal.bind_window-returns-clause-ok
bind_window-returns-clause-ok u c =
    let L = leaf_of c.args.reach.now in
    let n = c.args.number in
    let x = c.args.over.now in
    let P = t.trees (trees_view (out-Over x).partition) in
    let ys = bounds_view c.in_ok-bounds.bounds in
    let one : all_bound L n P ≡ Ok (bounds_view c.in_ok-bind_all.field-0) = search rules in
    let e_next : c.in_ok-next.next ≡ n + length (all_calls P) = search rules in
    let h : order_bound L c.in_ok-next.next (t.sort_list (sorts_view (out-Over x).order)) ≡ Ok ys = search rules in
    over_then L n x (bounds_view c.in_ok-bind_all.field-0) c.in_ok-next.next (Ok ys) one e_next h

pub bind_order-returns-in_err-value-clause-refused : goal.bind_order-returns-in_err-value-clause-refused
bind_order-returns-in_err-value-clause-refused u c = λ code e.
    let L = leaf_of c.args.reach.now in
    let xs = c.as_slice-sort-items.result.now in
    let n = c.loop-sort.number in
    let x = c.sort-item.result in
    let h : bound L n (view x.value) ≡ Err code = search rules in
    sorts_failed L n _ xs c.loop-sort.sort-index (bounds_view c.loop-sort.bounds) c.loop-sort.invariant x code (omega arith) c.sort-item.is h

pub bind_order-loop-sort-preserved : goal.bind_order-loop-sort-preserved
bind_order-loop-sort-preserved u c =
    let L = leaf_of c.args.reach.now in
    let xs = c.as_slice-sort-items.result.now in
    let n = c.loop-sort.number in
    let x = c.sort-item.result in
    let b = c.in_ok-value.value in
    let one : bound L n (view x.value) ≡ Ok (bound_view b) = search rules in
    let e_next : c.in_ok-next.next ≡ n + length (calls (view x.value)) = search rules in
    let pushed : c.push.new.self ≡ c.loop-sort.bounds ++ b ∷ [] = search rules in
    sorts_turn L n _ xs c.loop-sort.sort-index (bounds_view c.loop-sort.bounds) c.loop-sort.invariant x (bound_view b) c.in_ok-next.next (bounds_view c.push.new.self) (omega arith) c.sort-item.is one e_next
    (ap bounds_view pushed ∙ map-append bound_view c.loop-sort.bounds (b ∷ []))

pub bind_whens-returns-in_err-cond-clause-refused : goal.bind_whens-returns-in_err-cond-clause-refused
bind_whens-returns-in_err-cond-clause-refused u c = λ code e.
    let L = leaf_of c.args.reach.now in
    let xs = c.as_slice-when-items.result.now in
    let n = c.loop-when.number in
    let x = c.when-item.result in
    let h : bound L n (view x.cond) ≡ Err code = search rules in
    whens_failed L n _ xs c.loop-when.when-index (branches_view c.loop-when.branches) c.loop-when.invariant x code (omega arith) c.when-item.is h

pub bind_whens-returns-in_err-outcome-clause-refused : goal.bind_whens-returns-in_err-outcome-clause-refused
bind_whens-returns-in_err-outcome-clause-refused u c = λ code e.
    let L = leaf_of c.args.reach.now in
    let xs = c.as_slice-when-items.result.now in
    let n = c.loop-when.number in
    let x = c.when-item.result in
    let one : bound L n (view x.cond) ≡ Ok (bound_view c.in_ok-cond.cond) = search rules in
    let e_next : c.in_ok-next.next ≡ n + length (calls (view x.cond)) = search rules in
    let h : unless_null (view x.result) (bound L c.in_ok-next.next (view x.result)) ≡ Err code = search rules in
    whens_refused L n _ xs c.loop-when.when-index (branches_view c.loop-when.branches) c.loop-when.invariant x (bound_view c.in_ok-cond.cond) code (omega arith) c.when-item.is one (ap (λ k. unless_null (view x.result) (bound L k (view x.result))) (sym e_next) ∙ h)

pub bind_whens-loop-when-preserved : goal.bind_whens-loop-when-preserved
bind_whens-loop-when-preserved u c =
    let L = leaf_of c.args.reach.now in
    let xs = c.as_slice-when-items.result.now in
    let n = c.loop-when.number in
    let x = c.when-item.result in
    let one : bound L n (view x.cond) ≡ Ok (bound_view c.in_ok-cond.cond) = search rules in
    let e_next : c.in_ok-next.next ≡ n + length (calls (view x.cond)) = search rules in
    let two : unless_null (view x.result) (bound L c.in_ok-next.next (view x.result)) ≡ Ok (option_map bound_view c.in_ok-outcome.outcome) = search rules in
    let e_step : c.in_ok-last.last ≡ c.in_ok-next.next + length (calls (view x.result)) = search rules in
    let w : Branch = record { cond = c.in_ok-cond.cond; result = c.in_ok-outcome.outcome } in
    let pushed : c.push.new.self ≡ c.loop-when.branches ++ w ∷ [] = search rules in
    whens_turn L n _ xs c.loop-when.when-index (branches_view c.loop-when.branches) c.loop-when.invariant x (bound_view c.in_ok-cond.cond) (option_map bound_view c.in_ok-outcome.outcome) c.in_ok-last.last (branches_view c.push.new.self) (omega arith) c.when-item.is one (ap (λ k. unless_null (view x.result) (bound L k (view x.result))) (sym e_next) ∙ two)
    (e_step ∙ ap (λ k. k + length (calls (view x.result))) e_next) (ap branches_view pushed ∙ map-append branch_view c.loop-when.branches (w ∷ []))

pub whole-returns-in-Rows-clause-ok : goal.whole-returns-in-Rows-clause-ok
whole-returns-in-Rows-clause-ok u c =
    let x = view c.args.tree.now in
    let e : leaf_of c.args.reach.now c.args.number x ≡ names_by (lookup_of c.in-Rows.look) c.args.number x = ap (λ r. leaf_of r c.args.number x) c.in-Rows.is ∙ ap (λ L. L c.args.number x) (rows_leaf c.in-Rows.look) in
    at_number c.named.result (names_by (lookup_of c.in-Rows.look)) c.args.number (leaf_of c.args.reach.now c.args.number x) x e c.named.ensures.ok

pub whole-returns-in-Rows-clause-refused : goal.whole-returns-in-Rows-clause-refused
whole-returns-in-Rows-clause-refused u c = λ code r.
    let x = view c.args.tree.now in
    ap (λ r. leaf_of r c.args.number x) c.in-Rows.is ∙ ap (λ L. L c.args.number x) (rows_leaf c.in-Rows.look) ∙ c.named.ensures.refused code r c.args.number

pub in_group-returns-in_err-operands-in-Some-clause-refused : goal.in_group-returns-in_err-operands-in-Some-clause-refused
in_group-returns-in_err-operands-in-Some-clause-refused u c = λ code e.
    let g = c.args.group.now in
    let w = c.in-Call in
    let filter = t.optional_tree (option_map view w.filter) in
    let over = t.optional_over (option_map over_view w.over) in
    let is : aggregate_of (function_of w.name) over ≡ Some c.in-Some.call = search rules in
    let h : args_bound (leaf_of (r.Rows (l.Own g.scope))) 0 (args_view w.args) ≡ Err code = search rules in
    ap (group_leaf g c.args.number) (ap view w.is ∙ tree_call w.name w.args w.filter w.over)
    ∙ args_failed g.scope.now (trees_view g.trees.now) (bounds_view g.keys) c.args.number w.name (args_view w.args) filter over c.in-Some.call is code (ap (λ L. args_bound L 0 (args_view w.args)) (sym (own_leaf g.scope)) ∙ h)

pub in_group-returns-in_err-filter-in-Some-clause-refused : goal.in_group-returns-in_err-filter-in-Some-clause-refused
in_group-returns-in_err-filter-in-Some-clause-refused u c = λ code e.
    let g = c.args.group.now in
    let w = c.in-Call in
    let filter = t.optional_tree (option_map view w.filter) in
    let over = t.optional_over (option_map over_view w.over) in
    let is : aggregate_of (function_of w.name) over ≡ Some c.in-Some.call = search rules in
    let one : args_bound (leaf_of (r.Rows (l.Own g.scope))) 0 (args_view w.args) ≡ Ok (bounds_view c.in_ok-operands-in-Some.operands) = search rules in
    let h : optional_bound (leaf_of (r.Rows (l.Own g.scope))) 0 filter ≡ Err code = search rules in
    ap (group_leaf g c.args.number) (ap view w.is ∙ tree_call w.name w.args w.filter w.over)
    ∙ filter_failed g.scope.now (trees_view g.trees.now) (bounds_view g.keys) c.args.number w.name (args_view w.args) filter over c.in-Some.call is (bounds_view c.in_ok-operands-in-Some.operands) code
    (ap (λ L. args_bound L 0 (args_view w.args)) (sym (own_leaf g.scope)) ∙ one) (ap (λ L. optional_bound L 0 filter) (sym (own_leaf g.scope)) ∙ h)

pub in_group-returns-in_err-column-in-Some-clause-refused : goal.in_group-returns-in_err-column-in-Some-clause-refused
in_group-returns-in_err-column-in-Some-clause-refused u c = λ code e.
    let g = c.args.group.now in
    let w = c.in-Call in
    let K = bounds_view g.keys in
    let filter = t.optional_tree (option_map view w.filter) in
    let over = t.optional_over (option_map over_view w.over) in
    let xs = bounds_view c.in_ok-operands-in-Some.operands in
    let o = option_map bound_view c.in_ok-filter-in-Some.filter in
    let is : aggregate_of (function_of w.name) over ≡ Some c.in-Some.call = search rules in
    let one : args_bound (leaf_of (r.Rows (l.Own g.scope))) 0 (args_view w.args) ≡ Ok xs = search rules in
    let two : optional_bound (leaf_of (r.Rows (l.Own g.scope))) 0 filter ≡ Ok o = search rules in
    let h : call_column (has_no_keys K) (length K + c.args.number) c.in-Some.call (args_view w.args) xs o ≡ Err code = search rules in
    ap (group_leaf g c.args.number) (ap view w.is ∙ tree_call w.name w.args w.filter w.over)
    ∙ column_is g.scope.now (trees_view g.trees.now) K c.args.number w.name (args_view w.args) filter over c.in-Some.call is xs o (Err code)
    (ap (λ L. args_bound L 0 (args_view w.args)) (sym (own_leaf g.scope)) ∙ one) (ap (λ L. optional_bound L 0 filter) (sym (own_leaf g.scope)) ∙ two) h

pub in_group-returns-in_ok-column-in-Some-clause-ok : goal.in_group-returns-in_ok-column-in-Some-clause-ok
in_group-returns-in_ok-column-in-Some-clause-ok u c =
    let g = c.args.group.now in
    let w = c.in-Call in
    let K = bounds_view g.keys in
    let filter = t.optional_tree (option_map view w.filter) in
    let over = t.optional_over (option_map over_view w.over) in
    let xs = bounds_view c.in_ok-operands-in-Some.operands in
    let o = option_map bound_view c.in_ok-filter-in-Some.filter in
    let is : aggregate_of (function_of w.name) over ≡ Some c.in-Some.call = search rules in
    let one : args_bound (leaf_of (r.Rows (l.Own g.scope))) 0 (args_view w.args) ≡ Ok xs = search rules in
    let two : optional_bound (leaf_of (r.Rows (l.Own g.scope))) 0 filter ≡ Ok o = search rules in
    let h : call_column (has_no_keys K) (length K + c.args.number) c.in-Some.call (args_view w.args) xs o ≡ Ok (bound_view c.in_ok-column-in-Some.column) = search rules in
    ap (group_leaf g c.args.number) (ap view w.is ∙ tree_call w.name w.args w.filter w.over)
    ∙ column_is g.scope.now (trees_view g.trees.now) K c.args.number w.name (args_view w.args) filter over c.in-Some.call is xs o (Ok (bound_view c.in_ok-column-in-Some.column))
    (ap (λ L. args_bound L 0 (args_view w.args)) (sym (own_leaf g.scope)) ∙ one) (ap (λ L. optional_bound L 0 filter) (sym (own_leaf g.scope)) ∙ two) h
