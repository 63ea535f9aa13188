use Rattle.std.proofs.Common.{◌≡◌, ◌++◌, map}
use Rattle.std.specs.Vec.Iter.{into_iter_items}
use Rattle.ct_expr.specs.View.{whens_view}
use Rattle.bind_nodes.specs.Views.{choices_view}
use Rattle.bind_nodes.proofs.cases.whens_of.Given as goal

abbrev pub invariant-loop-choice : goal.invariant-loop-choice
invariant-loop-choice l = whens_view l.whens ++ map (λ b. (b.0.expr, b.1.expr)) (choices_view (into_iter_items l.choice-iterator)) ≡ map (λ b. (b.0.expr, b.1.expr)) (choices_view l.fn.choices)
