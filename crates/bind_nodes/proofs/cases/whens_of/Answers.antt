use Rattle.std.proofs.Common.{rules, ◌≡◌, [], ◌∷◌, ◌++◌}
use Rattle.ct_expr.specs.declared.expr.When.{When}
use Rattle.bind_nodes.proofs.Folds.{whens_turn}
use Rattle.bind_nodes.proofs.cases.whens_of.Goals as goal

pub loop-choice-preserved : goal.loop-choice-preserved
loop-choice-preserved c =
    let w : When = record { cond = c.into_inner.result; result = c.into_inner-in-loop-choice.result } in
    let pushed : c.push.new.self ≡ c.loop-choice.whens ++ w ∷ [] = search rules in
    whens_turn c.loop-choice.whens c.push.new.self w _ _ c.in-Some.choice _ c.loop-choice.invariant c.in-Some.ensures.steps.0 pushed c.into_inner.ensures c.into_inner-in-loop-choice.ensures
