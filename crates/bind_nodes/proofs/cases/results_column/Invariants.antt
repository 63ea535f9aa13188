use Rattle.std.proofs.Common.{◌≡◌, drop, None}
use Rattle.bind_nodes.proofs.Folds.{results_from}
use Rattle.bind_nodes.proofs.cases.results_column.Given as goal

abbrev pub invariant-loop-choice : goal.invariant-loop-choice
invariant-loop-choice l = results_from None l.choices ≡ results_from l.all (drop l.choice-index l.choice-items)
