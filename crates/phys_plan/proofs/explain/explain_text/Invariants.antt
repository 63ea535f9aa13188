use Rattle.std.proofs.Common.{◌≡◌, ◌+◌, ◌++◌, drop}
use Rattle.phys_plan.specs.Explained.{explained, lines_from}
use Rattle.phys_plan.proofs.explain.explain_text.Given as goal

abbrev pub invariant-loop-i : goal.invariant-loop-i
invariant-loop-i l = l.text ++ lines_from l.plan l.before (l.i + 1) (drop l.i l.plan.nodes) ≡ explained l.before l.plan
