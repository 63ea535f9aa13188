use Rattle.std.proofs.Common.{ℕ, sym, subst, arith, inl, inr}
use Rattle.std.proofs.lemmas.Bool.{cases_eq}
use Rattle.session_core.specs.Runs.{IsEmptyAt}
use Rattle.session_core.proofs.operators.Operators.are_empty.Goals as goal

pub loop-node-preserved : goal.loop-node-preserved
loop-node-preserved b c = λ g pieces bundle all nodes v lv. elim (cases_eq v c.loop-node.node) [
  | inl same ↦ subst (λ (w : ℕ). IsEmptyAt c.args.self.now.width bundle w) (sym same) (c.node_is_empty.ensures.empty g pieces bundle all (omega (arith, c.loop-node-test.true, nodes)) c.if-not-node_is_empty.false)
  | inr other ↦ c.loop-node.invariant g pieces bundle all nodes v (omega (arith, lv, other))
]

pub returns-clause-empty : goal.returns-clause-empty
returns-clause-empty b c = λ g pieces bundle all nodes told v lv. c.loop-node.invariant g pieces bundle all nodes v (omega (arith, lv, nodes, c.loop-node-test.false))
