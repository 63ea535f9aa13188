use Rattle.std.proofs.Common.{ℕ, arith, inl, inr, subst, sym, ◌∙◌}
use Rattle.std.proofs.lemmas.Bool.{cases_eq}
use Rattle.session_core.specs.Kept.{IsEdgeQuiet}
use Rattle.session_core.proofs.Wires.{fed_there}
use Rattle.session_core.proofs.traffic.Traffic.is_quiet.Goals as goal

pub loop-edge-preserved : goal.loop-edge-preserved
loop-edge-preserved c = λ g limit handed s laid kept e within. elim (cases_eq e c.loop-edge.edge) [
  | inl same ↦ subst (λ (n : ℕ). IsEdgeQuiet g s n) (sym same) (c.holds_nothing.ensures.quiet g limit handed s laid kept c.if-not-holds_nothing.false)
  | inr other ↦ c.loop-edge.invariant g limit handed s laid kept e (omega (arith, within, other))
]

pub returns-clause-quiet : goal.returns-clause-quiet
returns-clause-quiet c = λ g limit handed s laid kept told e i j feed fed li lj.
    let there = (fed_there g laid.wired e feed fed).edge in
    c.loop-edge.invariant g limit handed s laid kept e (omega (arith, there, laid.nodes, c.loop-edge-test.false)) i j feed fed li lj

pub returns-then-not-holds_nothing-clause-busy : goal.returns-then-not-holds_nothing-clause-busy
returns-then-not-holds_nothing-clause-busy c = λ g limit handed s laid kept quiet. sym c.if-not-holds_nothing.true ∙ c.holds_nothing.ensures.busy g limit handed s laid kept (quiet c.loop-edge.edge)
