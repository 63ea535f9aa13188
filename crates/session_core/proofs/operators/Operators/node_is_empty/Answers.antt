use Rattle.std.proofs.Common.{◌≡◌, ℕ, [], sym, subst, arith, inl, inr}
use Rattle.std.proofs.lemmas.Bool.{cases_eq}
use Rattle.session_core.proofs.Running.{nothing_in}
use Rattle.session_core.proofs.operators.Operators.node_is_empty.Goals as goal

pub loop-subtask-preserved : goal.loop-subtask-preserved
loop-subtask-preserved b c = λ g pieces bundle all lv j lj. elim (cases_eq j c.loop-subtask.subtask) [
  | inl same ↦ subst (λ (k : ℕ). bundle c.args.node k ≡ []) (sym same) (nothing_in (bundle c.args.node c.loop-subtask.subtask) (let held = c.held.ensures g pieces bundle all lv c.loop-subtask-test.true in omega (arith, held)))
  | inr other ↦ c.loop-subtask.invariant g pieces bundle all lv j (omega (arith, lj, other))
]

pub returns-clause-empty : goal.returns-clause-empty
returns-clause-empty b c = λ g pieces bundle all lv told j lj. c.loop-subtask.invariant g pieces bundle all lv j (omega (arith, lj, c.loop-subtask-test.false))
