use Rattle.std.proofs.Common.{ℕ, ◌<◌, sym, subst, ◌∙◌}
use Rattle.session_core.specs.LaidOut.{port_of}
use Rattle.session_core.proofs.traffic.Traffic.holds_nothing.Goals as goal

pub returns-in-Some-clause-quiet : goal.returns-in-Some-clause-quiet
returns-in-Some-clause-quiet c = λ g limit handed s laid kept told i j feed fed li lj.
    let li' = subst (λ (n : ℕ). i < n) (sym kept.width) li in
    let lj' = subst (λ (n : ℕ). j < n) (sym kept.width) lj in
    sym (kept.flight.at c.args.edge i j c.requires.edge li' lj') ∙ c.edge_is_quiet.ensures.quiet told i j li' lj'

pub returns-in-Some-clause-busy : goal.returns-in-Some-clause-busy
returns-in-Some-clause-busy c = λ g limit handed s laid kept quiet. c.edge_is_quiet.ensures.busy (λ i j li lj.
    kept.flight.at c.args.edge i j c.requires.edge li lj
    ∙ quiet i j (port_of c.in-Some.field-0) (sym (c.in-Some.ensures g limit laid)) (subst (λ (n : ℕ). i < n) kept.width li) (subst (λ (n : ℕ). j < n) kept.width lj))

pub returns-in-None-clause-quiet : goal.returns-in-None-clause-quiet
returns-in-None-clause-quiet c = λ g limit handed s laid kept told i j feed fed li lj. absurd (let h = c.in-None.ensures g limit laid in cc)
