use Rattle.std.proofs.Common.{◌≡◌, ℕ, List, Option, IfOk, subst, sym}
use Rattle.phys_plan.specs.declared.plan.Plan.{Plan}
use Rattle.plan_check.specs.Checked.{plan_in}
use Rattle.plan_check.specs.Sound.{IsSound}
use Rattle.laid_plans.specs.Inferred.{with_inferred}
use Rattle.plan_laying.specs.Topped.{topped_plan}
use Rattle.planner.specs.Tops.{top_of}
use Rattle.planner.proofs.planning.finished.Goals as goal

pub checked-requires-clause-sound : goal.checked-requires-clause-sound
checked-requires-clause-sound c = subst (λ (key : Option (List ℕ)). IsSound (with_inferred (topped_plan (top_of key) c.args.laid))) c.in-None.is c.requires.sound

pub checked-requires-in-Some-clause-sound : goal.checked-requires-in-Some-clause-sound
checked-requires-in-Some-clause-sound c =
    subst (λ (p : Plan). IsSound (with_inferred p)) (sym c.in_ok-shown-in-Some.ensures)
    (subst (λ (key : Option (List ℕ)). IsSound (with_inferred (topped_plan (top_of key) c.args.laid))) c.in-Some.is c.requires.sound)

pub returns-in-None : goal.returns-in-None
returns-in-None c =
    subst (λ (key : Option (List ℕ)). IfOk c.checked.result (λ checked. plan_in checked ≡ with_inferred (topped_plan (top_of key) c.args.laid))) (sym c.in-None.is) c.checked.ensures

pub returns-in_ok-inferred-in-Some : goal.returns-in_ok-inferred-in-Some
returns-in_ok-inferred-in-Some c =
    let result = c.checked-in-Some.result in
    subst (λ (key : Option (List ℕ)). IfOk result (λ checked. plan_in checked ≡ with_inferred (topped_plan (top_of key) c.args.laid))) (sym c.in-Some.is)
    (subst (λ (p : Plan). IfOk result (λ checked. plan_in checked ≡ with_inferred p)) c.in_ok-shown-in-Some.ensures c.checked-in-Some.ensures)
