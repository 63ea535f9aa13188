use Rattle.std.proofs.Common.{◌≡◌, sym, subst, refl, Ok}
use Rattle.plan_rules.specs.Doings.{network}
use Rattle.stream_model.specs.declared.events.Event.TheVariants.{Take}
use Rattle.stream_model.specs.Drain.{StopsBy}
use Rattle.stream_model.specs.Machine.{State, take}
use Rattle.stream_model.specs.Runs.{happens}
use Rattle.exec_core.proofs.laws.Standing.{handed_same, stands_more}
use Rattle.exec_core.proofs.laws.Taking.{line_typed, take_silent}
use Rattle.exec_core.proofs.taking.take_line.Goals as goal

pub step-requires : goal.step-requires
step-requires g c =
    let r = c.requires in
    let plan = r.0 in
    record { ready = (plan, r.1, r.2.printed, r.3.items, r.3.stands, line_typed (network plan) plan.parallelism plan.sources c.args.line (λ table. refl) r.4) }

pub returns-in-Ok-clause-ok : goal.returns-in-Ok-clause-ok
returns-in-Ok-clause-ok g c = λ plan limit s has stands.
    let line = c.args.line in
    let n = network plan in
    let m = c.in-Ok.ensures.ok plan limit s.printed stands.items stands.stands (line_typed n plan.parallelism plan.sources line (λ table. refl) has) in
    let takes : take n limit s line.table line.change ≡ Ok m.0 = subst (λ (u : State). take n limit u line.table line.change ≡ Ok m.0) stands.is m.1 in
    let silent = take_silent n limit s m.0 line.table line.change takes in
    let next = c.in-Ok.next in
    record {
      state = m.0;
      stands = handed_same next plan limit s.printed m.0.printed m.0 (sym silent) (stands_more next plan limit s.printed stands.items (happens (Take line.table line.change)) s m.0 stands.is takes m.2);
      silent = silent;
      takes = takes;
    }

pub returns-in-Err-clause-stopped : goal.returns-in-Err-clause-stopped
returns-in-Err-clause-stopped g c = λ plan limit s has stands.
    let line = c.args.line in
    let n = network plan in
    let stops = c.in-Err.ensures.err plan limit s.printed stands.items stands.stands (line_typed n plan.parallelism plan.sources line (λ table. refl) has) in
    subst (λ (u : State). StopsBy (take n limit u line.table line.change) c.in-Err.stopped.cause) stands.is stops
