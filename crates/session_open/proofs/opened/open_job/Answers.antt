use Rattle.std.proofs.Common.{◌+◌, ◌*◌, [], refl, sym, ap, subst, ◌∙◌, arith}
use Rattle.std.proofs.lemmas.Result.{err_from_is_err_and}
use Rattle.plan_rules.specs.Plans.{network_of}
use Rattle.session_open.specs.Opening.{HaveOpened, IsTooMany, Opens}
use Rattle.session_open.proofs.Started.{all_counted, all_started, none_started}
use Rattle.session_open.proofs.opened.open_job.Goals as goal
use Rattle.stream_model.proofs.laws.Theorems.{plans_compose}

pub open_operators-requires : goal.open_operators-requires
open_operators-requires b c =
    let plan = c.args.plan.now in
    let r = c.requires.ready in
    let g = network_of r.0 r.1 plan in
    let job = r.2 in
    let holds = plans_compose g job.wired job.facts c.args.limit [] tt in
    record {
      few = c.requires.may.few;
      narrow = c.requires.may.narrow;
      some = c.requires.may.some;
      ready = (
        g,
        c.args.limit,
        record {
          laid = c.in_ok-wiring.ensures r.0 r.1 job;
          runs_as = job.runs_as;
          count_is = refl;
          subtasks_are = refl;
          fits = λ v i node li. (holds.fine v node).types i li;
        },
        none_started g c.args.limit c.in_ok-channels.channels c.in_ok-channels.ensures.width (c.in_ok-channels.ensures.edges ∙ ap (λ n. n + 1) c.len.ensures) c.in_ok-channels.ensures.sent c.in_ok-channels.ensures.flight,
      );
    }

pub returns-in_err-operators-clause-err : goal.returns-in_err-operators-clause-err
returns-in_err-operators-clause-err b c = let p = err_from_is_err_and c.from_residual-in_err-operators.result c.from_residual-in_err-operators.ensures.1 in rw (p.1, p.2) (λ of doing job.
    let plan = c.args.plan.now in
    let g = network_of of doing plan in
    let holds = plans_compose g job.wired job.facts c.args.limit [] tt in
    subst (λ n. IsTooMany c.args.limit n c.in_err-operators.field-0.0) (all_counted g job.wired) (c.in_err-operators.ensures.err g c.args.limit
    (record {
      laid = c.in_ok-wiring.ensures of doing job;
      runs_as = job.runs_as;
      count_is = refl;
      subtasks_are = refl;
      fits = λ v i node li. (holds.fine v node).types i li;
    })
    (none_started g c.args.limit c.in_ok-channels.channels c.in_ok-channels.ensures.width (c.in_ok-channels.ensures.edges ∙ ap (λ n. n + 1) c.len.ensures) c.in_ok-channels.ensures.sent c.in_ok-channels.ensures.flight)))

pub returns-clause-ok : goal.returns-clause-ok
returns-clause-ok b c = λ of doing job.
    let plan = c.args.plan.now in
    let g = network_of of doing plan in
    let holds = plans_compose g job.wired job.facts c.args.limit [] tt in
    let laid = c.in_ok-wiring.ensures of doing job in
    let opens : Opens b.O.PlanOperator.runs plan c.args.columns.now c.in_ok-wiring.wiring g c.args.limit = record {
      laid = laid;
      runs_as = job.runs_as;
      count_is = refl;
      subtasks_are = refl;
      fits = λ v i node li. (holds.fine v node).types i li;
    } in
    let none = none_started g c.args.limit c.in_ok-channels.channels c.in_ok-channels.ensures.width (c.in_ok-channels.ensures.edges ∙ ap (λ n. n + 1) c.len.ensures) c.in_ok-channels.ensures.sent c.in_ok-channels.ensures.flight in
    let have : HaveOpened g c.args.limit ((g.count + 1) * g.subtasks) c.open_operators.new.channels = c.in_ok-operators.ensures.opened g c.args.limit opens none in
    let sends = have.sent ∙ all_counted g job.wired in
    c.new-3.ensures g c.args.limit job.facts (record {
      laid = laid;
      nodes_are = c.in_ok-operators.ensures.nodes;
      width_is = c.in_ok-operators.ensures.width;
      carries = record {
        width = have.width;
        edges = have.edges;
        flight = all_started g job.wired c.args.limit c.open_operators.new.channels have;
        sends = sends;
        within = omega (arith, sends, have.within);
        took = refl;
        few = omega arith;
        counted = c.in_ok-counts.ensures;
        shares = λ table. omega arith;
        printed = sym c.new-2.ensures;
      };
      runs = c.in_ok-operators.ensures.runs g c.args.limit opens none;
      sources_are = c.in_ok-sources.ensures of doing;
    })
