use Rattle.std.proofs.Common.{◌≡◌, [], true, refl, subst}
use Rattle.std.specs.List.{AllByRecursion}
use Rattle.ct_change.specs.declared.change.Change.{Change}
use Rattle.op_rules.specs.Tasks.{IsReady}
use Rattle.stream_model.specs.Network.{task}
use Rattle.stream_model.specs.Machine.{State, consumed, opened}
use Rattle.session_core.proofs.Runs.{after_leads}
use Rattle.session_core.proofs.session.Session.new.Goals as goal
use Rattle.stream_model.proofs.laws.Theorems.{plans_compose, runs_are_safe}

pub returns : goal.returns
returns b c = λ g limit facts opens. record {
  typed = tt;
  keeps = record {
    laid = opens.laid;
    nodes_are = opens.nodes_are;
    width_is = opens.width_is;
    carries = opens.carries;
    runs = opens.runs;
    sources = opens.sources_are;
    outside = λ v j above. refl;
    opens = record {
      ready = λ items typed t leads v j lj.
          let holds = plans_compose g opens.laid.wired facts limit items typed in
          subst (λ (u : State). IsReady (task g v) j (consumed u v j)) (after_leads g limit (opened g) items t leads) (holds.ready v j lj);
      safe = runs_are_safe g opens.laid.wired facts limit opens.carries.within [] tt;
      fits = λ items typed t leads v i node li.
          let holds = plans_compose g opens.laid.wired facts limit items typed in
          subst (λ (u : State). AllByRecursion (λ (change : Change). (g.edge v).fits change ≡ true) (u.sent v i)) (after_leads g limit (opened g) items t leads) ((holds.fine v node).types i li);
    };
  };
}
