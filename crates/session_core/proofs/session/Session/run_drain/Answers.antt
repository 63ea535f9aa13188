use Rattle.std.proofs.Common.{◌≡◌, [], ◌∷◌, List, ◌++◌, refl, sym, ap, ◌∙◌, inl}
use Rattle.std.proofs.lemmas.Result.{err_from_is_err_and}
use Rattle.stream_model.specs.declared.events.PrintItem.{PrintItem}
use Rattle.stream_model.specs.declared.events.StepFault.TheVariants.{Memory}
use Rattle.stream_model.specs.Machine.{State}
use Rattle.stream_model.specs.Runs.{quiet, told_quiet}
use Rattle.stream_model.specs.Drain.{drain_stages, stages}
use Rattle.session_core.proofs.Runs.{leads-append, stops_before, stops_behind}
use Rattle.session_core.proofs.Steps.{open_after}
use Rattle.session_core.proofs.session.Session.run_drain.Goals as goal

pub returns-in_err-run_stages-clause-err : goal.returns-in_err-run_stages-clause-err
returns-in_err-run_stages-clause-err b c = let p = err_from_is_err_and c.from_residual.result c.from_residual.ensures.1 in rw (p.1, p.2) (λ g limit handed s keeps.
    stops_before g limit s (drain_stages g limit s (stages g)) (quiet ∷ []) c.in_err-run_stages.field-0.0 (handed ++ c.run_stages.new.self.traffic.printed) (c.in_err-run_stages.ensures.err g limit handed s keeps))

pub returns-in_err-tell_quiet-clause-err : goal.returns-in_err-tell_quiet-clause-err
returns-in_err-tell_quiet-clause-err b c = let p = err_from_is_err_and c.from_residual-in_err-tell_quiet.result c.from_residual-in_err-tell_quiet.ensures.1 in rw (p.1, p.2) (λ g limit handed s keeps.
    let m = c.in_ok-run_stages.ensures.ok g limit handed s keeps in
    let printed = handed ++ c.tell_quiet.new.self.printed in
    let out : State.printed m.0 ≡ printed = m.2.carries.printed ∙ ap (λ (l : List PrintItem). handed ++ l) (sym c.in_err-tell_quiet.ensures.err) in
    stops_behind g limit s (drain_stages g limit s (stages g)) m.0 (quiet ∷ []) Memory printed m.1 (inl (tt, out)))

pub returns-clause-ok : goal.returns-clause-ok
returns-clause-ok b c = λ g limit handed s keeps.
    let m = c.in_ok-run_stages.ensures.ok g limit handed s keeps in
    let kept = m.2 in (
      told_quiet g m.0,
      leads-append g limit s (drain_stages g limit s (stages g)) m.0 (quiet ∷ []) (told_quiet g m.0) m.1 (told_quiet g m.0, refl, refl),
      record {
        laid = kept.laid;
        nodes_are = kept.nodes_are;
        width_is = kept.width_is;
        carries = c.in_ok-tell_quiet.ensures.ok g limit handed m.0 kept.carries;
        runs = kept.runs;
        sources = kept.sources;
        outside = kept.outside;
        opens = open_after g limit m.0 quiet (told_quiet g m.0) refl tt kept.opens;
      },
    )
