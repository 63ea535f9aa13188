use Rattle.std.proofs.Common.{◌++◌, sym, subst, ◌∙◌}
use Rattle.stream_model.specs.Machine.{opened}
use Rattle.stream_model.specs.Runs.{after}
use Rattle.stream_model.specs.Drain.{drain}
use Rattle.session_core.specs.Stands.{Keeps}
use Rattle.session_core.proofs.Runs.{after-append, after_leads, typed-append, typed_drain}
use Rattle.session_core.proofs.session.Session.drain.Goals as goal
use Rattle.stream_model.proofs.laws.Theorems.{runs_drain}

pub returns-in-Ok-clause-ok : goal.returns-in-Ok-clause-ok
returns-in-Ok-clause-ok b c = λ g limit handed items stands.
    let s = after g limit (opened g) items in
    let m = c.in-Ok.ensures.ok g limit handed s stands.keeps in (
      m.0,
      m.1,
      record {
        typed = typed-append g items (drain g limit s) stands.typed (typed_drain g limit s);
        keeps = subst (Keeps b.O.Operator.rule b.O.Operator.broken b.O.Operator.stands_for b.O.PieceOperator.takes_pieces b.S.SourceCheck.stands_for g limit c.run_drain.new.self handed)
            (sym (after-append g limit (opened g) items (drain g limit s) ∙ after_leads g limit s (drain g limit s) m.0 m.1)) m.2;
      },
      (runs_drain g stands.keeps.laid.wired limit items stands.typed).drained m.0 m.1,
    )

pub returns-in-Err-clause-err : goal.returns-in-Err-clause-err
returns-in-Err-clause-err b c = λ g limit handed items stands.
    let s = after g limit (opened g) items in
    let stop = c.in-Err.ensures.err g limit handed s stands.keeps in
    (stop, (runs_drain g stands.keeps.laid.wired limit items stands.typed).stops c.in-Err.cause (handed ++ c.run_drain.new.self.traffic.printed) stop)
