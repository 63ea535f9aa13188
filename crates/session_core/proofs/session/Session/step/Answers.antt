use Rattle.std.proofs.Common.{[], ◌∷◌, sym, ap, subst, ◌∙◌}
use Rattle.stream_model.specs.Machine.{opened}
use Rattle.stream_model.specs.Runs.{after, happens, state_in}
use Rattle.session_core.specs.Stands.{Keeps}
use Rattle.session_core.proofs.Runs.{after-append, typed-append}
use Rattle.session_core.proofs.session.Session.step.Goals as goal

pub returns-in-Ok-clause-ok : goal.returns-in-Ok-clause-ok
returns-in-Ok-clause-ok b c = λ g limit handed items stands typed.
    let s = after g limit (opened g) items in
    let m = c.in-Ok.ensures.ok g limit handed s stands.keeps typed in (
      m.0,
      m.1,
      record {
        typed = typed-append g items (happens c.args.event ∷ []) stands.typed (typed, tt);
        keeps = subst (Keeps b.O.Operator.rule b.O.Operator.broken b.O.Operator.stands_for b.O.PieceOperator.takes_pieces b.S.SourceCheck.stands_for g limit c.apply.new.self handed)
            (sym (after-append g limit (opened g) items (happens c.args.event ∷ []) ∙ ap (state_in s) m.1)) m.2;
      },
    )

pub returns-in-Err-clause-err : goal.returns-in-Err-clause-err
returns-in-Err-clause-err b c = λ g limit handed items stands typed. c.in-Err.ensures.err g limit handed (after g limit (opened g) items) stands.keeps typed
