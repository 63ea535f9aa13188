use Rattle.std.proofs.Common.{[], ◌∷◌, refl, sym, subst}
use Rattle.stream_model.specs.Machine.{opened}
use Rattle.stream_model.specs.Runs.{after, quiet, told_quiet}
use Rattle.session_core.specs.Stands.{Keeps}
use Rattle.session_core.proofs.Runs.{after-append, typed-append}
use Rattle.session_core.proofs.Steps.{open_after}
use Rattle.session_core.proofs.session.Session.tell_quiet.Goals as goal

pub returns-in-Ok-clause-ok : goal.returns-in-Ok-clause-ok
returns-in-Ok-clause-ok b c = λ g limit handed items stands.
    let s = after g limit (opened g) items in
    let kept = stands.keeps in
    record {
      typed = typed-append g items (quiet ∷ []) stands.typed (tt, tt);
      keeps = subst (Keeps b.O.Operator.rule b.O.Operator.broken b.O.Operator.stands_for b.O.PieceOperator.takes_pieces b.S.SourceCheck.stands_for g limit (record c.args.self.now { traffic = c.tell_quiet.new.self }) handed)
          (sym (after-append g limit (opened g) items (quiet ∷ [])))
          (record {
            laid = kept.laid;
            nodes_are = kept.nodes_are;
            width_is = kept.width_is;
            carries = c.in-Ok.ensures.ok g limit handed s kept.carries;
            runs = kept.runs;
            sources = kept.sources;
            outside = kept.outside;
            opens = open_after g limit s quiet (told_quiet g s) refl tt kept.opens;
          });
    }
