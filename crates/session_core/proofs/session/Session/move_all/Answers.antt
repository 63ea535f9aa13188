use Rattle.std.proofs.Common.{sym, subst, ◌∙◌}
use Rattle.stream_model.specs.Machine.{opened}
use Rattle.stream_model.specs.Runs.{after}
use Rattle.stream_model.specs.Drain.{moves}
use Rattle.session_core.specs.Stands.{Keeps}
use Rattle.session_core.proofs.Runs.{after-append, after_leads, typed-append, typed_moves}
use Rattle.session_core.proofs.session.Session.move_all.Goals as goal

pub returns-in-Ok-clause-ok : goal.returns-in-Ok-clause-ok
returns-in-Ok-clause-ok b c = λ g limit handed items stands.
    let s = after g limit (opened g) items in
    let lane = c.args.lane in
    let made = moves lane.edge lane.from lane.to c.args.count in
    let m = c.in-Ok.ensures.ok g limit handed s stands.keeps in (
      m.0,
      m.1,
      record {
        typed = typed-append g items made stands.typed (typed_moves g lane.edge lane.from lane.to c.args.count);
        keeps = subst (Keeps b.O.Operator.rule b.O.Operator.broken b.O.Operator.stands_for b.O.PieceOperator.takes_pieces b.S.SourceCheck.stands_for g limit c.advance_all.new.self handed)
            (sym (after-append g limit (opened g) items made ∙ after_leads g limit s made m.0 m.1)) m.2;
      },
    )
