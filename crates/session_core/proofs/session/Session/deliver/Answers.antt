use Rattle.std.proofs.Common.{ℕ, ◌++◌, subst}
use Rattle.stream_model.specs.Drain.{StopsAlong, moves}
use Rattle.session_core.specs.Stands.{KeepsAlong}
use Rattle.session_subtasks.proofs.laws.Outcomes.{if_err, on_ok}
use Rattle.session_core.proofs.session.Session.deliver.Goals as goal

pub advance_all-requires : goal.advance_all-requires
advance_all-requires b c = let r = c.requires.ready in record { ready = (r.0, r.1, r.2, r.3, r.4) }

pub returns-clause-ok : goal.returns-clause-ok
returns-clause-ok b c = on_ok _ _ c.advance_all.result c.advance_all.ensures.ok (λ told g limit handed s keeps there.
    let lane = c.args.lane in
    subst (λ (n : ℕ). KeepsAlong b.O.Operator.rule b.O.Operator.broken b.O.Operator.stands_for b.O.PieceOperator.takes_pieces b.S.SourceCheck.stands_for (moves lane.edge lane.from lane.to n) c.advance_all.new.self g limit handed s)
    (c.held-count.ensures g limit handed s there keeps.carries) (told g limit handed s keeps))

pub returns-clause-err : goal.returns-clause-err
returns-clause-err b c = if_err _ _ c.advance_all.result c.advance_all.ensures.err (λ fault told g limit handed s keeps there.
    let lane = c.args.lane in
    subst (λ (n : ℕ). StopsAlong g limit s (moves lane.edge lane.from lane.to n) fault (handed ++ c.advance_all.new.self.traffic.printed))
    (c.held-count.ensures g limit handed s there keeps.carries) (told g limit handed s keeps))
