use Rattle.std.proofs.Common.{ℕ, [], ◌∷◌, ◌++◌, Some, refl, sym, subst, ◌∙◌, arith}
use Rattle.op_rules.specs.History.{arrival}
use Rattle.stream_model.specs.declared.events.Event.TheVariants.{Move}
use Rattle.stream_model.specs.Machine.{joins}
use Rattle.stream_model.specs.Runs.{happens}
use Rattle.session_subtasks.specs.Subtasks.{is_full}
use Rattle.session_core.specs.LaidOut.{port_of}
use Rattle.session_core.specs.declared.session.Session.{Session}
use Rattle.session_core.specs.declared.traffic.Traffic.{Traffic}
use Rattle.session_core.specs.Stands.{Pends}
use Rattle.session_core.proofs.Pending.{handed_keeps, handed_may}
use Rattle.session_core.proofs.Relays.{front_taken, printed_on, relayed_at}
use Rattle.session_core.proofs.Steps.{joins_carries, may_take, move_next, open_after, outside_put}
use Rattle.session_core.proofs.Wires.{channel_there, fed_there, move_empty}
use Rattle.session_core.proofs.session.Session.relay.Goals as goal

pub returns-in_default-clause-err : goal.returns-in_default-clause-err
returns-in_default-clause-err b c = λ g limit handed s keeps.
    let lane = c.args.lane in
    let e = lane.edge in
    let i = lane.from in
    let j = lane.to in
    let kept = keeps.carries in
    let to = c.requires.relays g limit keeps.laid in
    let there = channel_there g e i j to.channel in
    let edge = (fed_there g keeps.laid.wired e (port_of to.feed) to.fed).edge in
    move_empty g limit s e i j (port_of to.feed) to.fed to.channel
    (sym (kept.flight.at e i j (omega (arith, edge, kept.edges)) (omega (arith, there.0, kept.width)) (omega (arith, there.1, kept.width))) ∙ c.in_default.ensures.none)

pub returns-clause-ok : goal.returns-clause-ok
returns-clause-ok b c = λ g limit handed s keeps.
    let session = c.args.self.now in
    let lane = c.args.lane in
    let e = lane.edge in
    let i = lane.from in
    let j = lane.to in
    let change = c.in-Some.change in
    let to = c.requires.relays g limit keeps.laid in
    let v = to.feed.node in
    let port = port_of to.feed in
    let there = fed_there g keeps.laid.wired e port to.fed in
    let lj = (channel_there g e i j to.channel).1 in
    let f = front_taken session.wiring g limit handed s session.traffic c.take_front.new.self e i j to.feed change keeps.laid keeps.carries to.fed to.channel
    c.in-Some.ensures.some c.take_front.ensures.width c.take_front.ensures.edges c.take_front.ensures.sent in
    let between = joins e i j port change f.rest s in
    let due = is_full g v (between.bundle v j) in
    let is = move_next g limit s e i j port change f.rest to.fed to.channel f.front in
    let traffic : Traffic = record session.traffic { channels = c.take_front.new.self } in
    let taken : Session b.row.O.Denot b.row.S.Denot = record session { traffic = traffic } in
    let told = relayed_at b.O.Operator.rule b.O.Operator.broken b.O.Operator.stands_for b.O.PieceOperator.takes_pieces session.operators.width session.operators.items.items v j port.port change g s.pieces s.bundle i (record {
      node = there.ports;
      there = (let n = there.node in omega (arith, n));
      all = keeps.runs;
      size_is = sym to.alone;
      may = may_take g limit s e i j port change f.rest keeps.laid.small keeps.opens to.fed to.channel f.front;
    }) to.relays (omega (arith, lj, keeps.width_is)) in
    let pends : Pends b.O.Operator.rule b.O.Operator.broken b.O.Operator.stands_for b.O.PieceOperator.takes_pieces b.S.SourceCheck.stands_for taken v j (Some (change ∷ [])) due g limit handed between = record {
      laid = keeps.laid;
      nodes_are = keeps.nodes_are;
      width_is = keeps.width_is;
      carries = joins_carries g limit s e i j port change f.rest traffic handed f.carries;
      runs = told;
      sources = keeps.sources;
      outside = outside_put g s.bundle v j (s.bundle v j ++ arrival port.port i change ∷ []) there.node keeps.outside;
      subtask = lj;
      opens = λ next done. open_after g limit s (happens (Move e i j)) next (is ∙ done) tt keeps.opens;
    } in
    let may = handed_may b.O.Operator.rule b.O.Operator.broken b.O.Operator.stands_for b.O.PieceOperator.takes_pieces b.S.SourceCheck.stands_for taken v j due g limit handed between (change ∷ []) pends in
    let done = handed_keeps b.O.Operator.rule b.O.Operator.broken b.O.Operator.stands_for b.O.PieceOperator.takes_pieces b.S.SourceCheck.stands_for taken v j due g limit handed between (change ∷ []) pends
    (record traffic { printed = c.push.new.self }) session.emitted
    (printed_on session.wiring traffic v j (change ∷ []) g limit handed _ c.push.new.self may to.last c.in_ok-push.ensures.ok) in
    (done.0, is ∙ done.1, done.2)
