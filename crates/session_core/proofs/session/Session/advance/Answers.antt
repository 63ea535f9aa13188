use Rattle.std.proofs.Common.{ℕ, [], ◌∷◌, ◌++◌, sym, subst, ◌∙◌, arith}
use Rattle.std.proofs.lemmas.Result.{err_from_is_err_and}
use Rattle.op_rules.specs.History.{arrival}
use Rattle.stream_model.specs.declared.events.Event.TheVariants.{Move}
use Rattle.stream_model.specs.Machine.{joins, move}
use Rattle.stream_model.specs.Runs.{happens}
use Rattle.session_core.specs.LaidOut.{port_of}
use Rattle.session_subtasks.specs.Subtasks.{is_full}
use Rattle.session_core.specs.Runs.{AllHaveRun}
use Rattle.session_core.specs.Stands.{next_if}
use Rattle.session_subtasks.proofs.laws.Outcomes.{if_err, on_ok}
use Rattle.session_core.proofs.Steps.{channel_there, fed_there, joins_carries, may_take, move_next, open_after, outside_put, stops_out, stops_same}
use Rattle.session_core.proofs.session.Session.advance.Goals as goal

pub returns-in_err-feed-clause-err : goal.returns-in_err-feed-clause-err
returns-in_err-feed-clause-err b c = let p = err_from_is_err_and c.from_residual.result c.from_residual.ensures.1 in rw (p.1, p.2) (λ g limit handed s keeps. c.in_err-feed.ensures.err g limit handed s keeps.laid keeps.carries)

pub consume_at-requires-clause-node : goal.consume_at-requires-clause-node
consume_at-requires-clause-node b c =
    let r = c.requires.ready in
    let f = c.in_ok-feed.ensures.ok r.0 r.1 r.2 r.3 r.4.laid r.4.carries in
    let there = fed_there r.0 r.4.laid.wired c.args.edge (port_of c.in_ok-feed.feed) f.fed in
    omega (arith, r.4.nodes_are, there.node)

pub consume_at-requires-clause-typed : goal.consume_at-requires-clause-typed
consume_at-requires-clause-typed b c =
    let r = c.requires.ready in
    let f = c.in_ok-feed.ensures.ok r.0 r.1 r.2 r.3 r.4.laid r.4.carries in
    let there = fed_there r.0 r.4.laid.wired c.args.edge (port_of c.in_ok-feed.feed) f.fed in
    omega (arith, r.4.laid.types_many, there.node)

pub consume_at-requires-clause-subtask : goal.consume_at-requires-clause-subtask
consume_at-requires-clause-subtask b c =
    let r = c.requires.ready in
    let f = c.in_ok-feed.ensures.ok r.0 r.1 r.2 r.3 r.4.laid r.4.carries in
    omega (arith, r.4.width_is, (channel_there r.0 c.args.edge c.args.from c.args.to f.channel).1)

pub consume_at-requires-clause-ready : goal.consume_at-requires-clause-ready
consume_at-requires-clause-ready b c =
    let r = c.requires.ready in
    let g = r.0 in
    let limit = r.1 in
    let s = r.3 in
    let keeps = r.4 in
    let f = c.in_ok-feed.ensures.ok g limit r.2 s keeps.laid keeps.carries in
    let port = port_of c.in_ok-feed.feed in
    let there = fed_there g keeps.laid.wired c.args.edge port f.fed in (
      g,
      s.pieces,
      s.bundle,
      c.args.from,
      record {
        node = there.ports;
        there = there.node;
        all = keeps.runs;
        size_is = c.bundle-size.ensures g limit keeps.laid;
        may = may_take g limit s c.args.edge c.args.from c.args.to port c.in_ok-feed.change f.rest keeps.laid.small keeps.opens f.fed f.channel f.front;
      },
    )

pub returns-in_err-consume_at-clause-err : goal.returns-in_err-consume_at-clause-err
returns-in_err-consume_at-clause-err b c = let p = err_from_is_err_and c.from_residual-in_err-consume_at.result c.from_residual-in_err-consume_at.ensures.1 in rw (p.1, p.2) (λ g limit handed s keeps.
    let e = c.args.edge in
    let i = c.args.from in
    let j = c.args.to in
    let change = c.in_ok-feed.change in
    let v = c.in_ok-feed.feed.node in
    let f = c.in_ok-feed.ensures.ok g limit handed s keeps.laid keeps.carries in
    let port = port_of c.in_ok-feed.feed in
    let there = fed_there g keeps.laid.wired e port f.fed in
    let between = joins e i j port change f.rest s in
    stops_out g limit v j (is_full g v (between.bundle v j)) between (move g limit s e i j) c.in_err-consume_at.field-0.0
    (move_next g limit s e i j port change f.rest f.fed f.channel f.front)
    (c.in_err-consume_at.ensures.err g s.pieces s.bundle i (record {
      node = there.ports;
      there = there.node;
      all = keeps.runs;
      size_is = c.bundle-size.ensures g limit keeps.laid;
      may = may_take g limit s e i j port change f.rest keeps.laid.small keeps.opens f.fed f.channel f.front;
    }) limit keeps.laid))

pub hand_out-requires : goal.hand_out-requires
hand_out-requires b c =
    let r = c.requires.ready in
    let g = r.0 in
    let limit = r.1 in
    let s = r.3 in
    let keeps = r.4 in
    let e = c.args.edge in
    let i = c.args.from in
    let j = c.args.to in
    let change = c.in_ok-feed.change in
    let v = c.in_ok-feed.feed.node in
    let f = c.in_ok-feed.ensures.ok g limit r.2 s keeps.laid keeps.carries in
    let port = port_of c.in_ok-feed.feed in
    let there = fed_there g keeps.laid.wired e port f.fed in
    let between = joins e i j port change f.rest s in
    let due = is_full g v (between.bundle v j) in
    let told = c.in_ok-consume_at.ensures.ok g s.pieces s.bundle i (record {
      node = there.ports;
      there = there.node;
      all = keeps.runs;
      size_is = c.bundle-size.ensures g limit keeps.laid;
      may = may_take g limit s e i j port change f.rest keeps.laid.small keeps.opens f.fed f.channel f.front;
    }) in
    record {
      ready = (
        due,
        g,
        limit,
        r.2,
        between,
        record {
          laid = keeps.laid;
          nodes_are = c.consume_at.ensures.nodes ∙ keeps.nodes_are;
          width_is = c.consume_at.ensures.width ∙ keeps.width_is;
          carries = joins_carries g limit s e i j port change f.rest c.fetch.new.self r.2 f.carries;
          runs = subst (λ (w : ℕ). AllHaveRun b.O.Operator.rule b.O.Operator.broken b.O.Operator.stands_for b.O.PieceOperator.takes_pieces due g w c.consume_at.new.operators.items.items between.pieces between.bundle v j c.consume_at.new.to) (sym c.consume_at.ensures.width) told;
          sources = keeps.sources;
          outside = outside_put g s.bundle v j (s.bundle v j ++ arrival port.port i change ∷ []) (let n = there.node in omega (arith, n)) keeps.outside;
          subtask = (channel_there g e i j f.channel).1;
          opens = λ next done. open_after g limit s (happens (Move e i j)) next (move_next g limit s e i j port change f.rest f.fed f.channel f.front ∙ done) tt keeps.opens;
        },
      );
    }

pub returns-clause-ok : goal.returns-clause-ok
returns-clause-ok b c = on_ok _ _ c.hand_out.result c.hand_out.ensures.ok (λ handed_out g limit handed s keeps.
    let e = c.args.edge in
    let i = c.args.from in
    let j = c.args.to in
    let change = c.in_ok-feed.change in
    let v = c.in_ok-feed.feed.node in
    let f = c.in_ok-feed.ensures.ok g limit handed s keeps.laid keeps.carries in
    let port = port_of c.in_ok-feed.feed in
    let there = fed_there g keeps.laid.wired e port f.fed in
    let between = joins e i j port change f.rest s in
    let due = is_full g v (between.bundle v j) in
    let is = move_next g limit s e i j port change f.rest f.fed f.channel f.front in
    let told = c.in_ok-consume_at.ensures.ok g s.pieces s.bundle i (record {
      node = there.ports;
      there = there.node;
      all = keeps.runs;
      size_is = c.bundle-size.ensures g limit keeps.laid;
      may = may_take g limit s e i j port change f.rest keeps.laid.small keeps.opens f.fed f.channel f.front;
    }) in
    let done = handed_out due g limit handed between (record {
      laid = keeps.laid;
      nodes_are = c.consume_at.ensures.nodes ∙ keeps.nodes_are;
      width_is = c.consume_at.ensures.width ∙ keeps.width_is;
      carries = joins_carries g limit s e i j port change f.rest c.fetch.new.self handed f.carries;
      runs = subst (λ (w : ℕ). AllHaveRun b.O.Operator.rule b.O.Operator.broken b.O.Operator.stands_for b.O.PieceOperator.takes_pieces due g w c.consume_at.new.operators.items.items between.pieces between.bundle v j c.consume_at.new.to) (sym c.consume_at.ensures.width) told;
      sources = keeps.sources;
      outside = outside_put g s.bundle v j (s.bundle v j ++ arrival port.port i change ∷ []) (let n = there.node in omega (arith, n)) keeps.outside;
      subtask = (channel_there g e i j f.channel).1;
      opens = λ next done. open_after g limit s (happens (Move e i j)) next (is ∙ done) tt keeps.opens;
    }) in
    (done.0, is ∙ done.1, done.2))

pub returns-clause-err : goal.returns-clause-err
returns-clause-err b c = if_err _ _ c.hand_out.result c.hand_out.ensures.err (λ fault stops g limit handed s keeps.
    let e = c.args.edge in
    let i = c.args.from in
    let j = c.args.to in
    let change = c.in_ok-feed.change in
    let v = c.in_ok-feed.feed.node in
    let f = c.in_ok-feed.ensures.ok g limit handed s keeps.laid keeps.carries in
    let port = port_of c.in_ok-feed.feed in
    let there = fed_there g keeps.laid.wired e port f.fed in
    let between = joins e i j port change f.rest s in
    let due = is_full g v (between.bundle v j) in
    let is = move_next g limit s e i j port change f.rest f.fed f.channel f.front in
    let told = c.in_ok-consume_at.ensures.ok g s.pieces s.bundle i (record {
      node = there.ports;
      there = there.node;
      all = keeps.runs;
      size_is = c.bundle-size.ensures g limit keeps.laid;
      may = may_take g limit s e i j port change f.rest keeps.laid.small keeps.opens f.fed f.channel f.front;
    }) in
    stops_same (move g limit s e i j) (next_if due g limit v j between) fault is (stops due g limit handed between (record {
      laid = keeps.laid;
      nodes_are = c.consume_at.ensures.nodes ∙ keeps.nodes_are;
      width_is = c.consume_at.ensures.width ∙ keeps.width_is;
      carries = joins_carries g limit s e i j port change f.rest c.fetch.new.self handed f.carries;
      runs = subst (λ (w : ℕ). AllHaveRun b.O.Operator.rule b.O.Operator.broken b.O.Operator.stands_for b.O.PieceOperator.takes_pieces due g w c.consume_at.new.operators.items.items between.pieces between.bundle v j c.consume_at.new.to) (sym c.consume_at.ensures.width) told;
      sources = keeps.sources;
      outside = outside_put g s.bundle v j (s.bundle v j ++ arrival port.port i change ∷ []) (let n = there.node in omega (arith, n)) keeps.outside;
      subtask = (channel_there g e i j f.channel).1;
      opens = λ next done. open_after g limit s (happens (Move e i j)) next (is ∙ done) tt keeps.opens;
    })))
