use Rattle.std.proofs.Common.{sym, ◌∙◌, arith}
use Rattle.session_core.specs.LaidOut.{port_of}
use Rattle.session_core.proofs.Relays.{front_taken}
use Rattle.session_core.proofs.Wires.{channel_there, fed_there, move_unfed, move_off, move_empty}
use Rattle.session_core.proofs.traffic.Traffic.fetch.Goals as goal

pub returns-in_default-clause-err : goal.returns-in_default-clause-err
returns-in_default-clause-err c = λ g limit handed s laid kept. move_unfed g limit s c.args.edge c.args.from c.args.to (sym (c.in_default.ensures g limit laid))

pub returns-then-not-is_channel-clause-err : goal.returns-then-not-is_channel-clause-err
returns-then-not-is_channel-clause-err c = λ g limit handed s laid kept.
    move_off g limit s c.args.edge c.args.from c.args.to (port_of c.in-Some.feed) (sym (c.in-Some.ensures g limit laid)) (sym (c.is_channel.ensures g limit laid) ∙ c.if-not-is_channel.true)

pub take_front-requires-clause-from : goal.take_front-requires-clause-from
take_front-requires-clause-from c =
    let r = c.requires.ready in
    let there = channel_there r.0 c.args.edge c.args.from c.args.to (sym (c.is_channel.ensures r.0 r.1 r.4) ∙ c.if-not-is_channel.false) in
    omega (arith, there.0, r.5.width)

pub take_front-requires-clause-to : goal.take_front-requires-clause-to
take_front-requires-clause-to c =
    let r = c.requires.ready in
    let there = channel_there r.0 c.args.edge c.args.from c.args.to (sym (c.is_channel.ensures r.0 r.1 r.4) ∙ c.if-not-is_channel.false) in
    omega (arith, there.1, r.5.width)

pub returns-in-Some-take_front-clause-ok : goal.returns-in-Some-take_front-clause-ok
returns-in-Some-take_front-clause-ok c = λ g limit handed s laid kept.
    let on = sym (c.is_channel.ensures g limit laid) ∙ c.if-not-is_channel.false in
    front_taken c.args.wiring.now g limit handed s c.args.self.now c.take_front.new.self c.args.edge c.args.from c.args.to c.in-Some.feed c.in-Some-take_front.change laid kept
    (sym (c.in-Some.ensures g limit laid)) on c.in-Some-take_front.ensures.some c.take_front.ensures.width c.take_front.ensures.edges c.take_front.ensures.sent

pub returns-in-None-clause-err : goal.returns-in-None-clause-err
returns-in-None-clause-err c = λ g limit handed s laid kept.
    let e = c.args.edge in
    let i = c.args.from in
    let j = c.args.to in
    let fed = sym (c.in-Some.ensures g limit laid) in
    let on = sym (c.is_channel.ensures g limit laid) ∙ c.if-not-is_channel.false in
    let there = channel_there g e i j on in
    let edge = (fed_there g laid.wired e (port_of c.in-Some.feed) fed).edge in
    move_empty g limit s e i j (port_of c.in-Some.feed) fed on
    (sym (kept.flight.at e i j (omega (arith, edge, kept.edges)) (omega (arith, there.0, kept.width)) (omega (arith, there.1, kept.width))) ∙ c.in-None.ensures.none)
