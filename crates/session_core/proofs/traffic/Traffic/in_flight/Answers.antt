use Rattle.std.proofs.Common.{length, sym, ap, ◌∙◌, arith}
use Rattle.session_core.specs.LaidOut.{port_of}
use Rattle.session_core.proofs.Wires.{channel_there, fed_there, flight_on}
use Rattle.session_core.proofs.traffic.Traffic.in_flight.Goals as goal

pub returns : goal.returns
returns c = λ g limit handed s laid kept.
    let feed = port_of c.in_ok-_feed._feed in
    let fed = sym (c.in_ok-_feed.ensures g limit laid) in
    let on = sym (c.is_channel.ensures g limit laid) ∙ c.if-not-is_channel.false in
    let there = channel_there g c.args.edge c.args.from c.args.to on in
    let edge = (fed_there g laid.wired c.args.edge feed fed).edge in
    flight_on g limit s c.args.edge c.args.from c.args.to feed c.in_flight.result fed on
    (c.in_flight.ensures ∙ ap length (kept.flight.at c.args.edge c.args.from c.args.to (omega (arith, edge, kept.edges)) (omega (arith, there.0, kept.width)) (omega (arith, there.1, kept.width))))
