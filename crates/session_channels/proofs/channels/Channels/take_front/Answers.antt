use Rattle.std.proofs.Math.ListN.{length-set}
use Rattle.std.proofs.Common.{◌≤◌, ap, ◌∙◌, arith}
use Rattle.std.proofs.lemmas.List.Elements.{All-set}
use Rattle.route.specs.Channel.{Flow}
use Rattle.session_channels.proofs.Lanes.{front_taken, front_missing}
use Rattle.session_channels.proofs.channels.Channels.take_front.Goals as goal

pub returns-in-Some-clause-some : goal.returns-in-Some-clause-some
returns-in-Some-clause-some c = front_taken c.args.self.now.width c.args.edge c.args.from c.args.to c.place-place.result c.args.self.now.lanes.items c.requires.from c.requires.to c.place-place.ensures.is c.place-place.ensures.within c.take_front.result c.in-Some.lane.now c.take_front.new.self c.in-Some.ensures.value c.take_front.ensures.front

pub returns-in-Some-clause-none : goal.returns-in-Some-clause-none
returns-in-Some-clause-none c = front_missing c.args.self.now.width c.args.edge c.args.from c.args.to c.place-place.result c.args.self.now.lanes.items c.requires.from c.requires.to c.place-place.ensures.is c.place-place.ensures.within c.take_front.result c.in-Some.lane.now c.in-Some.ensures.value c.take_front.ensures.none.0

pub invariant_of-self-clause-short : goal.invariant_of-self-clause-short
invariant_of-self-clause-short c =
    let s = c.args.self.now in
    let was = s.short c.place-place.result c.in-Some.lane.now c.place-place.ensures.within in
    All-set (λ (lane : Flow). lane.sent ≤ s.sent) s.lanes.items c.place-place.result c.take_front.new.self (omega (arith, was, ap (λ (f : Flow). f.sent) c.in-Some.ensures.value, c.take_front.ensures.counted)) s.short

pub invariant_of-self-clause-sized : goal.invariant_of-self-clause-sized
invariant_of-self-clause-sized c = length-set c.args.self.now.lanes.items c.place-place.result c.take_front.new.self ∙ c.args.self.now.sized
