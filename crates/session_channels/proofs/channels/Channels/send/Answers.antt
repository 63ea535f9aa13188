use Rattle.std.proofs.Common.{[], ◌∷◌}
use Rattle.session_channels.proofs.Lanes.{change_put}
use Rattle.session_channels.proofs.channels.Channels.send.Goals as goal

pub returns-in_ok-send-clause-ok : goal.returns-in_ok-send-clause-ok
returns-in_ok-send-clause-ok c = change_put c.args.self.now.width c.args.edge c.args.from c.args.to c.place-place.result c.args.self.now.lanes.items c.requires.from c.requires.to c.place-place.ensures.is c.place-place.ensures.within c.in-Some.lane.now c.send.new.self (c.args.change ∷ []) c.in-Some.ensures.value c.in_ok-send.ensures.behind
