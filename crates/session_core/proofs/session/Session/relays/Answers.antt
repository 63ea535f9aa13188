use Rattle.std.proofs.Common.{sym, ap, ◌∙◌}
use Rattle.session_core.specs.LaidOut.{feed_of}
use Rattle.session_core.proofs.session.Session.relays.Goals as goal

pub returns-in-None : goal.returns-in-None
returns-in-None b c = λ told g limit laid. record {
  feed = c.in-Some.feed;
  fed = sym (c.in-Some.ensures g limit laid);
  channel = sym (c.is_channel.ensures g limit laid) ∙ c.if-not-is_channel.false;
  last = c.if-feed-self.false ∙ laid.nodes;
  alone = sym (c.bundle.ensures g limit laid) ∙ c.in-None.is;
  relays = c.relays.ensures told;
}
