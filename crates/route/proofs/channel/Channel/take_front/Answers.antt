use Rattle.std.proofs.Common.{◌+◌, sym, ap, ◌∙◌}
use Rattle.route.specs.Channel.{Flow}
use Rattle.route.proofs.Flows.{passed_on}
use Rattle.route.proofs.channel.Channel.take_front.Goals as goal

pub returns-clause-first : goal.returns-clause-first
returns-clause-first c = λ sent taken passed.
    passed_on c.args.self.now _ c.in_ok-change.change
    (sym (ap (λ (f : Flow). f.flight) c.self.view_is) ∙ c.in_ok-change.ensures.items)
    (ap (λ (f : Flow). f.sent) c.self.view_is)
    (ap (λ (f : Flow). f.taken + 1) c.self.view_is)
    sent taken passed
