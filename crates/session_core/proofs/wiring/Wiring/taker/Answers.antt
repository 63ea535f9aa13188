use Rattle.std.proofs.Common.{sym, ap, ◌∙◌}
use Rattle.session_core.specs.LaidOut.{fed_at, feed_of, stage_of, taker_of}
use Rattle.session_core.proofs.wiring.Wiring.taker.Goals as goal

pub returns-in-Some : goal.returns-in-Some
returns-in-Some c = λ g limit laid.
    let fed = ap feed_of (sym c.in-Some.is) ∙ c.feed.ensures g limit laid in
    ap (fed_at c.in-Deliver.lane.to) fed ∙ ap (λ stage. taker_of g (stage_of stage)) (sym c.in-Deliver.is)

pub returns-in-None : goal.returns-in-None
returns-in-None c = λ g limit laid.
    let fed = ap feed_of (sym c.in-None.is) ∙ c.feed.ensures g limit laid in
    ap (fed_at c.in-Deliver.lane.to) fed ∙ ap (λ stage. taker_of g (stage_of stage)) (sym c.in-Deliver.is)

pub returns-in-Flush : goal.returns-in-Flush
returns-in-Flush c = λ g limit laid.
    ap (λ stage. taker_of g (stage_of stage)) (sym c.in-Flush.is)
