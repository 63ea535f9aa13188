use Rattle.std.proofs.Common.{◌≡◌, [], ◌∷◌, List, length, refl, sym, subst, ◌∙◌}
use Rattle.std.proofs.lemmas.Bool.{eqb-true}
use Rattle.ct_io.specs.Counts.{Rose}
use Rattle.job_ending.specs.Runs.{RunsThere}
use Rattle.job_text.specs.declared.orders.OrderLine.{OrderLine}
use Rattle.plan_check.specs.Checked.{plan_in}
use Rattle.plan_rules.specs.Doings.{network}
use Rattle.job_stream.specs.Early.{opening}
use Rattle.job_stream.specs.Stream.{streamed_within}
use Rattle.job_stream.proofs.Ends.{ends_wanting}
use Rattle.job_stream.proofs.streaming.run_job.Goals as goal

no_orders : (orders : List OrderLine) → length orders ≡ 0 → orders ≡ []
no_orders [] is = refl
no_orders (x ∷ orders) is = absurd (cc (is))

pub returns-in_default : goal.returns-in_default
returns-in_default g c = ends_wanting _ _ _

pub write_early-requires : goal.write_early-requires
write_early-requires g c = record { ready = ((plan_in c.args.checked.now), c.args.sent_limit, _, _, c.in-Some.ensures.finished.0, c.requires.sheet, c.in-Some.ensures.finished.1) }

pub returns-in-Some : goal.returns-in-Some
returns-in-Some g c =
    let plan = plan_in c.args.checked.now in
    let files = c.args.files.now in
    let limit = c.args.sent_limit in
    let finished = c.in-Some.ensures.finished in
    let none : c.args.orders.now ≡ [] = no_orders c.args.orders.now (eqb-true (length c.args.orders.now) 0 (sym c.is_empty.ensures ∙ c.if-is_empty.true)) in
    subst (λ (orders : List OrderLine). RunsThere (streamed_within limit plan files orders) (Rose (g.K.Sink.faults c.args.out.now) (g.K.Sink.faults c.write_early.new.out)) (g.K.Sink.written c.args.out.now) (g.K.Sink.written c.write_early.new.out) c.write_early.result) (sym none)
    (c.write_early.ensures files plan limit (opening (network plan) files) finished.0 c.requires.sheet finished.1 refl c.requires.by_table c.in-Some.ensures.within)
