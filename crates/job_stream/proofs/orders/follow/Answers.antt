use Rattle.std.proofs.Common.{◌+◌, ◌≡◌, drop, get_or, length, refl, ap, sym, arith}
use Rattle.std.proofs.lemmas.Result.{err_from_is_err_and}
use Rattle.job_text.specs.declared.orders.OrderLine.{OrderLine}
use Rattle.job_text.specs.declared.orders.Verb.TheVariants.{Take}
use Rattle.job_stream.specs.Parts.{order_run, orders_run}
use Rattle.job_stream.proofs.Chains.{goes_as, goes_end, goes_next, halts_as, halts_next, goes_start}
use Rattle.job_stream.proofs.Unfold.{no_orders, orders_at}
use Rattle.stream_model.specs.Machine.{State}
use Rattle.source_lines.specs.Run.{At}
use Rattle.job_stream.proofs.orders.follow.Goals as goal

-- what stands past the end
abbrev none : OrderLine
none = record { line = 0; verb = Take 0 0 }

pub returns-in_err-followed-clause-halts : goal.returns-in_err-followed-clause-halts
returns-in_err-followed-clause-halts g c = let p = err_from_is_err_and c.from_residual.result c.from_residual.ensures.1 in rw (p.1, p.2) (
    let sheet = c.args.sheet.now in
    let sources = c.args.sources.now in
    let files = c.args.files.now.items in
    let lines = c.as_slice-lines.result.now in
    let place = c.orders.place in
    halts_as sheet sources c.args.session files (orders_run lines) (orders_run c.args.orders.now) _ _ c.in_err-followed.field-0.0 (λ by_table plan limit p. ap (λ l. orders_run l by_table plan limit p) (sym c.as_slice-lines.ensures))
    (halts_next sheet sources c.args.session files (orders_run lines) (orders_run (drop place lines)) c.orders.followed c.orders.files.items _ _ c.orders.invariant
    (order_run (get_or lines place none)) (orders_run (drop (place + 1) lines)) _ c.in_err-followed.field-0.0 (orders_at lines place (place + 1) none (omega (arith, c.orders-test.true)) refl) c.in_err-followed.ensures.halts))

pub orders-preserved : goal.orders-preserved
orders-preserved g c =
    let lines = c.as_slice-lines.result.now in
    let place = c.orders.place in
    goes_next c.args.sheet.now c.args.sources.now c.args.session c.args.files.now.items (orders_run lines) (orders_run (drop place lines)) c.orders.followed c.orders.files.items _ _ c.orders.invariant
    (order_run (get_or lines place none)) (orders_run (drop (place + 1) lines)) c.in_ok-followed.followed c.follow_one.new.files.items _ (orders_at lines place (place + 1) none (omega (arith, c.orders-test.true)) refl) c.in_ok-followed.ensures.ok

pub returns-clause-ok : goal.returns-clause-ok
returns-clause-ok g c =
    let sheet = c.args.sheet.now in
    let sources = c.args.sources.now in
    let files = c.args.files.now.items in
    let lines = c.as_slice-lines.result.now in
    let place = c.orders.place in
    let past : place ≡ length lines = omega (arith, c.orders-test.false, c.orders.auto.place-end) in
    goes_as sheet sources c.args.session files (orders_run lines) (orders_run c.args.orders.now) c.orders.followed c.orders.files.items _ _ (λ by_table plan limit p. ap (λ l. orders_run l by_table plan limit p) (sym c.as_slice-lines.ensures))
    (goes_end sheet sources c.args.session files (orders_run lines) (orders_run (drop place lines)) c.orders.followed c.orders.files.items _ _ c.orders.invariant (no_orders lines place past))

pub orders-init : goal.orders-init
orders-init g c =
    let lines = c.as_slice-lines.result.now in
    goes_start c.args.sheet.now c.args.sources.now c.args.session c.args.files.now.items (orders_run lines) (orders_run (drop 0 lines)) _ (λ by_table plan limit p. refl)

pub follow_one-requires : goal.follow_one-requires
follow_one-requires g c =
    let r = c.requires.ready in
    let at : At State = record { state = r.2; files = c.args.files.now.items } in
    let here = c.orders.invariant r.0 r.1 at r.3 r.4 (record { stands = r.5; files_are = refl }) in
    record { ready = (r.0, r.1, here.place.state, r.3, r.4, here.stands.stands) }
