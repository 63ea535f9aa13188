use Rattle.std.proofs.Common.{◌≡◌, ℕ, ◌+◌, ◌-◌, suc, List, ◌++◌, sym, ap, subst, ◌∙◌, arith}
use Rattle.std.proofs.lemmas.Result.{err_from_is_err_and}
use Rattle.stream_model.specs.declared.events.PrintItem.{PrintItem}
use Rattle.stream_model.specs.Machine.{State}
use Rattle.stream_model.specs.Drain.{Leads, StopsAlong, moves}
use Rattle.session_core.proofs.Runs.{leads_move, stops_move}
use Rattle.session_core.proofs.session.Session.relay_all.Goals as goal

pub relay-requires : goal.relay-requires
relay-requires b c =
    let r = c.requires.ready in
    let m = c.loop-moved.invariant.0 r.0 r.1 r.2 r.3 r.4 in
    record { ready = (r.0, r.1, r.2, m.0, m.2); relays = c.loop-moved.invariant.1 }

pub returns-in_err-relay-clause-err : goal.returns-in_err-relay-clause-err
returns-in_err-relay-clause-err b c = let p = err_from_is_err_and c.from_residual.result c.from_residual.ensures.1 in rw (p.1, p.2) (λ g limit handed s keeps.
    let lane = c.args.lane in
    let m = c.loop-moved.invariant.0 g limit handed s keeps in
    let fault = c.in_err-relay.field-0.0 in
    let printed = handed ++ c.relay.new.self.traffic.printed in
    let stop = c.in_err-relay.ensures.err g limit handed m.0 m.2 in
    let out : State.printed m.0 ≡ printed = m.2.carries.printed ∙ ap (λ (l : List PrintItem). handed ++ l) (sym c.in_err-relay.ensures.printed) in
    let all : c.loop-moved.moved + suc (c.args.count - (c.loop-moved.moved + 1)) ≡ c.args.count = omega (arith, c.loop-moved-test.true) in
    subst (λ (n : ℕ). StopsAlong g limit s (moves lane.edge lane.from lane.to n) fault printed) all
    (stops_move g limit lane.edge lane.from lane.to c.loop-moved.moved (c.args.count - (c.loop-moved.moved + 1)) s m.0 fault printed m.1 stop out))

pub loop-moved-preserved : goal.loop-moved-preserved
loop-moved-preserved b c = (
  λ g limit handed s keeps.
      let lane = c.args.lane in
      let m = c.loop-moved.invariant.0 g limit handed s keeps in
      let n = c.in_ok-relay.ensures.ok g limit handed m.0 m.2 in
      (n.0, leads_move g limit lane.edge lane.from lane.to c.loop-moved.moved s m.0 n.0 m.1 n.1, n.2),
  c.relay.ensures.relays_on,
)

pub returns-clause-ok : goal.returns-clause-ok
returns-clause-ok b c = λ g limit handed s keeps.
    let lane = c.args.lane in
    let m = c.loop-moved.invariant.0 g limit handed s keeps in
    let all : c.loop-moved.moved ≡ c.args.count = omega (arith, c.loop-moved-test.false, c.loop-moved.auto.moved-end) in
    (m.0, subst (λ (n : ℕ). Leads g limit s (moves lane.edge lane.from lane.to n) m.0) all m.1, m.2)
