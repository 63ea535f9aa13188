use Rattle.std.proofs.Common.{◌≡◌, ℕ, ◌+◌, ◌*◌, List, length, sym, ap, subst, ◌∙◌, arith, Some, slice_get}
use Rattle.std.proofs.lemmas.Option.{slice_get-get_or}
use Rattle.ct_change.specs.declared.change.Change.{Change}
use Rattle.session_channels.specs.Routes.{RoutesFor}
use Rattle.session_channels.specs.Sending.{Carry, sent_by}
use Rattle.session_open.specs.Opening.{flight_until}
use Rattle.session_open.proofs.Started.{all_wide, started, total_here}
use Rattle.session_open.proofs.opening.start.Goals as goal

pub returns-then-wiring-channels-clause-err : goal.returns-then-wiring-channels-clause-err
returns-then-wiring-channels-clause-err c = λ g limit may.
    let sum = total_here g c.args.node c.args.subtask may.subtask in
    let same = ap length may.changes_are in
    omega (arith, sum, same, may.laid.limit_is, may.opened.sent, may.opened.within, c.if-wiring-channels.true, c.len.ensures)

pub send_all-requires-clause-wide : goal.send_all-requires-clause-wide
send_all-requires-clause-wide c =
    let r = c.requires.ready in
    let g = r.0 in
    let may = r.2 in
    let v = c.args.node in
    let route = c.index-route.result.now in
    let at : slice_get c.args.wiring.now.routes.items v ≡ Some route = slice_get-get_or c.args.wiring.now.routes.items v route (omega (arith, may.node, may.laid.routes_many)) ∙ ap Some (sym c.index-route.ensures) in
    all_wide g.subtasks route (g.edge v) c.args.changes.now (may.laid.routes v route at) may.fit

pub returns-clause-ok : goal.returns-clause-ok
returns-clause-ok c = λ g limit may.
    let v = c.args.node in
    let j = c.args.subtask in
    let route = c.index-route.result.now in
    let at : slice_get c.args.wiring.now.routes.items v ≡ Some route = slice_get-get_or c.args.wiring.now.routes.items v route (omega (arith, may.node, may.laid.routes_many)) ∙ ap Some (sym c.index-route.ensures) in
    let routes = subst (λ (n : ℕ). RoutesFor n route (g.edge v)) (sym may.opened.width) (may.laid.routes v route at) in
    let sum = total_here g v j may.subtask in
    let same = ap length may.changes_are in
    let width = c.send_all.ensures.width ∙ may.opened.width in
    record {
      width = width;
      edges = c.send_all.ensures.edges ∙ may.opened.edges;
      flight = started g v j may.subtask c.send_all.new.channels width
          (subst (λ (l : List Change). Carry c.send_all.new.channels (sent_by (g.edge v) (flight_until g (v * g.subtasks + j)) v j l)) may.changes_are
          (c.in_ok-send_all.ensures.ok (g.edge v) (flight_until g (v * g.subtasks + j)) routes may.opened.flight));
      sent = omega (arith, c.in_ok-send_all.ensures.sent, may.opened.sent, sum, same);
      within = omega (arith, c.in_ok-send_all.ensures.sent, may.laid.limit_is, may.opened.within, c.if-wiring-channels.false, c.len.ensures);
    }
