use Rattle.std.proofs.Common.{◌≡◌, ℕ, ◌+◌, ◌≤◌, true, length, refl, sym, subst, ◌∙◌, arith}
use Rattle.ct_change.specs.declared.change.Change.{Change}
use Rattle.stream_model.specs.Machine.{send}
use Rattle.session_channels.specs.Routes.{IsWide, RoutesFor}
use Rattle.session_core.proofs.Wires.{get_at}
use Rattle.session_core.proofs.Flights.{all_at, rec_map, handed_send, send_fits, wide_for}
use Rattle.session_core.proofs.Relays.{printed_on}
use Rattle.session_core.proofs.traffic.Traffic.hand_on.Goals as goal

pub returns-then-node-wiring-clause-ok : goal.returns-then-node-wiring-clause-ok
returns-then-node-wiring-clause-ok c = λ g limit handed s may.
    printed_on c.args.wiring.now c.args.self.now c.args.node c.args.subtask c.args.changes.now g limit handed s c.print_all.new.printed may
    (c.if-node-wiring.true ∙ may.laid.nodes) c.in_ok-print_all.ensures.ok

pub send_all-requires-clause-wide : goal.send_all-requires-clause-wide
send_all-requires-clause-wide c =
    let r = c.requires.ready in
    let g = r.0 in
    let limit = r.1 in
    let s = r.3 in
    let may = r.4 in
    let v = c.args.node in
    let j = c.args.subtask in
    let changes = c.args.changes.now in
    let route = c.index-route.result.now in
    let off : (v ≡ g.count → ⊥) = λ last. c.if-node-wiring.false (last ∙ sym may.laid.nodes) in
    let within : s.sends + length changes ≤ limit = omega (arith, may.carries.sends, may.carries.within, may.laid.limit_is, c.len.ensures) in
    let fit = send_fits g v j changes s (may.fit (send g v j changes s) (handed_send g limit v j changes s off within)) may.node may.subtask in
    let top = may.laid.wired.counted v may.node in
    let is = may.laid.routes v route (get_at c.args.wiring.now.routes.items v route (omega (arith, top, may.laid.routes_many)) c.index-route.ensures) in
    all_at (λ (x : Change). IsWide route x.row) changes (rec_map (λ (x : Change). (g.edge v).fits x ≡ true) (λ (x : Change). IsWide route x.row) changes (λ x h. wide_for g.subtasks route (g.edge v) x is h) fit)

pub returns-clause-ok : goal.returns-clause-ok
returns-clause-ok c = λ g limit handed s may.
    let kept = may.carries in
    let v = c.args.node in
    let j = c.args.subtask in
    let changes = c.args.changes.now in
    let route = c.index-route.result.now in
    let off : (v ≡ g.count → ⊥) = λ last. c.if-node-wiring.false (last ∙ sym may.laid.nodes) in
    let within : s.sends + length changes ≤ limit = omega (arith, kept.sends, kept.within, may.laid.limit_is, c.len.ensures) in
    let top = may.laid.wired.counted v may.node in
    let is = may.laid.routes v route (get_at c.args.wiring.now.routes.items v route (omega (arith, top, may.laid.routes_many)) c.index-route.ensures) in (
      send g v j changes s,
      handed_send g limit v j changes s off within,
      record { pieces = refl; bundle = refl; taken = refl },
      record {
        width = c.send_all.ensures.width ∙ kept.width;
        edges = c.send_all.ensures.edges ∙ kept.edges;
        flight = c.in_ok-send_all.ensures.ok (g.edge v) s.flight (subst (λ (n : ℕ). RoutesFor n route (g.edge v)) (sym kept.width) is) kept.flight;
        sends = omega (arith, c.in_ok-send_all.ensures.sent, kept.sends);
        within = within;
        took = kept.took;
        few = kept.few;
        counted = kept.counted;
        shares = kept.shares;
        printed = kept.printed;
      },
    )
