use Rattle.std.proofs.Common.{◌≡◌, ℕ, ◌+◌, ◌<◌, List, length, get_or, set, sym, ap, subst, ◌∙◌, arith}
use Rattle.std.specs.List.{All}
use Rattle.std.proofs.lemmas.Option.{slice_get-get_or, slice_get_within}
use Rattle.ct_value.specs.Rows.{project}
use Rattle.route.specs.Routing.{route_of, types_at}
use Rattle.stream_model.specs.Tables.{scanned_at}
use Rattle.stream_model.specs.Machine.{scan_count, scanned}
use Rattle.session_channels.specs.declared.exchange.Route.TheVariants.{Forward}
use Rattle.session_channels.specs.Sending.{AllRoute, Carry, MayScan, scanned_by}
use Rattle.session_core.specs.LaidOut.{scans_below}
use Rattle.session_core.proofs.Counts.{count_at, counts_many, one_taken, shares_on}
use Rattle.session_core.proofs.Wires.{is_table}
use Rattle.session_core.proofs.Flights.{all_at, carry_scanned, each_scan, room_told, same_room, scan_fits, scans_at, scans_many, take_full, take_room, wide_for}
use Rattle.session_core.proofs.traffic.Traffic.scan.Goals as goal

pub returns-then-not-has_room-clause-err : goal.returns-then-not-has_room-clause-err
returns-then-not-has_room-clause-err c = λ of g limit handed s may.
    let t = c.args.self.now in
    let is = is_table c.args.wiring.now g limit c.args.table c.in-Some.kept.now of may.laid c.in-Some.ensures.found may.is in
    let count = c.len.ensures ∙ (ap length is.scans ∙ scans_many g c.args.table g.count) in
    take_full g limit s c.args.table c.args.change (scanned_at of c.args.change)
    (sym (same_room t.took s.took c.args.wiring.now.limit limit t.channels.sent s.sends c.len.result (scan_count g c.args.table) may.carries.took may.laid.limit_is may.carries.sends count)
    ∙ (sym c.has_room.ensures ∙ c.if-not-has_room.true))

pub scan_all-requires-clause-scans : goal.scan_all-requires-clause-scans
scan_all-requires-clause-scans c =
    let r = c.requires.ready in
    let of = r.0 in
    let g = r.1.0 in
    let limit = r.1.1 in
    let s = r.1.3 in
    let may = r.1.4 in
    let t = c.args.self.now in
    let w = c.args.wiring.now in
    let table = c.args.table in
    let change = c.args.change in
    let is = is_table w g limit table c.in-Some.kept.now of may.laid c.in-Some.ensures.found may.is in
    let count = c.len.ensures ∙ (ap length is.scans ∙ scans_many g table g.count) in
    let room = room_told s.took limit s.sends (scan_count g table)
    (sym (same_room t.took s.took w.limit limit t.channels.sent s.sends c.len.result (scan_count g table) may.carries.took may.laid.limit_is may.carries.sends count) ∙ (sym c.has_room.ensures ∙ c.if-not-has_room.false)) in
    let i = scanned_at of change in
    let li = may.laid.wired.routed table of may.is (project of.spread change.row) in
    let fit = may.fit (scanned g table i change s) (take_room g limit s table change i room.0 room.1) in
    let P = λ (v : ℕ). MayScan t.channels.edges w.routes.items v change.row in
    subst (λ (l : List ℕ). All P l) (sym is.scans) (all_at P (scans_below g table g.count) (each_scan g table P g.count (λ v l scans.
    let within : v < length w.routes.items = omega (arith, l, may.laid.routes_many) in
    let there = slice_get-get_or w.routes.items v Forward within in
    record {
      edge = omega (arith, l, may.carries.edges);
      route = get_or w.routes.items v Forward;
      is = there;
      wide = wide_for g.subtasks (get_or w.routes.items v Forward) (g.edge v) change (may.laid.routes v (get_or w.routes.items v Forward) there) (scan_fits g table i change s v fit scans li);
    })))

pub count_one-requires-clause-table : goal.count_one-requires-clause-table
count_one-requires-clause-table c =
    let r = c.requires.ready in
    let may = r.1.4 in
    let within = slice_get_within c.args.wiring.now.tables.items c.args.table c.in-Some.kept.now c.in-Some.ensures.found in
    omega (arith, within, may.laid.tables_many, ap length may.carries.counted, counts_many r.1.3.taken r.1.0.table_count)

pub count_one-requires-clause-room : goal.count_one-requires-clause-room
count_one-requires-clause-room c =
    let r = c.requires.ready in
    let g = r.1.0 in
    let limit = r.1.1 in
    let s = r.1.3 in
    let may = r.1.4 in
    let t = c.args.self.now in
    let w = c.args.wiring.now in
    let table = c.args.table in
    let is = is_table w g limit table c.in-Some.kept.now r.0 may.laid c.in-Some.ensures.found may.is in
    let count = c.len.ensures ∙ (ap length is.scans ∙ scans_many g table g.count) in
    let room = room_told s.took limit s.sends (scan_count g table)
    (sym (same_room t.took s.took w.limit limit t.channels.sent s.sends c.len.result (scan_count g table) may.carries.took may.laid.limit_is may.carries.sends count) ∙ (sym c.has_room.ensures ∙ c.if-not-has_room.false)) in
    let there : table < g.table_count = omega (arith, slice_get_within w.tables.items table c.in-Some.kept.now c.in-Some.ensures.found, may.laid.tables_many) in
    let here : get_or t.counts.items table 0 ≡ length (s.taken table) = ap (λ (l : List ℕ). get_or l table 0) may.carries.counted ∙ count_at s.taken g.table_count table there in
    let share = may.carries.shares table in
    omega (arith, here, share, room.0, may.laid.small)

pub returns-clause-ok : goal.returns-clause-ok
returns-clause-ok c = λ of g limit handed s may.
    let t = c.args.self.now in
    let w = c.args.wiring.now in
    let table = c.args.table in
    let change = c.args.change in
    let new = c.scan_all.new.channels in
    let is = is_table w g limit table c.in-Some.kept.now of may.laid c.in-Some.ensures.found may.is in
    let count : c.len.result ≡ scan_count g table = c.len.ensures ∙ (ap length is.scans ∙ scans_many g table g.count) in
    let room = room_told s.took limit s.sends (scan_count g table)
    (sym (same_room t.took s.took w.limit limit t.channels.sent s.sends c.len.result (scan_count g table) may.carries.took may.laid.limit_is may.carries.sends count) ∙ (sym c.has_room.ensures ∙ c.if-not-has_room.false)) in
    let there : table < g.table_count = omega (arith, slice_get_within w.tables.items table c.in-Some.kept.now c.in-Some.ensures.found, may.laid.tables_many) in
    let i = scanned_at of change in
    let key = c.in-Some.kept.now.spread in
    let at : c.in_ok-from.from ≡ i = scans_at of key.columns change c.in_ok-from.from is.spread
    (c.in_ok-from.ensures.value ∙ (ap (λ (n : ℕ). route_of n (types_at key.columns key.types) (project key.columns change.row)) may.laid.subtasks ∙ sym (is.spreads.routes (project key.columns change.row)))) in
    let sent = c.in_ok-scan_all.ensures.ok g.edge s.flight (subst (λ (n : ℕ). AllRoute n w.routes.items g.edge) (sym may.carries.width) may.laid.routes) may.carries.flight in
    let now = subst (λ (n : ℕ). Carry new (scanned_by g.edge n change s.flight (scans_below g table g.count))) at
    (subst (λ (l : List ℕ). Carry new (scanned_by g.edge c.in_ok-from.from change s.flight l)) is.scans sent) in (
      take_room g limit s table change i room.0 room.1,
      record {
        width = c.scan_all.ensures.width ∙ may.carries.width;
        edges = c.scan_all.ensures.edges ∙ may.carries.edges;
        flight = carry_scanned g may.laid.wired new table i change s now;
        sends = omega (arith, c.in_ok-scan_all.ensures.sent, may.carries.sends, count, c.len.ensures);
        within = room.1;
        took = omega (arith, may.carries.took);
        few = omega (arith, room.0);
        counted = c.count_one.ensures ∙ (ap (λ (l : List ℕ). set l table (get_or l table 0 + 1)) may.carries.counted ∙ one_taken s.taken g.table_count table change there);
        shares = shares_on s.taken s.took table change may.carries.shares;
        printed = may.carries.printed;
      },
    )
