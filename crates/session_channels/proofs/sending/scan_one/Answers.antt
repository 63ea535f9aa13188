use Rattle.std.proofs.Common.{◌≡◌, ℕ, ◌+◌, List, [], ◌∷◌, ◌++◌, Some, take, get_or, slice_get, sym, ap, subst, ◌∙◌}
use Rattle.std.proofs.lemmas.List.{take_more}
use Rattle.std.proofs.lemmas.List.Sums.{fold-append}
use Rattle.std.proofs.lemmas.Option.{get_or_from_slice_get}
use Rattle.ct_change.specs.declared.change.Change.{Change}
use Rattle.session_channels.specs.declared.exchange.Route.{Route}
use Rattle.session_channels.specs.Routes.{IsWide}
use Rattle.session_channels.specs.Sending.{Carry, scanned_by, sent_by}
use Rattle.session_channels.proofs.Sends.{carry_same, sent_none}
use Rattle.session_channels.proofs.sending.scan_one.Goals as goal

pub send_one-requires-clause-edge : goal.send_one-requires-clause-edge
send_one-requires-clause-edge c = rw c.as_slice.ensures (c.requires.scans c.args.number 0 c.requires.number).edge

pub send_one-requires-clause-wide : goal.send_one-requires-clause-wide
send_one-requires-clause-wide c =
    let may = c.requires.scans c.args.number 0 c.requires.number in
    let scan = ap (λ (l : List ℕ). get_or l c.args.number 0) c.as_slice.ensures in
    let same : c.index-route.result.now ≡ may.route = c.index-route.ensures ∙ (ap (λ (e : ℕ). get_or c.args.routes.now.items e c.index-route.result.now) scan ∙ get_or_from_slice_get c.args.routes.now.items _ may.route c.index-route.result.now may.is) in
    subst (λ (r : Route). IsWide r c.args.change.row) (sym same) may.wide

pub returns-clause-ok : goal.returns-clause-ok
returns-clause-ok c = λ edges flight all kept.
    let scans = c.args.scans.now in
    let number = c.args.number in
    let v = get_or c.as_slice.result.now number 0 in
    let scan : v ≡ get_or scans number 0 = ap (λ (l : List ℕ). get_or l number 0) c.as_slice.ensures in
    let may = c.requires.scans number 0 c.requires.number in
    let same : c.index-route.result.now ≡ may.route = c.index-route.ensures ∙ (ap (λ (e : ℕ). get_or c.args.routes.now.items e c.index-route.result.now) scan ∙ get_or_from_slice_get c.args.routes.now.items _ may.route c.index-route.result.now may.is) in
    let there : slice_get c.args.routes.now.items v ≡ Some c.index-route.result.now = ap (slice_get c.args.routes.now.items) scan ∙ (may.is ∙ ap Some (sym same)) in
    let before = scanned_by edges c.args.from c.args.change flight (take number scans) in
    let sent = c.in_ok-send_one.ensures.ok (edges v) before [] (all v c.index-route.result.now there)
    (carry_same c.args.channels.now before (sent_by (edges v) before v c.args.from []) (λ m k n. sym (sent_none (edges v) before v c.args.from m k n)) kept) in
    let more : take (number + 1) scans ≡ take number scans ++ v ∷ [] = take_more scans number 0 c.requires.number ∙ ap (λ (e : ℕ). take number scans ++ e ∷ []) (sym scan) in
    subst (λ (l : List ℕ). Carry c.send_one.new.channels (scanned_by edges c.args.from c.args.change flight l)) (sym more)
    (subst (Carry c.send_one.new.channels) (sym (fold-append (λ (f : ℕ → ℕ → ℕ → List Change) e. sent_by (edges e) f e c.args.from (c.args.change ∷ [])) flight (take number scans) (v ∷ []))) sent)
