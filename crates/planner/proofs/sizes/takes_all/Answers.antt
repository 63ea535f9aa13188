use Rattle.std.proofs.Common.{rules, ◌≡◌, ◌∙◌, ap}
use Rattle.std.specs.List.{list_any}
use Rattle.ct_change.specs.Kinds.{has_more_than_inserts}
use Rattle.phys_plan.specs.Reading.{wires}
use Rattle.mode_infer.specs.Kinds.{flows}
use Rattle.planner.proofs.laws.Large.{inserts_taken}
use Rattle.planner.proofs.sizes.takes_all.Goals as goal

pub returns-in_ok-flows-in-Append : goal.returns-in_ok-flows-in-Append
returns-in_ok-flows-in-Append c =
    let sent : c.as_slice-in-Append-2.result.now ≡ flows c.args.laid.now.sources (wires c.args.laid.now.nodes) = search rules in
    inserts_taken c.args.laid.now c.in-Append.is c.any_has_more.result (c.any_has_more.ensures ∙ ap (list_any (λ flow. has_more_than_inserts flow.sent)) sent)
