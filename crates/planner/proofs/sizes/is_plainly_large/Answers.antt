use Rattle.std.proofs.Common.{rules, ◌≡◌, ◌<◌, Bool, true, false, length}
use Rattle.std.specs.List.{list_all, list_any}
use Rattle.ct_value.specs.declared.codes.ScriptCode.TheVariants.{TooManyNodes}
use Rattle.ct_catalog.specs.Columns.{column_types}
use Rattle.ct_catalog.specs.declared.settings.Materialize.{Materialize}
use Rattle.plan_check.specs.Sound.{inferred_of}
use Rattle.plan_inferred.specs.declared.ways.Way.TheVariants.{Direct}
use Rattle.planner.specs.Planned.{Refused, made}
use Rattle.planner.specs.Refusals.{changes_rows, ranks_rows, sink_way}
use Rattle.plan_laying.proofs.laws.Answered.{if_ok}
use Rattle.planner.proofs.laws.Large.{plainly_large}
use Rattle.planner.proofs.sizes.is_plainly_large.Goals as goal

pub returns : goal.returns
returns c =
    let laid = c.args.laid.now in
    let Takes : Bool → Type 0 = λ takes. takes ≡ true → (setting : Materialize) → (changes_rows laid.sink.mode (inferred_of laid).modes ≡ false) × (sink_way (inferred_of laid) laid setting ≡ Direct) in
    let Large : Bool → Type 0 = λ large. large ≡ true → (setting : Materialize) → made laid setting ≡ Refused TooManyNodes in
    let many : 128 < length laid.nodes = search rules in
    let unranked : list_any (λ node. ranks_rows node.op) laid.nodes ≡ false = search rules in
    let nullable : list_all (λ column. column.nullable) (column_types laid.sink) ≡ true = search rules in
    if_ok c.takes_all.result Takes Large (λ large takes e setting. plainly_large laid setting many unranked nullable (takes e setting).0 (takes e setting).1) c.takes_all.ensures
