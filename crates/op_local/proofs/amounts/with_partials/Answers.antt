use Rattle.std.proofs.Common.{sym, subst, arith}
use Rattle.std.proofs.lemmas.List.Elements.{All-from_recursion}
use Rattle.rel_algebra.specs.Aggregates.{values_of}
use Rattle.op_local.specs.Amounting.{Stands}
use Rattle.op_local.proofs.amounts.with_partials.Goals as goal

pub partial-requires : goal.partial-requires
partial-requires c =
    let r = c.requires in
    let item = c.tally-item.result in
    let stands = All-from_recursion (Stands r.0 r.1) c.args.tallies.now r.2 c.loop-tally.tally-index item (omega arith) in
    (item.agg.call, values_of item.agg r.0, values_of item.agg r.1, subst (Stands r.0 r.1) (sym c.tally-item.is) stands)
