use Rattle.std.proofs.Common.{sym}
use Rattle.rel_algebra.specs.Aggregates.{values_of}
use Rattle.op_local.proofs.Tallied.{stands_without, stands_with, out_with, room, on_ok, if_err}
use Rattle.op_local.proofs.tally.Tally.take.Goals as goal

pub returns-in-None-clause-stands : goal.returns-in-None-clause-stands
returns-in-None-clause-stands c = λ come gone stands. stands_without c.args.self.now.agg c.args.self.now.acc come gone c.args.comes c.args.row.now (sym c.in-None.ensures) stands

pub take_value-requires : goal.take_value-requires
take_value-requires c =
    let r = c.requires.stands in
    let agg = c.args.self.now.agg in
    (agg.call, values_of agg r.0, values_of agg r.1, r.2, c.requires.signed, room agg c.args.self.now.acc r.0 r.1 c.args.comes c.args.row.now r.3)

pub returns-clause-stands : goal.returns-clause-stands
returns-clause-stands c = on_ok c.take_value.result (λ after come gone stands.
    let agg = c.args.self.now.agg in
    stands_with agg c.take_value.new.acc come gone c.args.comes c.args.row.now c.in-Some.value.now (sym c.in-Some.ensures) (after agg.call (values_of agg come) (values_of agg gone) stands)) c.take_value.ensures.stands

pub returns-clause-out : goal.returns-clause-out
returns-clause-out c = if_err c.take_value.result (λ fault out is come gone stands.
    let agg = c.args.self.now.agg in
    out_with agg c.args.self.now.acc come gone c.args.comes c.args.row.now c.in-Some.value.now (sym c.in-Some.ensures) (out is agg.call (values_of agg come) (values_of agg gone) stands)) c.take_value.ensures.out
