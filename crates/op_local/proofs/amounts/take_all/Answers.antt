use Rattle.std.proofs.Common.{◌≡◌, true, sym, subst, arith}
use Rattle.agg_fns.specs.Partial.{is_signed}
use Rattle.agg_fns.proofs.laws.Upto.{upto_none, upto_more, item_before}
use Rattle.op_local.specs.Amounting.{Stands, with_come, with_gone}
use Rattle.op_local.proofs.Tallied.{IsTaken, all_taken, same_calls, out_of_all, of_calls}
use Rattle.op_local.proofs.amounts.take_all.Goals as goal

pub loop-tally-init : goal.loop-tally-init
loop-tally-init c = upto_none (IsTaken c.args.comes c.args.row.now) c.args.tallies.now

pub take-requires-clause-signed : goal.take-requires-clause-signed
take-requires-clause-signed c = λ goes.
    item_before (IsTaken c.args.comes c.args.row.now) (λ tally. is_signed tally.agg.call ≡ true) c.loop-tally.tally-index c.args.tallies.now c.loop-tally.tallies c.tally-item.result c.loop-tally.invariant (omega arith)
    (of_calls (λ agg. is_signed agg.call ≡ true) c.args.tallies.now (c.requires.signed goes))

pub take-requires-clause-stands : goal.take-requires-clause-stands
take-requires-clause-stands c =
    let r = c.requires.stand in
    (r.0, r.1, item_before (IsTaken c.args.comes c.args.row.now) (Stands r.0 r.1) c.loop-tally.tally-index c.args.tallies.now c.loop-tally.tallies c.tally-item.result c.loop-tally.invariant (omega arith) r.2, r.3)

pub returns-in-Err-clause-out : goal.returns-in-Err-clause-out
returns-in-Err-clause-out c = λ out come gone all.
    let before = item_before (IsTaken c.args.comes c.args.row.now) (Stands come gone) c.loop-tally.tally-index c.args.tallies.now c.loop-tally.tallies c.tally-item.result c.loop-tally.invariant (omega arith) all in
    out_of_all (IsTaken c.args.comes c.args.row.now) (with_come come c.args.comes c.args.row.now) (with_gone gone c.args.comes c.args.row.now) c.loop-tally.tally-index c.args.tallies.now c.loop-tally.tallies c.tally-item.result c.loop-tally.invariant (omega arith)
    (c.in-Err.ensures.out out come gone before)

pub loop-tally-preserved : goal.loop-tally-preserved
loop-tally-preserved c =
    upto_more (IsTaken c.args.comes c.args.row.now) c.loop-tally.tally-index c.args.tallies.now c.loop-tally.tallies c.tally-item.result c.take.new.self c.loop-tally.invariant (omega arith)
    (λ old is. subst (λ tally. IsTaken c.args.comes c.args.row.now tally c.take.new.self) (sym is) record { agg = c.in_default.ensures.agg; stands = c.in_default.ensures.stands })

pub returns-clause-stand : goal.returns-clause-stand
returns-clause-stand c = λ come gone all. all_taken c.args.comes c.args.row.now come gone c.loop-tally.tally-index c.args.tallies.now c.loop-tally.tallies c.loop-tally.invariant (omega arith) all

pub returns-clause-calls : goal.returns-clause-calls
returns-clause-calls c = same_calls c.args.comes c.args.row.now c.loop-tally.tally-index c.args.tallies.now c.loop-tally.tallies c.loop-tally.invariant (omega arith)
