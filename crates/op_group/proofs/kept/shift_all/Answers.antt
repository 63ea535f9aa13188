use Rattle.std.proofs.Common.{◌≡◌, true, false, sym, ap, subst, ◌∙◌, arith, option_copied, slice_index_or}
use Rattle.ct_change.specs.Emission.{replaced}
use Rattle.rel_algebra.specs.Aggregates.{values_of, sum_fits}
use Rattle.agg_fns.specs.Standing.{retracts}
use Rattle.op_group.specs.Kept.{type_among, Stands}
use Rattle.agg_fns.proofs.laws.Picked.{values_few}
use Rattle.agg_fns.proofs.laws.Upto.{upto_none, upto_more, item_before}
use Rattle.op_group.proofs.Shifts.{IsShifted, values_replaced, has_value, picked_some, stand_all, calls_all, retract_all, fits_all, unfit_all}
use Rattle.op_group.proofs.kept.shift_all.Goals as goal

pub loop-counter-init : goal.loop-counter-init
loop-counter-init c = upto_none (IsShifted (option_copied c.args.gone) (option_copied c.args.come)) c.args.counters.now

pub shift-requires-clause-retracts : goal.shift-requires-clause-retracts
shift-requires-clause-retracts c = λ some.
    item_before (IsShifted (option_copied c.args.gone) (option_copied c.args.come)) (λ counter. retracts counter.acc ≡ true) c.loop-counter.counter-index c.args.counters.now c.loop-counter.counters c.counter-item.result c.loop-counter.invariant (omega arith)
    (c.requires.retract (picked_some (slice_index_or c.loop-counter.counters c.loop-counter.counter-index c.counter-item.result).agg (option_copied c.args.gone) some))

pub shift-requires-clause-stands : goal.shift-requires-clause-stands
shift-requires-clause-stands c =
    let r = c.requires.stand in
    let item = slice_index_or c.loop-counter.counters c.loop-counter.counter-index c.counter-item.result in
    let few = values_few item.agg r.1 in
    let room = r.4 in (
      type_among r.0 item.agg,
      values_of item.agg r.1,
      item_before (IsShifted (option_copied c.args.gone) (option_copied c.args.come)) (Stands r.0 r.1) c.loop-counter.counter-index c.args.counters.now c.loop-counter.counters c.counter-item.result c.loop-counter.invariant (omega arith) r.2,
      has_value item.agg r.1 (option_copied c.args.gone) r.3,
      omega arith,
    )

pub returns-in-Err-clause-out : goal.returns-in-Err-clause-out
returns-in-Err-clause-out c = λ out columns rows all has.
    let gone = option_copied c.args.gone in
    let come = option_copied c.args.come in
    let item = slice_index_or c.loop-counter.counters c.loop-counter.counter-index c.counter-item.result in
    let stands : Stands columns rows item = item_before (IsShifted gone come) (Stands columns rows) c.loop-counter.counter-index c.args.counters.now c.loop-counter.counters c.counter-item.result c.loop-counter.invariant (omega arith) all in
    unfit_all gone come columns rows c.loop-counter.counter-index c.args.counters.now c.loop-counter.counters c.counter-item.result c.loop-counter.invariant (omega arith)
    (λ counter is. subst (λ k. sum_fits k.agg.call (type_among columns k.agg) (values_of k.agg (replaced rows gone come)) ≡ false) (sym is)
    (ap (sum_fits item.agg.call (type_among columns item.agg)) (values_replaced item.agg rows gone come has) ∙ c.in-Err.ensures.out out (type_among columns item.agg) (values_of item.agg rows) stands (has_value item.agg rows gone has)))

pub loop-counter-preserved : goal.loop-counter-preserved
loop-counter-preserved c =
    let gone = option_copied c.args.gone in
    let come = option_copied c.args.come in
    upto_more (IsShifted gone come) c.loop-counter.counter-index c.args.counters.now c.loop-counter.counters c.counter-item.result c.shift.new.self c.loop-counter.invariant (omega arith)
    (λ old is. subst (λ k. IsShifted gone come k c.shift.new.self) (sym is) record { agg = c.in_default.ensures.agg; stands = c.in_default.ensures.stands; fits = c.in_default.ensures.fits; retracting = c.in_default.ensures.retracts })

pub returns-clause-stand : goal.returns-clause-stand
returns-clause-stand c = λ columns rows all has.
    stand_all (option_copied c.args.gone) (option_copied c.args.come) columns rows has c.loop-counter.counter-index c.args.counters.now c.loop-counter.counters c.loop-counter.invariant (omega arith) all

pub returns-clause-fits : goal.returns-clause-fits
returns-clause-fits c = λ columns rows all has fits.
    fits_all (option_copied c.args.gone) (option_copied c.args.come) columns rows has c.loop-counter.counter-index c.args.counters.now c.loop-counter.counters c.loop-counter.invariant (omega arith) all fits

pub returns-clause-calls : goal.returns-clause-calls
returns-clause-calls c = calls_all (option_copied c.args.gone) (option_copied c.args.come) c.loop-counter.counter-index c.args.counters.now c.loop-counter.counters c.loop-counter.invariant (omega arith)

pub returns-clause-retract : goal.returns-clause-retract
returns-clause-retract c = retract_all (option_copied c.args.gone) (option_copied c.args.come) c.loop-counter.counter-index c.args.counters.now c.loop-counter.counters c.loop-counter.invariant (omega arith)
