use Rattle.std.proofs.Common.{◌≡◌, [], true, false, take, sym, subst, arith}
use Rattle.std.proofs.lemmas.List.Elements.{All-from_recursion}
use Rattle.ct_change.specs.Changelog.{adds}
use Rattle.phase_rules.specs.LocalGrouping.{fit_after, rows_come, rows_gone}
use Rattle.op_local.specs.Amounting.{AmountsTo, AreSigned}
use Rattle.op_local.specs.Telling.{MayBeTold}
use Rattle.op_local.proofs.Along.{kept_next, still_fit, not_fit, room_for, all_taken_kept, all_taken_fit}
use Rattle.op_local.proofs.telling.amounted.Goals as goal

pub new-requires : goal.new-requires
new-requires g c = c.requires.have

pub take-requires-clause-signed : goal.take-requires-clause-signed
take-requires-clause-signed g c = λ goes.
    let items = c.as_slice-change-items.result.now in
    let may = subst (MayBeTold c.args.aggs.now) (sym c.as_slice-change-items.ensures) c.requires in
    let signed = All-from_recursion (λ change. adds change.kind ≡ false → AreSigned c.args.aggs.now) items may.signed c.loop-change.change-index c.change-item.result (omega arith) in
    subst AreSigned (sym c.loop-change.invariant.kept.calls_are) (subst (λ x. adds x.kind ≡ false → AreSigned c.args.aggs.now) (sym c.change-item.is) signed goes)

pub take-requires-clause-stands : goal.take-requires-clause-stands
take-requires-clause-stands g c =
    let items = c.as_slice-change-items.result.now in
    let n = c.loop-change.change-index in
    let may = subst (MayBeTold c.args.aggs.now) (sym c.as_slice-change-items.ensures) c.requires in
    (c.args.aggs.now, rows_come (take n items), rows_gone (take n items), c.loop-change.invariant.kept, room_for items n (omega arith) may.few)

pub loop-change-preserved : goal.loop-change-preserved
loop-change-preserved g c =
    let items = c.as_slice-change-items.result.now in
    let n = c.loop-change.change-index in
    let before = c.loop-change.invariant in
    let kept = kept_next c.args.aggs.now items n c.change-item.result (omega arith) c.change-item.is c.take.new.self (c.in_default.ensures.stands c.args.aggs.now (rows_come (take n items)) (rows_gone (take n items)) before.kept) in
    record {
      kept = kept;
      fit = still_fit c.args.aggs.now items n c.change-item.result (omega arith) c.change-item.is c.take.new.self kept before.fit;
      steps = let steps = before.steps in let tick = c.tick.ensures in omega arith;
    }

pub returns-in-Err-clause-out : goal.returns-in-Err-clause-out
returns-in-Err-clause-out g c = λ out.
    let items = c.as_slice-change-items.result.now in
    let n = c.loop-change.change-index in
    subst (λ cs. fit_after c.args.aggs.now [] cs ≡ false) c.as_slice-change-items.ensures
    (not_fit c.args.aggs.now items n c.change-item.result (omega arith) c.change-item.is (c.in-Err.ensures.out out c.args.aggs.now (rows_come (take n items)) (rows_gone (take n items)) c.loop-change.invariant.kept))

pub returns-clause-kept : goal.returns-clause-kept
returns-clause-kept g c =
    subst (λ cs. AmountsTo c.args.aggs.now c.loop-change.amounts (rows_come cs) (rows_gone cs)) c.as_slice-change-items.ensures
    (all_taken_kept c.args.aggs.now c.as_slice-change-items.result.now c.loop-change.change-index c.loop-change.amounts (omega arith) c.loop-change.invariant.kept)

pub returns-clause-fit : goal.returns-clause-fit
returns-clause-fit g c =
    subst (λ cs. fit_after c.args.aggs.now [] cs ≡ true) c.as_slice-change-items.ensures
    (all_taken_fit c.args.aggs.now c.as_slice-change-items.result.now c.loop-change.change-index (omega arith) c.loop-change.invariant.fit)
