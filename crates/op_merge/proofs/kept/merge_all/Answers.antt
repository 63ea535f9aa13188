use Rattle.std.proofs.Common.{◌≡◌, ◌++◌, ◌∷◌, [], false, refl, sym, ap, subst, ◌∙◌, arith, slice_index_or, drop}
use Rattle.agg_fns.specs.Partial.{partials_sum}
use Rattle.agg_fns.specs.PartialResults.{result_fits}
use Rattle.phase_rules.specs.Merging.{argument_type}
use Rattle.op_merge.proofs.Mergers.{IsMerged, width, row_at, upto_none, upto_more, row_more, calls_all, stand_all, within_all, past_one}
use Rattle.op_merge.proofs.kept.merge_all.Goals as goal

pub loop-merger-init : goal.loop-merger-init
loop-merger-init c = (upto_none c.args.partials.now c.args.mergers.now, refl)

pub loop-merger-preserved : goal.loop-merger-preserved
loop-merger-preserved c =
    let inv = c.loop-merger.invariant in
    let n = c.loop-merger.merger-index in
    let d = c.merger-item.result in
    let item = slice_index_or c.loop-merger.mergers n d in (
      upto_more n c.args.partials.now c.args.mergers.now c.loop-merger.mergers d c.merge.new.self inv.0 (omega arith)
          (λ old is. subst (λ k. IsMerged (row_at n c.args.mergers.now c.args.partials.now) k c.merge.new.self) (sym is)
          (subst (λ r. IsMerged r item c.merge.new.self) inv.1 record { agg = c.in-Ok.ensures.agg; stands = c.in-Ok.ensures.stands; fits = c.in-Ok.ensures.fits })),
      c.in-Ok.ensures.rest ∙ ap (drop (width item)) inv.1 ∙ sym (row_more n c.args.partials.now c.args.mergers.now c.loop-merger.mergers d inv.0 (omega arith)),
    )

pub returns-in-Err-clause-out : goal.returns-in-Err-clause-out
returns-in-Err-clause-out c = λ out columns rows all.
    let inv = c.loop-merger.invariant in
    let n = c.loop-merger.merger-index in
    let item = slice_index_or c.loop-merger.mergers n c.merger-item.result in
    past_one columns n c.args.partials.now rows c.args.mergers.now c.loop-merger.mergers c.merger-item.result inv.0 (omega arith) all
    (λ taken stands. subst (λ r. result_fits item.agg.call (argument_type columns item.agg) (partials_sum item.agg.call (taken ++ r ∷ [])) ≡ false) inv.1 (c.in-Err.ensures.out out (argument_type columns item.agg) taken stands))

pub returns-clause-stand : goal.returns-clause-stand
returns-clause-stand c = λ columns rows all. stand_all columns c.loop-merger.merger-index c.args.partials.now rows c.args.mergers.now c.loop-merger.mergers c.loop-merger.invariant.0 (omega arith) all

pub returns-clause-calls : goal.returns-clause-calls
returns-clause-calls c = calls_all c.loop-merger.merger-index c.args.partials.now c.args.mergers.now c.loop-merger.mergers c.loop-merger.invariant.0 (omega arith)

pub returns-clause-within : goal.returns-clause-within
returns-clause-within c = λ columns rows all. within_all columns c.loop-merger.merger-index c.args.partials.now rows c.args.mergers.now c.loop-merger.mergers c.loop-merger.invariant.0 (omega arith) all
