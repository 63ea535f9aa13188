use Rattle.std.proofs.Common.{◌≡◌, ◌+◌, ◌++◌, ◌∷◌, [], ◌∙◌, suc, take, Some, sym, ap, subst, arith}
use Rattle.std.proofs.lemmas.Option.{slice_get-get_or}
use Rattle.source_lines.specs.Standing.{StandAll}
use Rattle.source_lines.specs.Taken.{nothing_taken}
use Rattle.source_lines.proofs.Stand.{stand_more}
use Rattle.source_lines.proofs.take.folds_of.Goals as goal

pub loop-i-preserved : goal.loop-i-preserved
loop-i-preserved c =
    let i = c.loop-i.i in
    let sources = c.args.sources.now in
    let more : suc i ≡ i + 1 = omega arith in
    subst (λ xs. StandAll (take (i + 1) sources) xs nothing_taken) (sym c.in_ok-push.ensures.items)
    (subst (λ n. StandAll (take n sources) (c.loop-i.folds.items ++ c.in_ok-new.field-0 ∷ []) nothing_taken) more
    (stand_more sources i c.loop-i.folds.items c.index-sources-i.result c.in_ok-new.field-0 c.loop-i.invariant (slice_get-get_or sources i c.index-sources-i.result c.loop-i-test.true ∙ ap Some (sym c.index-sources-i.is)) c.in_ok-new.ensures))
