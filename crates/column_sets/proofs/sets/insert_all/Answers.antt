use Rattle.std.proofs.Common.{◌+◌, drop, sym, ap, ◌∙◌}
use Rattle.std.specs.List.{fold}
use Rattle.std.specs.Ordering.{nat_cmp}
use Rattle.std.specs.BTreeSet.{insert_key}
use Rattle.std.proofs.lemmas.List.{at_drop_more}
use Rattle.column_sets.proofs.sets.insert_all.Goals as goal

pub loop-col-preserved : goal.loop-col-preserved
loop-col-preserved c =
    let i = c.loop-col.col-index in
    ap (λ keys. fold (insert_key nat_cmp) keys (drop (i + 1) c.args.cols.now)) (c.in_ok-insert.ensures.keys)
    ∙ sym (at_drop_more (fold (insert_key nat_cmp) c.loop-col.set.keys) c.args.cols.now i 0 c.loop-col-test.true)
    ∙ c.loop-col.invariant
