use Rattle.std.proofs.Common.{◌-◌, length, map, Some, sym, ap, subst, ◌∙◌, arith}
use Rattle.std.specs.Option.{option_map}
use Rattle.std.proofs.lemmas.List.{length-map}
use Rattle.std.proofs.lemmas.Option.{slice_get-map, slice_get_within}
use Rattle.std.specs.Ordering.{is_gt}
use Rattle.rel_algebra.specs.Ranks.{rank_cmp}
use Rattle.op_topn.specs.Kept.{IsBehind}
use Rattle.op_topn.proofs.Behind.{behind_all, greater}
use Rattle.op_topn.proofs.partitions.is_behind.Goals as goal

pub returns-then-firsts-bound : goal.returns-then-firsts-bound
returns-then-firsts-bound c = λ gt ranked.
    let keys = c.args.firsts.now in
    let rows = map (λ key. key.now.1) keys in
    let place = length keys - 1 in
    let many = length-map keys (λ key. key.now.1) in
    let within = slice_get_within keys place c.in-Some-last.last.now (sym c.in-Some-last.ensures.value) in
    let at = slice_get-map (λ key. key.now.1) keys place ∙ ap (option_map (λ key. key.now.1)) (sym c.in-Some-last.ensures.value) ∙ ap Some (sym c.row.ensures) in
    let above = greater c.rank_compare.result (sym c.is_gt.ensures ∙ gt) in
    subst (IsBehind c.args.order.now c.args.bound rows) (sym c.in-Some.is) (
      many ∙ c.if-firsts-bound.true,
      behind_all c.args.order.now rows place c.row.result.now c.in-Some.row ranked at (omega (arith, many, within)) (ap (λ order. rank_cmp order c.in-Some.row c.row.result.now) (sym c.as_slice.ensures) ∙ sym c.rank_compare.ensures ∙ above),
    )
