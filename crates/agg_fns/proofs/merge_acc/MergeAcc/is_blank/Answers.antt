use Rattle.std.proofs.Common.{sym, ap, subst, ◌∙◌}
use Rattle.agg_fns.specs.MergedPartials.{StandsForPartials}
use Rattle.agg_fns.specs.Partial.{column_of, partials_sum}
use Rattle.agg_fns.specs.Reading.{parts_by, all_blank}
use Rattle.agg_fns.proofs.Merges.{least_blank, greatest_blank}
use Rattle.agg_fns.proofs.merge_acc.MergeAcc.is_blank.Goals as goal

pub returns-in-Least : goal.returns-in-Least
returns-in-Least c = λ call ty rows stands.
    let at = subst (λ acc. StandsForPartials call ty acc rows) c.in-Least.is stands in
    least_blank (column_of 0 rows) c.in-Least.kept c.is_none.result at.1 c.is_none.ensures ∙ sym (ap (λ k. all_blank (parts_by k) (partials_sum k rows)) at.0)

pub returns-in-Greatest : goal.returns-in-Greatest
returns-in-Greatest c = λ call ty rows stands.
    let at = subst (λ acc. StandsForPartials call ty acc rows) c.in-Greatest.is stands in
    greatest_blank (column_of 0 rows) c.in-Greatest.kept c.is_none-in-Greatest.result at.1 c.is_none-in-Greatest.ensures ∙ sym (ap (λ k. all_blank (parts_by k) (partials_sum k rows)) at.0)
