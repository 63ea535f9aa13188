-- What is kept when no partial rows came.
use Rattle.std.proofs.Common.{◌≡◌, ◌&&◌, true, List, [], ◌∷◌, refl, sym, ap, subst, ◌∙◌}
use Rattle.std.specs.BTreeMap.{BTreeMap, IsEmpty, IsOrdered, is_at}
use Rattle.std.specs.Map.{lookup}
use Rattle.std.proofs.lemmas.Bool.{and_from}
use Rattle.ct_value.specs.Order.{row_cmp}
use Rattle.ct_value.specs.declared.row.Row.{Row}
use Rattle.rel_algebra.specs.declared.agg.Agg.{Agg}
use Rattle.agg_fns.specs.Partial.{partials_sum}
use Rattle.agg_fns.specs.Reading.{parts_by, all_blank}
use Rattle.agg_fns.proofs.laws.Blanks.{none_blank, sum_blank}
use Rattle.phase_rules.specs.LocalGrouping.{parts_of_calls}
use Rattle.phase_rules.specs.Merging.{sums_of_calls}
use Rattle.op_merge.specs.declared.kept.Kept.{Kept}
use Rattle.op_merge.specs.declared.groups.MergeBy.{MergeBy}
use Rattle.op_merge.specs.Kept.{KeptAt, is_nothing}
use Rattle.op_merge.specs.Groups.{AreMerged, local_of}
use Rattle.op_merge.proofs.Partials.{blank_cons}

calls_blank : (aggs : List Agg) → all_blank (parts_of_calls aggs) (sums_of_calls aggs []) ≡ true
calls_blank [] = refl
calls_blank (agg ∷ aggs) = blank_cons agg aggs [] ∙ and_from (all_blank (parts_by agg.call) (partials_sum agg.call [])) (all_blank (parts_of_calls aggs) (sums_of_calls aggs [])) (none_blank agg.call) (calls_blank aggs)

nothing_came : (by : MergeBy) → is_nothing (local_of by) [] ≡ true
nothing_came by = λ i. sum_blank i && calls_blank by.aggs i

pub merged_none : (by : MergeBy) (groups : BTreeMap Row Kept) → IsOrdered row_cmp groups → IsEmpty groups → AreMerged by groups (λ key. [])
merged_none by groups ordered empty = record { ordered = ordered; each = λ key. subst (KeptAt (local_of by) []) (sym (ap (lookup (is_at (row_cmp key))) empty)) (nothing_came by) }
