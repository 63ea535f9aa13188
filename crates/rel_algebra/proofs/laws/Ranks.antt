-- The rank order of rows is total, and tells all rows apart.
use Rattle.std.proofs.Common.{◌≡◌, Bool, true, false, List, [], ◌∷◌}
use Rattle.std.specs.declared.cmp.Ordering.{Ordering}
use Rattle.std.specs.declared.cmp.Ordering.TheVariants.{Less, Equal, Greater}
use Rattle.std.specs.Ordering.{ordering_then}
use Rattle.std.specs.Cmp.{IsTotalOrder, on_total, then_total, back_total}
use Rattle.std.specs.FinMap.{IsAntisymmetric}
use Rattle.ct_value.specs.Order.{value_total, row_total, row_exact}
use Rattle.rel_algebra.specs.declared.sort.SortCol.{SortCol}
use Rattle.ct_field.specs.Typed.{cell}
use Rattle.rel_algebra.specs.Ranks.{directed, rank_cmp}

directed_total : (desc : Bool) → IsTotalOrder (directed desc)
directed_total true = back_total value_total
directed_total false = value_total

pub rank_total : (sorts : List SortCol) → IsTotalOrder (rank_cmp sorts)
rank_total [] = row_total
rank_total (sort ∷ sorts) = then_total (on_total (cell sort.col) (directed_total sort.desc)) (rank_total sorts)

second_tied : (r s : Ordering) → ordering_then r s ≡ Equal → s ≡ Equal
second_tied Less s e = absurd (cc)
second_tied Equal s e = e
second_tied Greater s e = absurd (cc)

-- rows that compare alike in it are one
pub rank_exact : (sorts : List SortCol) → IsAntisymmetric (rank_cmp sorts)
rank_exact [] a b e = row_exact a b e
rank_exact (sort ∷ sorts) a b e = rank_exact sorts a b (second_tied _ _ e)
