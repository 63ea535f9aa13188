-- The values of a call over rows.
use Rattle.std.proofs.Common.{◌≤◌, true, false, cond, arith}
use Rattle.ct_value.specs.Bag.{Bag, total}
use Rattle.ct_value.proofs.laws.Bags.{total-le}
use Rattle.ct_value.specs.Order.{value_total, value_exact, row_cmp, row_total, row_exact}
use Rattle.rel_algebra.specs.declared.agg.Agg.{Agg}
use Rattle.rel_algebra.specs.Aggregates.{size, values_of, argument, passes}
use Rattle.rel_algebra.specs.Sums.{restrict}
use Rattle.rel_algebra.proofs.laws.Bags.{total-mapped, total-restrict}

-- they are at most as many as the rows
pub values_few : (agg : Agg) (rows : Bag row_cmp) → size (values_of agg rows) ≤ total (λ _. 1) rows
values_few agg rows =
    let a = total-mapped value_total value_exact row_total row_exact (λ _. 1) (argument agg.arg) (restrict (passes agg.filter) rows) in
    let b = total-restrict row_total row_exact (λ _. 1) (passes agg.filter) rows in
    let c = total-le (λ row. cond (passes agg.filter row) 1 0) (λ row. elim (passes agg.filter row) as (λ b. cond b 1 0 ≤ 1) [ true ↦ omega arith | false ↦ omega arith ]) rows in
    omega arith
