-- What is kept of rows come and gone, until it is told what they amount to.
use Rattle.std.specs.Prelude.{◌≡◌, Bool, true, cond, List, map}
use Rattle.std.specs.List.{AllByRecursion}
use Rattle.ct_value.specs.Bag.{add}
use Rattle.ct_value.specs.declared.row.Row.{Row}
use Rattle.ct_change.specs.Changelog.{Rows}
use Rattle.rel_algebra.specs.declared.agg.Agg.{Agg}
use Rattle.rel_algebra.specs.Aggregates.{values_of}
use Rattle.agg_fns.specs.ComeAndGone.{StandsForBoth}
use Rattle.agg_fns.specs.Partial.{has_partial, is_signed, net}
use Rattle.emission_rules.specs.Grouping.{row_count}
use Rattle.op_local.specs.declared.amounts.Amounts.{Amounts}
use Rattle.op_local.specs.declared.tally.Tally.{Tally}

-- rows come with one more, if it comes, and rows gone with one more, if it goes
abbrev pub with_come : Rows → Bool → Row → Rows
with_come come comes row = cond comes (add come row) come

abbrev pub with_gone : Rows → Bool → Row → Rows
with_gone gone comes row = cond comes gone (add gone row)

-- a tally stands for rows come and gone
abbrev pub Stands : Rows → Rows → Tally → Type 0
Stands come gone tally = StandsForBoth tally.agg.call tally.acc (values_of tally.agg come) (values_of tally.agg gone)

abbrev pub AllStand : Rows → Rows → List Tally → Type 0
AllStand come gone tallies = AllByRecursion (Stands come gone) tallies

abbrev pub calls : List Tally → List Agg
calls tallies = map (λ tally. tally.agg) tallies

-- each call has partials
abbrev pub HavePartials : List Agg → Type 0
HavePartials aggs = AllByRecursion (λ agg. has_partial agg.call ≡ true) aggs

-- values of each call can also go
abbrev pub AreSigned : List Agg → Type 0
AreSigned aggs = AllByRecursion (λ agg. is_signed agg.call ≡ true) aggs

-- what is kept stands for rows come and gone, with these calls
pub record AmountsTo (aggs : List Agg) (kept : Amounts) (come gone : Rows) : Type 0 where
  pub count : kept.rows ≡ net (row_count come) (row_count gone)
  pub calls_are : calls kept.tallies.items ≡ aggs
  pub stand : AllStand come gone kept.tallies.items

-- so it is of all rows for which what is kept stands
abbrev pub ForAll : Amounts → (List Agg → Rows → Rows → Type 0) → Type 0
ForAll kept P = (aggs : List Agg) (come gone : Rows) → AmountsTo aggs kept come gone → P aggs come gone
