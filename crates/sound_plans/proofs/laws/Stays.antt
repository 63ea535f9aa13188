-- What a rule sends stays in range, between what comes to it and what it sends, where it calculates nothing.
use Rattle.std.specs.Prelude.{◌≡◌, ℕ, ◌*◌, ◌<◌, List, Option}
use Rattle.std.proofs.Common.{true, refl, arith, Some, None}
use Rattle.std.specs.List.{list_all}
use Rattle.rel_algebra.specs.declared.agg.Agg.{Agg}
use Rattle.phase_rules.specs.LocalGrouping.{LocalGrouping}
use Rattle.op_rules.specs.Rules.{Rule}
use Rattle.op_rules.proofs.laws.Histories.{all-each}
use Rattle.plan_rules.specs.Around.{Around, grouping_of, merging_of}
use Rattle.plan_rules.specs.Behaviours.{Behaviour, BundlesWell, bundled_rule}
use Rattle.range_rules.specs.Tame.{only_counts}
use Rattle.range_rules.specs.Ranges.{ArrivesShort, RuleStaysInRange, ComesShort, StaysBetween}
use Rattle.range_rules.proofs.laws.Groups.{groups_stay}
use Rattle.range_rules.proofs.laws.MergingGroups.{merging_groups_stay}

-- all that partial rows sum up can be counted, and their calls count or choose
pub record AreCounted (most limit : ℕ) (l : LocalGrouping) : Type 0 where
  pub few : limit * most < 9223372036854775808
  pub tame : list_all (λ agg. only_counts agg.call) l.aggs ≡ true

module _ (most limit : ℕ) (small : limit < 9223372036854775808) where
  abbrev pub StaysBy : Option LocalGrouping → Option LocalGrouping → Option Behaviour → Type 0
  StaysBy partial own None = Unit {0}
  StaysBy partial own (Some b) = StaysBetween most limit partial own b.rule

  -- a rule over rows
  pub rows : (rule : Rule) (partial : Option LocalGrouping) → RuleStaysInRange rule → StaysBetween most limit partial None rule
  rows rule partial h = record {
    opens = h.opens;
    answers = λ before piece c d few within.
        h.answers before piece (all-each (ComesShort most partial rule) ArrivesShort (λ a k. k.short) before c) (all-each (ComesShort most partial rule) ArrivesShort (λ a k. k.short) piece d) (omega (arith, within, small));
  }

  pub bundled : (keys : ℕ) (aggs : List Agg) (around : Around) (partial : Option LocalGrouping) → list_all (λ agg. only_counts agg.call) aggs ≡ true → BundlesWell keys aggs around partial
      → ((l : LocalGrouping) → partial ≡ Some l → AreCounted most limit l) → StaysBetween most limit partial None (bundled_rule keys aggs around partial)
  bundled keys aggs around None tame suits counted = rows (bundled_rule keys aggs around None) None (groups_stay (grouping_of keys aggs around) tame)
  bundled keys aggs around (Some l) tame suits counted = let c = counted l refl in merging_groups_stay (merging_of l around) suits.0 c.tame most limit c.few
