-- Groups of changes of which partial rows are told, one group after the other.
use Rattle.std.specs.Prelude.{◌≡◌, ◌<◌, ◌^◌, false, List, [], ◌∷◌, length, Ok}
use Rattle.std.specs.List.{AllByRecursion}
use Rattle.ct_change.specs.declared.change.Change.{Change}
use Rattle.ct_change.specs.Changelog.{adds}
use Rattle.rel_algebra.specs.declared.agg.Agg.{Agg}
use Rattle.mini_batch.specs.Held.{Entries}
use Rattle.op_rules.specs.Rules.{Answer, appended}
use Rattle.phase_rules.specs.LocalGrouping.{local_answer}
use Rattle.op_local.specs.Amounting.{HavePartials, AreSigned}

-- the calls have partials, values of them can go where a change takes a row away, and there are fewer than 2 ^ 32 changes
pub record MayBeTold (aggs : List Agg) (changes : List Change) : Type 0 where
  pub have : HavePartials aggs
  pub signed : AllByRecursion (λ change. adds change.kind ≡ false → AreSigned aggs) changes
  pub few : length changes < 2 ^ 32

-- so it is of each group's
abbrev pub MayAllBeTold : List Agg → Entries → Type 0
MayAllBeTold aggs entries = AllByRecursion (λ entry. MayBeTold aggs entry.1) entries

-- what is told of these groups
abbrev pub told_along : List Agg → Entries → Answer
told_along aggs [] = Ok []
told_along aggs (entry ∷ entries) = appended (local_answer aggs entry.0 entry.1) (told_along aggs entries)

-- these groups are left: what was told, and what will be told of them, is what is told of all
pub record AreOnTheWay (aggs : List Agg) (entries left : Entries) (sent : List Change) : Type 0 where
  pub may : MayAllBeTold aggs left
  pub told : told_along aggs entries ≡ appended (Ok sent) (told_along aggs left)
