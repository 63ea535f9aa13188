-- The partial rows of a bundle, by the groups that their keys name.
use Rattle.std.specs.Prelude.{◌≡◌, ℕ, List, [], ◌∷◌, length, Ok}
use Rattle.std.specs.List.{AllByRecursion}
use Rattle.std.specs.BTreeMap.{BTreeMap}
use Rattle.ct_value.specs.declared.row.Row.{Row}
use Rattle.ct_change.specs.declared.change.Change.{Change}
use Rattle.ct_change.specs.Changelog.{Mode}
use Rattle.mini_batch.specs.Held.{Entries}
use Rattle.op_rules.specs.Rules.{Answer, appended}
use Rattle.phase_rules.specs.Merging.{Merging, merge_answer}
use Rattle.op_merge.specs.declared.kept.Kept.{Kept}
use Rattle.op_merge.specs.declared.groups.MergeBy.{MergeBy}
use Rattle.op_merge.specs.Groups.{Amounts, AreMerged, amounts_of, merging, with_more}

-- what came of each group after the partial rows of these groups
abbrev pub grown : ℕ → Amounts → Entries → Amounts
grown keys of [] = of
grown keys of (entry ∷ entries) = grown keys (with_more of entry.0 (amounts_of keys entry.1)) entries

-- what is emitted for these groups, each after those before it
abbrev pub told_along : Merging → Amounts → Entries → Answer
told_along m of [] = Ok []
told_along m of (entry ∷ entries) =
    appended (merge_answer m entry.0 (of entry.0) (amounts_of m.local.keys entry.1)) (told_along m (with_more of entry.0 (amounts_of m.local.keys entry.1)) entries)

-- each key has as many columns
abbrev pub AreNamed : ℕ → Entries → Type 0
AreNamed keys entries = AllByRecursion (λ entry. length entry.0 ≡ keys) entries

-- some groups took their partial rows and these are left: what was told, and what will be of those left, is all; and so
-- with what came
pub record AreOnTheWay (by : MergeBy) (output : Mode) (of : Amounts) (entries : Entries) (groups : BTreeMap Row Kept) (left : Entries) (sent : List Change) : Type 0 where
  pub now : Amounts
  pub are : AreMerged by groups now
  pub named : AreNamed by.keys left
  pub told : told_along (merging by output) of entries ≡ appended (Ok sent) (told_along (merging by output) now left)
  pub grows : grown by.keys of entries ≡ grown by.keys now left
