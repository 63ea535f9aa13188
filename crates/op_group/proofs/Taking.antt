-- Changes that are taken group by group, as a piece.
use Rattle.std.proofs.Common.{◌≡◌, ℕ, ◌+◌, List, length, sym, ap, subst, ◌∙◌, arith}
use Rattle.std.specs.BTreeMap.{BTreeMap}
use Rattle.ct_value.specs.declared.row.Row.{Row}
use Rattle.ct_change.specs.declared.change.Change.{Change}
use Rattle.ct_change.specs.Changelog.{Mode, Rows, fold_from}
use Rattle.mini_batch.specs.Held.{Entries, held_in}
use Rattle.emission_rules.specs.Grouping.{Grouping, groups_of, answers, group_emits}
use Rattle.op_group.specs.declared.kept.Kept.{Kept}
use Rattle.op_group.specs.declared.groups.GroupBy.{GroupBy}
use Rattle.op_group.specs.Groups.{grouping, IsGrouped}
use Rattle.mini_batch.specs.Groups.{by_group}
use Rattle.op_group.specs.Bundles.{folded, told_along, MayFoldAll, MayFollow, MayTakeAll}
use Rattle.op_group.proofs.Alike.{told_by_group, may_by_group, folded_by_group}

module _ (by : GroupBy) (input output : Mode) (rows : Rows) (groups : BTreeMap Row Kept) (held : ℕ) (changes : List Change) (m : MayTakeAll by (grouping by input output) rows groups held changes) (entries : Entries) (is : entries ≡ by_group by.keys changes) (size : held_in entries ≡ length changes) where
  abbrev g : Grouping
  g = grouping by input output

  pub may_all : MayFoldAll by (grouping by input output) rows groups held entries
  may_all = record {
    set = m.set;
    grouped = m.grouped;
    follow = subst (MayFollow g rows) (sym is) (may_by_group g m.set.0.keeps rows changes m.grouped.wide m.long m.valid m.keyed);
    few = let few = m.few in omega (arith, few, size);
  }

  pub told_all : told_along (grouping by input output) rows entries ≡ answers (group_emits (grouping by input output) rows changes) (groups_of by.keys changes)
  told_all = ap (told_along g rows) is ∙ told_by_group g m.set.0.keeps rows changes m.grouped.wide m.long m.valid m.keyed

  pub folds_all : folded input rows entries ≡ fold_from input rows changes
  folds_all = ap (folded input rows) is ∙ folded_by_group g m.set.0.keeps rows changes m.grouped.wide m.long m.valid m.keyed

  pub grouped_all : (new : BTreeMap Row Kept) → IsGrouped by (grouping by input output) (folded input rows entries) new (held + held_in entries) → IsGrouped by (grouping by input output) (fold_from input rows changes) new (held + length changes)
  grouped_all new grouped = subst (λ r. IsGrouped by g r new (held + length changes)) folds_all (subst (λ n. IsGrouped by g (folded input rows entries) new (held + n)) size grouped)
