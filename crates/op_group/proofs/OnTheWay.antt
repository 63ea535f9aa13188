-- Groups that take their changes one after the other: the first, the next, and the last.
use Rattle.std.proofs.Common.{◌≡◌, ℕ, ◌+◌, List, [], ◌∷◌, length, Ok, Err, refl, sym, ap, subst, ◌∙◌, arith, append_assoc, append-nil}
use Rattle.std.specs.BTreeMap.{BTreeMap}
use Rattle.ct_value.specs.declared.row.Row.{Row}
use Rattle.ct_change.specs.declared.change.Change.{Change}
use Rattle.ct_change.specs.Changelog.{Mode, Rows, fold_from}
use Rattle.mini_batch.specs.Held.{Entries, held_in}
use Rattle.op_rules.specs.Rules.{Answer, appended}
use Rattle.op_rules.proofs.laws.Histories.{appended-nothing}
use Rattle.emission_rules.specs.Grouping.{Grouping, group_emits}
use Rattle.op_group.specs.declared.kept.Kept.{Kept}
use Rattle.op_group.specs.declared.groups.GroupBy.{GroupBy}
use Rattle.op_group.specs.Groups.{grouping, IsGrouped}
use Rattle.op_group.specs.Folding.{MayFold}
use Rattle.op_group.specs.Bundles.{folded, told_along, AreOnTheWay, MayFoldAll}

pub at_first : (by : GroupBy) (g : Grouping) (rows : Rows) (held : ℕ) (entries : Entries) (stands : Rows → Type 0) (groups : BTreeMap Row Kept) → stands rows → MayFoldAll by g rows groups held entries → AreOnTheWay by g rows held entries stands groups entries []
at_first by g rows held entries stands groups stand may = record {
  now = rows;
  taken = held;
  stand = stand;
  may = may;
  told = sym (appended-nothing (told_along g rows entries));
  folds = refl;
  count = refl;
}

told_more : (sent : List Change) (answer others : Answer) → appended (Ok sent) (appended answer others) ≡ appended (appended (Ok sent) answer) others
told_more sent (Ok told) (Ok more) = ap (λ xs. let r : Answer = Ok xs in r) (sym (append_assoc sent told more))
told_more sent (Ok told) (Err row) = refl
told_more sent (Err row) others = refl

module _ (by : GroupBy) (input output : Mode) (rows : Rows) (held : ℕ) (entries : Entries) (stands : Rows → Type 0) (groups : BTreeMap Row Kept) (left : Entries) (sent : List Change) (way : AreOnTheWay by (grouping by input output) rows held entries stands groups left sent) where
  abbrev g : Grouping
  g = grouping by input output

  module _ (key : Row) (changes : List Change) (rest : Entries) (is : left ≡ (key, changes) ∷ rest) where
    may_now : MayFoldAll by g way.now groups way.taken ((key, changes) ∷ rest)
    may_now = subst (MayFoldAll by g way.now groups way.taken) is way.may

    told_now : told_along g rows entries ≡ appended (Ok sent) (appended (group_emits g way.now changes key) (told_along g (fold_from input way.now changes) rest))
    told_now = way.told ∙ ap (λ l. appended (Ok sent) (told_along g way.now l)) is

    pub may_next : MayFold by (grouping by input output) way.now groups way.taken key changes
    may_next = record {
      set = may_now.set;
      grouped = may_now.grouped;
      valid = may_now.follow.0.0;
      of = may_now.follow.0.1;
      keyed = may_now.follow.0.2;
      few = let few = may_now.few in omega (arith, few);
    }

    pub onward : (stands_now : Rows → Type 0) (new : BTreeMap Row Kept) (all : List Change) → appended (Ok sent) (group_emits (grouping by input output) way.now changes key) ≡ Ok all → stands_now (fold_from input way.now changes)
        → IsGrouped by (grouping by input output) (fold_from input way.now changes) new (way.taken + length changes) → AreOnTheWay by (grouping by input output) rows held entries stands_now new rest all
    onward stands_now new all e stand grouped = record {
      now = fold_from input way.now changes;
      taken = way.taken + length changes;
      stand = stand;
      may = record {
        set = may_now.set;
        grouped = grouped;
        follow = may_now.follow.1;
        few = let few = may_now.few in omega (arith, few);
      };
      told = told_now ∙ told_more sent (group_emits g way.now changes key) (told_along g (fold_from input way.now changes) rest) ∙ ap (λ a. appended a (told_along g (fold_from input way.now changes) rest)) e;
      folds = way.folds ∙ ap (folded input way.now) is;
      count = let count = way.count in let size = ap held_in is in omega (arith, count, size);
    }

    pub out_now : (row : Row) → group_emits (grouping by input output) way.now changes key ≡ Err row → told_along (grouping by input output) rows entries ≡ Err row
    out_now row e = told_now ∙ ap (λ a. appended (Ok sent) (appended a (told_along g (fold_from input way.now changes) rest))) e

  module _ (is : left ≡ []) where
    pub all_told : told_along (grouping by input output) rows entries ≡ Ok sent
    all_told = way.told ∙ ap (λ l. appended (Ok sent) (told_along g way.now l)) is ∙ ap (λ xs. let r : Answer = Ok xs in r) (append-nil sent)

    folds_now : folded input rows entries ≡ way.now
    folds_now = way.folds ∙ ap (folded input way.now) is

    pub all_stand : stands (folded input rows entries)
    all_stand = subst stands (sym folds_now) way.stand

    pub all_grouped : IsGrouped by (grouping by input output) (folded input rows entries) groups (held + held_in entries)
    all_grouped =
        let count : way.taken ≡ held + held_in entries = let c = way.count in let size = ap held_in is in omega (arith, c, size) in
        subst (λ r. IsGrouped by g r groups (held + held_in entries)) (sym folds_now) (subst (IsGrouped by g way.now groups) count way.may.grouped)
