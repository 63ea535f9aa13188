-- Groups that take their partial rows one after the other: the first, the next, and the last.
use Rattle.std.proofs.Common.{◌≡◌, List, [], ◌∷◌, length, Ok, Err, refl, sym, ap, subst, ◌∙◌, append_assoc, append-nil}
use Rattle.std.specs.BTreeMap.{BTreeMap}
use Rattle.ct_value.specs.declared.row.Row.{Row}
use Rattle.ct_change.specs.declared.change.Change.{Change}
use Rattle.ct_change.specs.Changelog.{Mode}
use Rattle.mini_batch.specs.Held.{Entries}
use Rattle.op_rules.specs.Rules.{Answer, appended}
use Rattle.op_rules.proofs.laws.Histories.{appended-nothing}
use Rattle.phase_rules.specs.Merging.{merge_answer}
use Rattle.op_merge.specs.declared.kept.Kept.{Kept}
use Rattle.op_merge.specs.declared.groups.MergeBy.{MergeBy}
use Rattle.op_merge.specs.Groups.{Amounts, AreMerged, amounts_of, merging, with_more}
use Rattle.op_merge.specs.Bundles.{AreNamed, AreOnTheWay, grown, told_along}

pub at_first : (by : MergeBy) (output : Mode) (of : Amounts) (entries : Entries) (groups : BTreeMap Row Kept) → AreMerged by groups of → AreNamed by.keys entries → AreOnTheWay by output of entries groups entries []
at_first by output of entries groups are named = record { now = of; are = are; named = named; told = sym (appended-nothing (told_along (merging by output) of entries)); grows = refl }

told_more : (sent : List Change) (answer others : Answer) → appended (Ok sent) (appended answer others) ≡ appended (appended (Ok sent) answer) others
told_more sent (Ok told) (Ok more) = ap (λ xs. let r : Answer = Ok xs in r) (sym (append_assoc sent told more))
told_more sent (Ok told) (Err row) = refl
told_more sent (Err row) others = refl

module _ (by : MergeBy) (output : Mode) (of : Amounts) (entries : Entries) (groups : BTreeMap Row Kept) (left : Entries) (sent : List Change) (way : AreOnTheWay by output of entries groups left sent) where
  module _ (key : Row) (changes : List Change) (rest : Entries) (is : left ≡ (key, changes) ∷ rest) where
    told_now : told_along (merging by output) of entries ≡ appended (Ok sent) (appended (merge_answer (merging by output) key (way.now key) (amounts_of by.keys changes)) (told_along (merging by output) (with_more way.now key (amounts_of by.keys changes)) rest))
    told_now = way.told ∙ ap (λ l. appended (Ok sent) (told_along (merging by output) way.now l)) is

    pub named_next : length key ≡ by.keys
    named_next = (subst (AreNamed by.keys) is way.named).0

    pub onward : (new : BTreeMap Row Kept) (all : List Change) → appended (Ok sent) (merge_answer (merging by output) key (way.now key) (amounts_of by.keys changes)) ≡ Ok all → AreMerged by new (with_more way.now key (amounts_of by.keys changes)) → AreOnTheWay by output of entries new rest all
    onward new all e are = record {
      now = with_more way.now key (amounts_of by.keys changes);
      are = are;
      named = (subst (AreNamed by.keys) is way.named).1;
      told =
          told_now ∙ told_more sent (merge_answer (merging by output) key (way.now key) (amounts_of by.keys changes)) (told_along (merging by output) (with_more way.now key (amounts_of by.keys changes)) rest)
          ∙ ap (λ a. appended a (told_along (merging by output) (with_more way.now key (amounts_of by.keys changes)) rest)) e;
      grows = way.grows ∙ ap (grown by.keys way.now) is;
    }

    pub out_now : (row : Row) → merge_answer (merging by output) key (way.now key) (amounts_of by.keys changes) ≡ Err row → told_along (merging by output) of entries ≡ Err row
    out_now row e = told_now ∙ ap (λ a. appended (Ok sent) (appended a (told_along (merging by output) (with_more way.now key (amounts_of by.keys changes)) rest))) e

  module _ (is : left ≡ []) where
    pub all_told : told_along (merging by output) of entries ≡ Ok sent
    all_told = way.told ∙ ap (λ l. appended (Ok sent) (told_along (merging by output) way.now l)) is ∙ ap (λ xs. let r : Answer = Ok xs in r) (append-nil sent)

    pub all_merged : AreMerged by groups (grown by.keys of entries)
    all_merged = subst (AreMerged by groups) (sym (way.grows ∙ ap (grown by.keys way.now) is)) way.are
