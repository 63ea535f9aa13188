-- Groups that are told one after the other.
use Rattle.std.proofs.Common.{◌≡◌, ℕ, ◌+◌, ◌≤◌, Bool, true, false, cond, List, [], ◌∷◌, ◌++◌, map, length, Ok, Err, refl, sym, ap, subst, ◌∙◌, arith, append_assoc, append-nil}
use Rattle.std.specs.Prelude.{Result, IfOk}
use Rattle.std.specs.List.{AllByRecursion}
use Rattle.ct_value.specs.declared.row.Row.{Row}
use Rattle.ct_change.specs.declared.kind.Kind.TheVariants.{I}
use Rattle.ct_change.specs.declared.change.Change.{Change}
use Rattle.ct_change.specs.Changelog.{adds}
use Rattle.rel_algebra.specs.declared.agg.Agg.{Agg}
use Rattle.rel_algebra.specs.GroupedCounts.{in_group}
use Rattle.mini_batch.specs.Held.{Entries}
use Rattle.mini_batch.specs.Groups.{of_group, by_group}
use Rattle.op_rules.specs.Rules.{Answer, appended}
use Rattle.op_rules.specs.declared.operator.OpFault.{OpFault}
use Rattle.op_rules.specs.declared.operator.OpFault.TheVariants.{Range, Memory}
use Rattle.op_rules.specs.Faults.{IfRange}
use Rattle.op_rules.proofs.laws.Histories.{appended-nothing}
use Rattle.emission_rules.specs.Grouping.{answers, groups_of}
use Rattle.phase_rules.specs.LocalGrouping.{members_of, fit_after, told_of, local_answer}
use Rattle.op_local.specs.Amounting.{AreSigned}
use Rattle.op_local.specs.Telling.{MayBeTold, MayAllBeTold, told_along, AreOnTheWay}

pub at_first : (aggs : List Agg) (entries : Entries) → MayAllBeTold aggs entries → AreOnTheWay aggs entries entries []
at_first aggs entries may = record { may = may; told = sym (appended-nothing (told_along aggs entries)) }

told_more : (sent told : List Change) (answer : Answer) → appended (Ok sent) (appended (Ok told) answer) ≡ appended (Ok (sent ++ told)) answer
told_more sent told (Ok more) = ap (λ xs. let r : Answer = Ok xs in r) (sym (append_assoc sent told more))
told_more sent told (Err row) = refl

module _ (aggs : List Agg) (entries left : Entries) (sent : List Change) (way : AreOnTheWay aggs entries left sent) where
  module _ (key : Row) (changes : List Change) (rest : Entries) (is : left ≡ (key, changes) ∷ rest) where
    may_now : MayAllBeTold aggs ((key, changes) ∷ rest)
    may_now = subst (MayAllBeTold aggs) is way.may

    told_now : told_along aggs entries ≡ appended (Ok sent) (appended (local_answer aggs key changes) (told_along aggs rest))
    told_now = way.told ∙ ap (λ l. appended (Ok sent) (told_along aggs l)) is

    pub may_next : MayBeTold aggs changes
    may_next = may_now.0

    pub onward : (told : List Change) → local_answer aggs key changes ≡ Ok told → AreOnTheWay aggs entries rest (sent ++ told)
    onward told e = record {
      may = may_now.1;
      told = told_now ∙ ap (λ a. appended (Ok sent) (appended a (told_along aggs rest))) e ∙ told_more sent told (told_along aggs rest);
    }

    pub out_now : (row : Row) → local_answer aggs key changes ≡ Err row → told_along aggs entries ≡ Err row
    out_now row e = told_now ∙ ap (λ a. appended (Ok sent) (appended a (told_along aggs rest))) e

  pub all_told : left ≡ [] → told_along aggs entries ≡ Ok sent
  all_told is = way.told ∙ ap (λ l. appended (Ok sent) (told_along aggs l)) is ∙ ap (λ xs. let r : Answer = Ok xs in r) (append-nil sent)

-- ---- one group

module _ (aggs : List Agg) (key : Row) (changes : List Change) where
  pub answers_told : (sent : List Change) → fit_after aggs [] changes ≡ true → sent ≡ told_of aggs key changes → local_answer aggs key changes ≡ Ok sent
  answers_told sent fit is = ap (λ b. let r : Answer = cond b (Ok (told_of aggs key changes)) (Err key) in r) fit ∙ ap (λ cs. let r : Answer = Ok cs in r) (sym is)

  pub answers_out : fit_after aggs [] changes ≡ false → local_answer aggs key changes ≡ Err key
  answers_out out = ap (λ b. let r : Answer = cond b (Ok (told_of aggs key changes)) (Err key) in r) out

-- nothing is told, or a row
pub told_none : (silent : Bool) (sent : List Change) (change : Change) → sent ≡ [] → silent ≡ true → sent ≡ cond silent [] (change ∷ [])
told_none silent sent change e is = e ∙ sym (ap (λ b. cond b [] (change ∷ [])) is)

pub told_row : (silent : Bool) (sent earlier : List Change) (change : Change) (row whole : Row) → sent ≡ earlier ++ change ∷ [] → earlier ≡ [] → change ≡ record { kind = I; row = row } → row ≡ whole → silent ≡ false
    → sent ≡ cond silent [] (record { kind = I; row = whole } ∷ [])
told_row silent sent earlier change row whole e none is same is_not =
    let now : Change = record { kind = I; row = whole } in
    let made : change ≡ now = is ∙ ap (λ r. let c : Change = record { kind = I; row = r } in c) same in
    e ∙ (λ i. none i ++ made i ∷ []) ∙ sym (ap (λ b. cond b [] (now ∷ [])) is_not)

-- ---- the groups of changes

module _ (aggs : List Agg) (keys : ℕ) (changes : List Change) where
  abbrev entry : Row → Row × List Change
  entry key = (key, of_group keys key changes)

  along_groups : (groups : List Row) → told_along aggs (map entry groups) ≡ answers (λ key. local_answer aggs key (members_of keys key changes)) groups
  along_groups [] = refl
  along_groups (key ∷ groups) = ap (appended (local_answer aggs key (members_of keys key changes))) (along_groups groups)

  -- what is told of the groups is what is told of the changes
  pub told_by_group : told_along aggs (by_group keys changes) ≡ answers (λ key. local_answer aggs key (members_of keys key changes)) (groups_of keys changes)
  told_by_group = along_groups (groups_of keys changes)

of_own : (P : Change → Type 0) (keys : ℕ) (key : Row) (changes : List Change) → AllByRecursion P changes → AllByRecursion P (of_group keys key changes)
of_own P keys key [] all = tt
of_own P keys key (change ∷ changes) all =
    elim (in_group keys key change.row) as (λ b. AllByRecursion P (cond b (change ∷ of_group keys key changes) (of_group keys key changes))) [
      | true ↦ (all.0, of_own P keys key changes all.1)
      | false ↦ of_own P keys key changes all.1
    ]

fewer : (keys : ℕ) (key : Row) (changes : List Change) → length (of_group keys key changes) ≤ length changes
fewer keys key [] = omega arith
fewer keys key (change ∷ changes) =
    let rest = fewer keys key changes in
    elim (in_group keys key change.row) as (λ b. length (cond b (change ∷ of_group keys key changes) (of_group keys key changes)) ≤ length (change ∷ changes)) [ true ↦ omega (arith, rest) | false ↦ omega (arith, rest) ]

module _ (aggs : List Agg) (keys : ℕ) (changes : List Change) (may : MayBeTold aggs changes) where
  may_each : (groups : List Row) → MayAllBeTold aggs (map (λ key. (key, of_group keys key changes)) groups)
  may_each [] = tt
  may_each (key ∷ groups) = (
    record {
      have = may.have;
      signed = of_own (λ change. adds change.kind ≡ false → AreSigned aggs) keys key changes may.signed;
      few = let less = fewer keys key changes in let few = may.few in omega (arith, less, few);
    },
    may_each groups,
  )

  pub may_by_group : MayAllBeTold aggs (by_group keys changes)
  may_by_group = may_each (groups_of keys changes)

-- ---- faults

-- what follows of the row that is out of range
pub if_range : (T U : Type 0) (fault : OpFault) {P Q : Row → Type 0} → ((row : Row) → P row → Q row) → IfRange {T = T} (Err fault) P → IfRange {T = U} (Err fault) Q
if_range T U (Range row) h p = h row p
if_range T U Memory h p = tt

pub ranges : {T : Type 0} (r : Result T OpFault) {P Q : Row → Type 0} → ((row : Row) → P row → Q row) → IfRange r P → IfRange r Q
ranges (Ok x) h p = tt
ranges (Err (Range row)) h p = h row p
ranges (Err Memory) h p = tt

pub if_ok : {T E : Type 0} (r : Result T E) {P Q : T → Type 0} → ((x : T) → P x → Q x) → IfOk r P → IfOk r Q
if_ok (Ok x) h p = h x p
if_ok (Err x) h p = tt
