-- What is told of a group whose changes were taken in turn.
use Rattle.std.proofs.Common.{◌≡◌, ◌≢◌, ℕ, ◌&&◌, ◌==◌, ◌++◌, not, Bool, true, false, cond, List, [], ◌∷◌, length, take, Option, Some, None, Ok, Err, refl, sym, ap, subst, ◌∙◌, arith, append-nil}
use Rattle.std.specs.Prelude.{filter, Result, IfOk, OnOk}
use Rattle.std.specs.List.{AllByRecursion}
use Rattle.std.specs.BTreeMap.{BTreeMap}
use Rattle.std.proofs.lemmas.List.{length-take-le}
use Rattle.ct_value.specs.declared.row.Row.{Row}
use Rattle.ct_change.specs.declared.change.Change.{Change}
use Rattle.ct_change.specs.Changelog.{Mode, append, retract, upsert, Rows, same_row, adds, apply, fold_from, IsValidFrom}
use Rattle.ct_change.specs.Emission.{emission, CanTell}
use Rattle.ct_change.proofs.laws.Emissions.{emission-same}
use Rattle.ct_change.proofs.laws.Folds.{append_only}
use Rattle.ct_change.proofs.laws.Meanings.{same_row-itself}
use Rattle.op_rules.specs.Rules.{Answer, appended}
use Rattle.op_rules.specs.declared.operator.OpFault.{OpFault}
use Rattle.op_rules.specs.declared.operator.OpFault.TheVariants.{Range, Memory}
use Rattle.op_rules.specs.Faults.{IfRange}
use Rattle.op_rules.proofs.laws.Histories.{appended-nothing}
use Rattle.emission_rules.specs.Grouping.{Grouping, members, row_count, is_shown, row_of as row_with, group_row, fits_along, is_counted, groups_of, answers, group_emits, TellsGroups, IsSound}
use Rattle.emission_rules.proofs.laws.GroupAnswers.{row_of_group}
use Rattle.emission_rules.proofs.laws.Members.{row_count-members, grows_from}
use Rattle.op_group.specs.declared.kept.Kept.{Kept}
use Rattle.op_group.specs.declared.groups.GroupBy.{GroupBy}
use Rattle.op_group.specs.declared.groups.Results.{Results}
use Rattle.op_group.specs.Groups.{grouping}
use Rattle.op_group.specs.Folding.{AreOf, IsFolded, MayFold}
use Rattle.op_group.proofs.Folds.{longs}
use Rattle.op_group.proofs.Taken.{still_some, row_alone}

all_add : (rows : Rows) (changes : List Change) → IsValidFrom append rows changes → AllByRecursion (λ change. adds change.kind ≡ true) changes
all_add rows [] valid = tt
all_add rows (change ∷ changes) valid = (append_only change.kind valid.0, all_add (apply append rows change) changes valid.1)

none_other : (g : Grouping) (key : Row) (changes : List Change) → AreOf g key changes → filter (λ other. not (same_row key other)) (groups_of g.keys changes) ≡ []
none_other g key [] of = refl
none_other g key (change ∷ changes) of =
    let first : take g.keys change.row ≡ key = of.0.1 in
    let rest : filter (λ other. not (same_row (take g.keys change.row) other)) (groups_of g.keys changes) ≡ [] = ap (λ k. filter (λ other. not (same_row k other)) (groups_of g.keys changes)) first ∙ none_other g key changes of.1 in
    ap (λ l. filter (λ other. not (same_row key other)) (take g.keys change.row ∷ l)) rest
    ∙ ap (λ k. filter (λ other. not (same_row key other)) (k ∷ [])) first
    ∙ ap (λ b. cond (not b) (key ∷ []) []) (same_row-itself key)

answer-alone : (answer : Answer) → appended answer (Ok []) ≡ answer
answer-alone (Ok changes) = ap (λ xs. let r : Answer = Ok xs in r) (append-nil changes)
answer-alone (Err row) = refl

-- what is emitted for changes of one group is what is emitted for the group
pub alone : (g : Grouping) (rows : Rows) (key : Row) (changes : List Change) → AreOf g key changes → is_counted g rows key ≡ true → answers (group_emits g rows changes) (groups_of g.keys changes) ≡ group_emits g rows changes key
alone g rows key [] of counted =
    sym (ap (λ b. let r : Answer = cond b (Ok (emission g.output (group_row g rows key) (group_row g rows key))) (Err key) in r) counted
    ∙ ap (λ xs. let r : Answer = Ok xs in r) (emission-same g.output (group_row g rows key)))
alone g rows key (change ∷ changes) of counted =
    let first : take g.keys change.row ≡ key = of.0.1 in
    let rest : filter (λ other. not (same_row (take g.keys change.row) other)) (groups_of g.keys changes) ≡ [] = ap (λ k. filter (λ other. not (same_row k other)) (groups_of g.keys changes)) first ∙ none_other g key changes of.1 in
    (λ i. answers (group_emits g rows (change ∷ changes)) (first i ∷ rest i)) ∙ answer-alone (group_emits g rows (change ∷ changes) key)

module _ (by : GroupBy) (input output : Mode) (rows : Rows) (groups : BTreeMap Row Kept) (held : ℕ) (key : Row) (changes : List Change) (may : MayFold by (grouping by input output) rows groups held key changes) where
  abbrev g : Grouping
  g = grouping by input output

  abbrev after : Rows
  after = fold_from input rows changes

  sound : IsSound (grouping by input output)
  sound = may.set.0

  says : (b : Bool) → (fits_along g key rows changes && is_counted g after key) ≡ b → group_emits g rows changes key ≡ cond b (Ok (emission output (group_row g rows key) (group_row g after key))) (Err key)
  says b e = ap (λ t. let r : Answer = cond t (Ok (emission output (group_row g rows key) (group_row g after key))) (Err key) in r) e

  pub emits_out : (row : Row) → row ≡ key → (fits_along (grouping by input output) key rows changes && is_counted (grouping by input output) (fold_from input rows changes) key) ≡ false → group_emits (grouping by input output) rows changes key ≡ Err row
  emits_out row is out = says false out ∙ ap (λ k. let r : Answer = Err k in r) (sym is)

  module _ (results : Results) (folded : IsFolded (grouping by input output) rows key changes results) where
    pub emits_folded : (earlier sent : List Change) → sent ≡ earlier ++ emission output results.old results.fresh → appended (Ok earlier) (group_emits (grouping by input output) rows changes key) ≡ Ok sent
    emits_folded earlier sent e = ap (appended (Ok earlier)) (says true folded.fine) ∙ ap (λ xs. let r : Answer = Ok xs in r) (sym (e ∙ (λ i. earlier ++ emission output (folded.old i) (folded.fresh i))))

    -- a group of which nothing came has the row that it had
    is_some_change : results.old ≢ results.fresh → (length key ≡ by.keys)
    is_some_change apart = by_cases changes refl
      where
        by_cases : (l : List Change) → changes ≡ l → length key ≡ by.keys
        by_cases [] e = absurd (apart (folded.old ∙ ap (λ l. group_row g (fold_from input rows l) key) (sym e) ∙ sym folded.fresh))
        by_cases (c ∷ cs) e =
            let of = (subst (AreOf g key) e may.of).0 in
            ap length (sym of.1) ∙ length-take-le by.keys c.row of.0

    can_tell : (mode : Mode) → TellsGroups g mode → results.old ≢ results.fresh → CanTell mode results.old results.fresh
    can_tell append tells apart = stays (is_shown g (members g key rows)) refl
      where
        shown_too : is_shown g (members g key rows) ≡ true → is_shown g (members g key after) ≡ true
        shown_too shown =
            let size = row_count-members g key rows in
            let size_after = row_count-members g key after in
            let adding = all_add rows changes (subst (λ mode. IsValidFrom mode rows changes) tells.1 may.valid) in
            let more = grows_from input by.keys sound.keeps key rows changes may.grouped.wide (longs g key changes may.of) may.valid adding in
            still_some (row_count (members g key rows)) (row_count (members g key after)) (by.keys == 0) (omega arith) shown

        stays : (b : Bool) → is_shown g (members g key rows) ≡ b → results.old ≡ None
        stays true e = absurd (apart (
            folded.old ∙ ap (λ b. cond b (row_with g key (members g key rows)) None) e ∙ row_alone g key (members g key rows) tells.0
            ∙ sym (folded.fresh ∙ ap (λ b. cond b (row_with g key (members g key after)) None) (shown_too e) ∙ row_alone g key (members g key after) tells.0)))
        stays false e = folded.old ∙ ap (λ b. cond b (row_with g key (members g key rows)) None) e
    can_tell retract tells apart = tt
    can_tell (upsert columns) tells apart = go results.old results.fresh folded.old folded.fresh
      where
        named : length key ≡ by.keys
        named = is_some_change apart

        go : (old fresh : Option Row) → old ≡ group_row g rows key → fresh ≡ group_row g after key → CanTell (upsert columns) old fresh
        go None fresh p q = tt
        go (Some old) None p q = tt
        go (Some old) (Some fresh) p q =
            let a = row_of_group g key (members g key rows) old named (sym p) in
            let b = row_of_group g key (members g key after) fresh named (sym q) in
            (tells old fresh a.1 b.1).1 (a.0 ∙ sym b.0)

    pub can_after : results.old ≢ results.fresh → CanTell output results.old results.fresh
    can_after apart = can_tell output sound.tells apart

-- what follows of the row that is out of range, by two facts of it
pub if_ranges : (T U : Type 0) (fault : OpFault) {P Q R : Row → Type 0} → ((row : Row) → P row → Q row → R row) → IfRange {T = T} (Err fault) P → IfRange {T = T} (Err fault) Q → IfRange {T = U} (Err fault) R
if_ranges T U (Range row) h p q = h row p q
if_ranges T U Memory h p q = tt

pub no_less : {P : Type 0} → true ≡ false → P
no_less e = absurd (cc)

-- ---- what follows of a result

pub if_ok : {T E : Type 0} (r : Result T E) {P Q : T → Type 0} → ((x : T) → P x → Q x) → IfOk r P → IfOk r Q
if_ok (Ok x) h p = h x p
if_ok (Err x) h p = tt

pub on_ok : {T E : Type 0} (r : Result T E) {P Q : Type 0} → (P → Q) → OnOk r P → OnOk r Q
on_ok (Ok x) h p = h p
on_ok (Err x) h p = tt

pub ranges : {T : Type 0} (r : Result T OpFault) {P Q : Row → Type 0} → ((row : Row) → P row → Q row) → IfRange r P → IfRange r Q
ranges (Ok x) h p = tt
ranges (Err (Range row)) h p = h row p
ranges (Err Memory) h p = tt

-- what stands behind nothing is all
pub behind_none : (answer : Answer) (none sent : List Change) → none ≡ [] → appended (Ok none) answer ≡ Ok sent → answer ≡ Ok sent
behind_none answer none sent is e = sym (appended-nothing answer) ∙ ap (λ xs. appended (Ok xs) answer) (sym is) ∙ e
