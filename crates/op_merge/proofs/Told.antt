-- What is told of a group whose partial rows were merged.
use Rattle.std.proofs.Common.{◌≡◌, ◌≤◌, ◌==◌, ◌&&◌, ◌++◌, Bool, true, false, cond, List, length, take, Option, Some, None, Ok, Err, sym, ap, subst, ◌∙◌, arith}
use Rattle.std.specs.Prelude.{Result, IfOk, OnOk, option_map, unsigned_abs}
use Rattle.ct_value.specs.Order.{number_of}
use Rattle.ct_value.specs.declared.row.Row.{Row}
use Rattle.ct_value.specs.declared.value.Value.{Value}
use Rattle.ct_field.specs.Typed.{cell}
use Rattle.ct_change.specs.declared.change.Change.{Change}
use Rattle.ct_change.specs.Changelog.{Mode, append, retract, upsert}
use Rattle.ct_change.specs.Emission.{emission, CanTell}
use Rattle.op_rules.specs.Faults.{IfRange}
use Rattle.op_rules.specs.Rules.{Answer, appended}
use Rattle.op_rules.specs.declared.operator.OpFault.{OpFault}
use Rattle.op_rules.specs.declared.operator.OpFault.TheVariants.{Range, Memory}
use Rattle.emission_rules.proofs.laws.GroupAnswers.{take-front, length-front}
use Rattle.phase_rules.specs.LocalGrouping.{LocalGrouping}
use Rattle.phase_rules.specs.Merging.{Merging, merged, merge_answer, results_from, row_from, within_after}
use Rattle.op_merge.specs.declared.groups.Results.{Results}
use Rattle.op_merge.specs.Kept.{has_results}
use Rattle.op_merge.specs.Groups.{CanMerge, IsTold, TellsMerged}

module _ (m : Merging) (key : Row) (earlier rows : List (List Value)) where
  says : (b : Bool) → (within_after m.local earlier rows && has_results m.local (earlier ++ rows)) ≡ b
      → merge_answer m key earlier rows ≡ cond b (Ok (emission m.output (row_from m.local key (merged m.local.aggs earlier)) (row_from m.local key (merged m.local.aggs (earlier ++ rows))))) (Err key)
  says b e = ap (λ t. let r : Answer = cond t (Ok (emission m.output (row_from m.local key (merged m.local.aggs earlier)) (row_from m.local key (merged m.local.aggs (earlier ++ rows))))) (Err key) in r) e

  pub answer_out : (row : Row) → row ≡ key → (within_after m.local earlier rows && has_results m.local (earlier ++ rows)) ≡ false → merge_answer m key earlier rows ≡ Err row
  answer_out row is out = says false out ∙ ap (λ k. let r : Answer = Err k in r) (sym is)

  pub answer_told : (results : Results) → IsTold m.local key earlier rows results → (before sent : List Change) → sent ≡ before ++ emission m.output results.old results.fresh → appended (Ok before) (merge_answer m key earlier rows) ≡ Ok sent
  answer_told results told before sent e = ap (appended (Ok before)) (says true told.fine) ∙ ap (λ xs. let r : Answer = Ok xs in r) (sym (e ∙ (λ i. before ++ emission m.output (told.old i) (told.fresh i))))

-- a group's row begins with its key
row_named : (l : LocalGrouping) (key : Row) (amounts : List Value) (row : Row) → length key ≡ l.keys → row_from l key amounts ≡ Some row → (take l.keys row ≡ key) × (l.keys ≤ length row)
row_named l key amounts row named e =
    elim (unsigned_abs (number_of (cell 0 amounts)) == 0) as (λ b. cond b None (option_map (λ values. key ++ values) (results_from l.columns l.aggs amounts)) ≡ Some row → (take l.keys row ≡ key) × (l.keys ≤ length row)) [
      | true ↦ λ q. absurd (cc)
      | false ↦ λ q. go (results_from l.columns l.aggs amounts) q
    ] e
  where
    go : (o : Option Row) → option_map (λ values. key ++ values) o ≡ Some row → (take l.keys row ≡ key) × (l.keys ≤ length row)
    go None q = absurd (cc)
    go (Some values) q =
        let is : key ++ values ≡ row = cc in
        (ap (take l.keys) (sym is) ∙ take-front l.keys key values named, subst (λ r. l.keys ≤ length r) is (let f = length-front key values in omega arith))

pub can_tell : (m : Merging) → CanMerge m → (key : Row) (earlier rows : List (List Value)) (results : Results) → length key ≡ m.local.keys → IsTold m.local key earlier rows results → CanTell m.output results.old results.fresh
can_tell m can key earlier rows results named told = go m.output can.tells
  where
    go : (mode : Mode) → TellsMerged m mode → CanTell mode results.old results.fresh
    go append tells = absurd tells
    go retract tells = tt
    go (upsert columns) tells = both results.old results.fresh told.old told.fresh
      where
        both : (old fresh : Option Row) → old ≡ row_from m.local key (merged m.local.aggs earlier) → fresh ≡ row_from m.local key (merged m.local.aggs (earlier ++ rows)) → CanTell (upsert columns) old fresh
        both None fresh p q = tt
        both (Some old) None p q = tt
        both (Some old) (Some fresh) p q =
            let a = row_named m.local key (merged m.local.aggs earlier) old named (sym p) in
            let b = row_named m.local key (merged m.local.aggs (earlier ++ rows)) fresh named (sym q) in
            (tells old fresh a.1 b.1).1 (a.0 ∙ sym b.0)

-- ---- what follows of a result

pub if_ok : {T E : Type 0} (r : Result T E) {P Q : T → Type 0} → ((x : T) → P x → Q x) → IfOk r P → IfOk r Q
if_ok (Ok x) h p = h x p
if_ok (Err x) h p = tt

pub on_ok : {T E : Type 0} (r : Result T E) {P Q : Type 0} → (P → Q) → OnOk r P → OnOk r Q
on_ok (Ok x) h p = h p
on_ok (Err x) h p = tt

pub ranges : {T : Type 0} (r : Result T OpFault) {P Q : Row → Type 0} → ((row : Row) → P row → Q row) → IfRange r P → IfRange r Q
ranges (Ok x) h p = tt
ranges (Err (Range row)) h p = h row p
ranges (Err Memory) h p = tt

pub if_range : (T U : Type 0) (fault : OpFault) {P Q : Row → Type 0} → ((row : Row) → P row → Q row) → IfRange {T = T} (Err fault) P → IfRange {T = U} (Err fault) Q
if_range T U (Range row) h p = h row p
if_range T U Memory h p = tt

pub if_ranges : (T U : Type 0) (fault : OpFault) {P Q R : Row → Type 0} → ((row : Row) → P row → Q row → R row) → IfRange {T = T} (Err fault) P → IfRange {T = T} (Err fault) Q → IfRange {T = U} (Err fault) R
if_ranges T U (Range row) h p q = h row p q
if_ranges T U Memory h p q = tt
