use Rattle.std.proofs.Common.{◌≡◌, ◌&&◌, ◌++◌, Option, false, IfOk, OnOk, refl, sym, ap, subst, ◌∙◌}
use Rattle.std.specs.Option.{IsSome}
use Rattle.std.specs.BTreeMap.{BTreeMap, get}
use Rattle.ct_value.specs.Order.{row_cmp}
use Rattle.ct_value.specs.declared.row.Row.{Row}
use Rattle.op_rules.specs.Faults.{IfRange}
use Rattle.phase_rules.specs.Merging.{within_after}
use Rattle.op_merge.specs.declared.kept.Kept.{Kept}
use Rattle.op_merge.specs.Kept.{has_results, is_nothing}
use Rattle.op_merge.specs.Groups.{Amounts, AreMerged, IsTold, amounts_of, local_of, with_more}
use Rattle.op_merge.proofs.Turns.{kept_there, merged_after, written, written_then_gone}
use Rattle.op_merge.proofs.groups.merge_group.Goals as goal
use Rattle.op_merge.proofs.groups.merge_group.Goals.{then-blank, else-blank}

-- a group that isn't there

pub merge_anew-requires-clause-are : goal.merge_anew-requires-clause-are
merge_anew-requires-clause-are c = let r = c.requires.are in (r.0, subst (λ (m : BTreeMap Row Kept). AreMerged c.args.by.now m r.0) (sym c.get_mut.follows.holds-at-none) r.1)

pub merge_anew-requires-clause-absent : goal.merge_anew-requires-clause-absent
merge_anew-requires-clause-absent c = ap (λ (m : BTreeMap Row Kept). get row_cmp m c.args.key) c.get_mut.follows.holds-at-none ∙ sym c.in_default.ensures.value

pub returns-in_default-clause-told : goal.returns-in_default-clause-told
returns-in_default-clause-told c =
    let by = c.args.by.now in
    let more = amounts_of by.keys c.args.changes.now in
    subst (λ (m : BTreeMap Row Kept). IfOk c.merge_anew.result (λ results. (of : Amounts) → AreMerged by m of → IsTold (local_of by) c.args.key (of c.args.key) more results)) c.get_mut.follows.holds-at-none c.merge_anew.ensures.told

pub returns-in_default-clause-kept : goal.returns-in_default-clause-kept
returns-in_default-clause-kept c =
    let by = c.args.by.now in
    let more = amounts_of by.keys c.args.changes.now in
    subst (λ (m : BTreeMap Row Kept). OnOk c.merge_anew.result ((of : Amounts) → AreMerged by m of → AreMerged by c.merge_anew.new.groups (with_more of c.args.key more))) c.get_mut.follows.holds-at-none c.merge_anew.ensures.kept

pub returns-in_default-clause-range : goal.returns-in_default-clause-range
returns-in_default-clause-range c =
    let by = c.args.by.now in
    let more = amounts_of by.keys c.args.changes.now in
    subst (λ (m : BTreeMap Row Kept). IfRange c.merge_anew.result (λ row. (of : Amounts) → AreMerged by m of → (within_after (local_of by) (of c.args.key) more && has_results (local_of by) (of c.args.key ++ more)) ≡ false)) c.get_mut.follows.holds-at-none c.merge_anew.ensures.range

-- a group that is there

pub take_turn-requires : goal.take_turn-requires
take_turn-requires c =
    let by = c.args.by.now in
    let r = c.requires.are in
    (local_of by, r.0 c.args.key, kept_there by c.args.groups.now r.0 r.1 c.args.key c.in-Some.kept.now (sym c.in-Some.ensures.value))

pub returns-clause-told : goal.returns-clause-told
returns-clause-told c = λ of are.
    let by = c.args.by.now in
    c.in-Ok.ensures.told (local_of by) (of c.args.key) (kept_there by c.args.groups.now of are c.args.key c.in-Some.kept.now (sym c.in-Some.ensures.value))

pub returns-clause-kept : goal.returns-clause-kept
returns-clause-kept c = λ of are.
    let by = c.args.by.now in
    let key = c.args.key in
    let l = local_of by in
    let more = amounts_of by.keys c.args.changes.now in
    let kept : Kept = c.take_turn.new.kept in
    let is = c.in-Ok.ensures.kept l (of key) (kept_there by c.args.groups.now of are key c.in-Some.kept.now (sym c.in-Some.ensures.value)) in
    let P : Option Kept → Type 0 = λ o. IsSome o in
    let writes = c.get_mut.follows.holds kept in
    let at = (writes.3 (subst P c.in-Some.ensures.value refl)).0 in
    let mid = c.get_mut.follows.lender kept in
    let tested = c.is_blank-blank.ensures l (of key ++ more) is in
    elim c.if-blank.branch [
      | then-blank w ↦
          subst (λ (m : BTreeMap Row Kept). AreMerged by m (with_more of key more)) (sym w.groups-is)
          (merged_after by of key more c.args.groups.now w.forget.new.groups kept are is
          (written_then_gone key c.args.groups.now mid w.forget.new.groups kept (is_nothing l (of key ++ more)) (sym tested ∙ w.if-blank.true) at w.forget.ensures.gone)
          w.forget.ensures.ordered)
      | else-blank w ↦
          subst (λ (m : BTreeMap Row Kept). AreMerged by m (with_more of key more)) (sym w.groups-is)
          (merged_after by of key more c.args.groups.now mid kept are is
          (written key c.args.groups.now mid kept (is_nothing l (of key ++ more)) (sym tested ∙ w.if-blank.false) at)
          writes.4)
    ]

pub returns-in-Err-Out-clause-range : goal.returns-in-Err-Out-clause-range
returns-in-Err-Out-clause-range c = λ of are.
    let by = c.args.by.now in
    c.in-Err-Out.ensures.out c.in-Err-Out.field-0-is (local_of by) (of c.args.key) (kept_there by c.args.groups.now of are c.args.key c.in-Some.kept.now (sym c.in-Some.ensures.value))
