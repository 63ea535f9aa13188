use Rattle.std.proofs.Common.{◌≡◌, ◌+◌, ◌&&◌, Option, true, false, IfOk, OnOk, refl, sym, subst, arith, length}
use Rattle.std.specs.Option.{IsSome}
use Rattle.std.specs.BTreeMap.{BTreeMap}
use Rattle.std.proofs.lemmas.Bool.{eq-eqb, ne_eqb}
use Rattle.ct_value.specs.declared.row.Row.{Row}
use Rattle.ct_change.specs.Changelog.{Mode, fold_from}
use Rattle.op_rules.specs.Faults.{IfRange}
use Rattle.emission_rules.specs.Grouping.{members, fits_along, is_counted}
use Rattle.op_group.specs.declared.kept.Kept.{Kept}
use Rattle.op_group.specs.Groups.{grouping, IsGrouped}
use Rattle.op_group.specs.Folding.{ForFolded, IsFolded, MayFoldSome}
use Rattle.op_group.proofs.Shifts.{both_true}
use Rattle.op_group.proofs.Turns.{kept_there, written, written_then_gone}
use Rattle.op_group.proofs.Folds.{may_shift, grouped_anew}
use Rattle.op_group.proofs.fold.fold_group.Goals as goal
use Rattle.op_group.proofs.fold.fold_group.Goals.{then-kept-eq0, else-kept-eq0}

-- a group that isn't there

pub fold_anew-requires : goal.fold_anew-requires
fold_anew-requires g c =
    let input = g.I.ChangeMode.mode c.args.input.now in
    let stands = g.I.InMode.stands_for c.args.input.now c.args.rows.now in (
      c.requires.0,
      subst (λ (m : BTreeMap Row Kept). MayFoldSome c.args.by.now input c.requires.0 stands m c.args.key c.args.changes) (sym c.get_mut.follows.holds-at-none) c.requires.1,
    )

pub returns-in_default-clause-told : goal.returns-in_default-clause-told
returns-in_default-clause-told g c =
    let by = c.args.by.now in
    let input = g.I.ChangeMode.mode c.args.input.now in
    let stands = g.I.InMode.stands_for c.args.input.now c.args.rows.now in
    let key = c.args.key in
    let changes = c.args.changes in
    subst (λ (m : BTreeMap Row Kept). IfOk c.fold_anew.result (λ results. (output : Mode) → ForFolded by input output stands m key changes (λ h stood held. IsFolded h stood key changes results))) c.get_mut.follows.holds-at-none
    c.fold_anew.ensures.told

pub returns-in_default-clause-rows : goal.returns-in_default-clause-rows
returns-in_default-clause-rows g c =
    let by = c.args.by.now in
    let input = g.I.ChangeMode.mode c.args.input.now in
    let stands = g.I.InMode.stands_for c.args.input.now c.args.rows.now in
    let after = g.I.InMode.stands_for c.args.input.now c.fold_anew.new.rows in
    let key = c.args.key in
    let changes = c.args.changes in
    subst (λ (m : BTreeMap Row Kept). OnOk c.fold_anew.result ((output : Mode) → ForFolded by input output stands m key changes (λ h stood held. after (fold_from input stood changes)))) c.get_mut.follows.holds-at-none
    c.fold_anew.ensures.rows

pub returns-in_default-clause-kept : goal.returns-in_default-clause-kept
returns-in_default-clause-kept g c =
    let by = c.args.by.now in
    let input = g.I.ChangeMode.mode c.args.input.now in
    let stands = g.I.InMode.stands_for c.args.input.now c.args.rows.now in
    let key = c.args.key in
    let changes = c.args.changes in
    subst (λ (m : BTreeMap Row Kept). OnOk c.fold_anew.result ((output : Mode) → ForFolded by input output stands m key changes (λ h stood held. IsGrouped by h (fold_from h.input stood changes) c.fold_anew.new.groups (held + length changes)))) c.get_mut.follows.holds-at-none
    c.fold_anew.ensures.kept

pub returns-in_default-clause-range : goal.returns-in_default-clause-range
returns-in_default-clause-range g c =
    let by = c.args.by.now in
    let input = g.I.ChangeMode.mode c.args.input.now in
    let stands = g.I.InMode.stands_for c.args.input.now c.args.rows.now in
    let key = c.args.key in
    let changes = c.args.changes in
    subst (λ (m : BTreeMap Row Kept). IfRange c.fold_anew.result (λ row. (output : Mode) → ForFolded by input output stands m key changes (λ h stood held. (fits_along h key stood changes && is_counted h (fold_from h.input stood changes) key) ≡ false))) c.get_mut.follows.holds-at-none
    c.fold_anew.ensures.range

-- a group that is there

pub fold_kept-requires : goal.fold_kept-requires
fold_kept-requires g c =
    let by = c.args.by.now in
    let output = c.requires.0 in
    let r = c.requires.1 in
    let input = g.I.ChangeMode.mode c.args.input.now in
    let before = kept_there by c.args.groups.now (λ k. members (grouping by input output) k r.0) r.3.grouped.kept c.args.key c.in-Some.kept.now (sym c.in-Some.ensures.value) in
    (by, output, r.0, r.2, may_shift by input output r.0 c.args.groups.now r.1 c.args.key c.args.changes r.3 c.in-Some.kept.now before.0 before.1)

pub returns-clause-told : goal.returns-clause-told
returns-clause-told g c = λ output rows held stands m.
    let by = c.args.by.now in
    let input = g.I.ChangeMode.mode c.args.input.now in
    let h = grouping by input output in
    let before = kept_there by c.args.groups.now (λ k. members h k rows) m.grouped.kept c.args.key c.in-Some.kept.now (sym c.in-Some.ensures.value) in
    let may = may_shift by input output rows c.args.groups.now held c.args.key c.args.changes m c.in-Some.kept.now before.0 before.1 in
    record {
      old = c.in-Ok.ensures.old by output rows stands may;
      fresh = c.in-Ok.ensures.fresh by output rows stands may;
      fine = both_true (fits_along h c.args.key rows c.args.changes) (is_counted h (fold_from input rows c.args.changes) c.args.key) (c.in-Ok.ensures.kept by output rows stands may).fits (c.in-Ok.ensures.counted by output rows stands may);
    }

pub returns-clause-rows : goal.returns-clause-rows
returns-clause-rows g c = λ output rows held stands m.
    let by = c.args.by.now in
    let input = g.I.ChangeMode.mode c.args.input.now in
    let before = kept_there by c.args.groups.now (λ k. members (grouping by input output) k rows) m.grouped.kept c.args.key c.in-Some.kept.now (sym c.in-Some.ensures.value) in
    c.in-Ok.ensures.rows by output rows stands (may_shift by input output rows c.args.groups.now held c.args.key c.args.changes m c.in-Some.kept.now before.0 before.1)

pub returns-clause-kept : goal.returns-clause-kept
returns-clause-kept g c = λ output rows held stands m.
    let by = c.args.by.now in
    let input = g.I.ChangeMode.mode c.args.input.now in
    let key = c.args.key in
    let h = grouping by input output in
    let before = kept_there by c.args.groups.now (λ k. members h k rows) m.grouped.kept key c.in-Some.kept.now (sym c.in-Some.ensures.value) in
    let may = may_shift by input output rows c.args.groups.now held key c.args.changes m c.in-Some.kept.now before.0 before.1 in
    let kept : Kept = c.fold_kept.new.kept in
    let shifted = c.in-Ok.ensures.kept by output rows stands may in
    let counted = c.in-Ok.ensures.counted by output rows stands may in
    let P : Option Kept → Type 0 = λ o. IsSome o in
    let writes = c.get_mut.follows.holds kept in
    let at = (writes.3 (subst P c.in-Some.ensures.value refl)).0 in
    let mid = c.get_mut.follows.lender kept in
    let Q : BTreeMap Row Kept → Type 0 = λ groups. IsGrouped by h (fold_from input rows c.args.changes) groups (held + length c.args.changes) in
    elim c.if-kept-eq0.branch [
      | then-kept-eq0 w ↦
          subst Q (sym w.groups-is)
          (grouped_anew by input output rows c.args.groups.now held key c.args.changes m w.forget.new.groups kept shifted counted
          (written_then_gone key c.args.groups.now mid w.forget.new.groups kept (eq-eqb kept.rows 0 w.if-kept-eq0.true) at w.forget.ensures.gone)
          w.forget.ensures.ordered)
      | else-kept-eq0 w ↦
          subst Q (sym w.groups-is)
          (grouped_anew by input output rows c.args.groups.now held key c.args.changes m mid kept shifted counted
          (written key c.args.groups.now mid kept (ne_eqb kept.rows 0 (λ e. omega (arith, e, w.if-kept-eq0.false))) at)
          writes.4)
    ]

pub returns-in-Err-Out-clause-range : goal.returns-in-Err-Out-clause-range
returns-in-Err-Out-clause-range g c = λ output rows held stands m.
    let by = c.args.by.now in
    let input = g.I.ChangeMode.mode c.args.input.now in
    let before = kept_there by c.args.groups.now (λ k. members (grouping by input output) k rows) m.grouped.kept c.args.key c.in-Some.kept.now (sym c.in-Some.ensures.value) in
    c.in-Err-Out.ensures.out c.in-Err-Out.field-0-is by output rows stands (may_shift by input output rows c.args.groups.now held c.args.key c.args.changes m c.in-Some.kept.now before.0 before.1) (m.grouped.counted c.args.key)
