use Rattle.std.proofs.Common.{◌≡◌, ◌∙◌, true, false, Ok, Err, sym, ap, subst, option_copied}
use Rattle.std.specs.Prelude.{IfErr, OnOk, Result}
use Rattle.ct_change.specs.declared.change.Diff.{Diff}
use Rattle.ct_change.specs.Emission.{difference, row_of, replaced}
use Rattle.emission_rules.specs.Grouping.{members}
use Rattle.op_group.specs.Kept.{HasRow, IsKept, all_fit}
use Rattle.op_group.specs.Groups.{grouping}
use Rattle.op_group.proofs.Folds.{one_comes, one_has, one_room, one_out, one_shifted}
use Rattle.op_group.proofs.Shifts.{own_calls}
use Rattle.op_group.proofs.fold.shift_one.Goals as goal

pub shift-requires-clause-kept : goal.shift-requires-clause-kept
shift-requires-clause-kept g c =
    let key = c.requires.0 in
    let m = c.requires.1 in
    let input = g.I.ChangeMode.mode c.args.input.now in
    let d = (c.in_ok-diff.ensures.ok m.2 m.3 (one_comes m.0 input m.1 m.2 c.args.kept.now key c.args.change m.4)).0 in
    let gone = c.row_of.ensures ∙ ap (λ (x : Diff). row_of x.gone) d in (
      (m.0).tys,
      members (grouping m.0 input m.1) key m.2,
      own_calls (m.0).tys (m.0).aggs c.args.kept.now (members (grouping m.0 input m.1) key m.2) (m.4).is,
      subst (HasRow (members (grouping m.0 input m.1) key m.2)) (sym gone) (one_has m.0 input m.1 m.2 c.args.kept.now key c.args.change m.4),
      one_room m.0 input m.1 m.2 c.args.kept.now key c.args.change m.4,
    )

-- what an Ok and an Err say
all_ok : {T E : Type 0} (r : Result T E) {P Q R S : Type 0} → (P → Q → R → S) → OnOk r P → OnOk r Q → OnOk r R → OnOk r S
all_ok (Ok x) f p q s = f p q s
all_ok (Err x) f p q s = tt

err_of : {T E : Type 0} (r : Result T E) {P Q : E → Type 0} → ((e : E) → P e → Q e) → IfErr r P → IfErr r Q
err_of (Ok x) f p = tt
err_of (Err x) f p = f x p

pub returns-clause-kept : goal.returns-clause-kept
returns-clause-kept g c =
    let input = g.I.ChangeMode.mode c.args.input.now in
    let gone = option_copied c.row_of.result in
    let come = option_copied c.row_of-2.result in
    all_ok c.shift.result
    (λ kept fits_on retracts key by output rows stands may.
    let d = (c.in_ok-diff.ensures.ok rows stands (one_comes by input output rows c.args.kept.now key c.args.change may)).0 in
    let gone_is = c.row_of.ensures ∙ ap (λ (x : Diff). row_of x.gone) d in
    let come_is = c.row_of-2.ensures ∙ ap (λ (x : Diff). row_of x.come) d in
    let m = members (grouping by input output) key rows in
    let is = own_calls by.tys by.aggs c.args.kept.now m may.is in
    let has = subst (HasRow m) (sym gone_is) (one_has by input output rows c.args.kept.now key c.args.change may) in
    let after : replaced m gone come ≡ replaced m (row_of (difference input rows c.args.change).gone) (row_of (difference input rows c.args.change).come) = λ i. replaced m (gone_is i) (come_is i) in
    let now = subst (λ aggs. IsKept by.tys aggs c.shift.new.self (replaced m gone come)) may.is.calls_are (kept by.tys m is has) in
    let fits = subst (λ aggs. all_fit by.tys aggs m ≡ true → all_fit by.tys aggs (replaced m gone come) ≡ true) may.is.calls_are (fits_on by.tys m is has) may.fits in
    one_shifted by input output rows c.args.kept.now key c.args.change may c.shift.new.self (subst (IsKept by.tys by.aggs c.shift.new.self) after now) (sym (ap (all_fit by.tys by.aggs) after) ∙ fits) retracts)
    c.shift.ensures.kept c.shift.ensures.fits c.shift.ensures.retracts

pub returns-clause-out : goal.returns-clause-out
returns-clause-out g c =
    let input = g.I.ChangeMode.mode c.args.input.now in
    let gone = option_copied c.row_of.result in
    let come = option_copied c.row_of-2.result in
    err_of c.shift.result
    (λ fault unfit out key by output rows stands may.
    let d = (c.in_ok-diff.ensures.ok rows stands (one_comes by input output rows c.args.kept.now key c.args.change may)).0 in
    let gone_is = c.row_of.ensures ∙ ap (λ (x : Diff). row_of x.gone) d in
    let come_is = c.row_of-2.ensures ∙ ap (λ (x : Diff). row_of x.come) d in
    let m = members (grouping by input output) key rows in
    let is = own_calls by.tys by.aggs c.args.kept.now m may.is in
    let has = subst (HasRow m) (sym gone_is) (one_has by input output rows c.args.kept.now key c.args.change may) in
    let after : replaced m gone come ≡ replaced m (row_of (difference input rows c.args.change).gone) (row_of (difference input rows c.args.change).come) = λ i. replaced m (gone_is i) (come_is i) in
    one_out by input output rows c.args.kept.now key c.args.change may
    (sym (ap (all_fit by.tys by.aggs) after) ∙ subst (λ aggs. all_fit by.tys aggs (replaced m gone come) ≡ false) may.is.calls_are (unfit out by.tys m is has)))
    c.shift.ensures.out
