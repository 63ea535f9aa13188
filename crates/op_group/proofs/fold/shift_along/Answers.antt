use Rattle.std.proofs.Common.{◌≡◌, ◌∷◌, ◌∙◌, [], List, sym, ap, subst}
use Rattle.std.proofs.lemmas.List.{map-id}
use Rattle.std.proofs.lemmas.Iterator.Adapters.{YieldsList-from_vec}
use Rattle.std.proofs.lemmas.Iterator.Consumers.{YieldsList-so_far, YieldsList-turn, YieldsList-end}
use Rattle.ct_change.specs.declared.change.Change.{Change}
use Rattle.ct_change.specs.Changelog.{Rows, fold_from}
use Rattle.ct_change.proofs.laws.Folds.{fold_from-append}
use Rattle.emission_rules.specs.Grouping.{fits_along}
use Rattle.op_group.specs.Folding.{HasShiftedAlong, MayShiftAlong}
use Rattle.op_group.specs.Groups.{grouping}
use Rattle.op_group.proofs.Folds.{split_at, may_next, has_next, out_next}
use Rattle.op_group.proofs.fold.shift_along.Goals as goal

pub shift_one-requires : goal.shift_one-requires
shift_one-requires g c =
    let key = c.requires.0 in
    let m = c.requires.1 in
    let input = g.I.ChangeMode.mode c.args.input.now in
    let xs = c.loop-change.yielded in
    let x = c.in-Some.change in
    let gives = c.into_iter-change-iterator.ensures.into_iter_gives in
    let road = YieldsList-from_vec c.args.changes gives.0 gives.1 in
    let t = YieldsList-turn road xs c.loop-change.change-iterator c.loop-change.yielded_by c.next.result c.next.new.self x c.in-Some.is c.next.ensures.steps in
    let s = split_at c.args.changes xs x (YieldsList-so_far road xs c.loop-change.change-iterator c.loop-change.yielded_by) t.0 t.1 in
    let may = subst (λ (l : List Change). MayShiftAlong (grouping m.0 input m.1) m.2 c.args.kept.now key l) s.1 m.4 in (
      key,
      (
        m.0,
        m.1,
        fold_from input m.2 xs,
        c.loop-change.invariant.rows key m.0 m.1 m.2 m.3 m.4,
        may_next (grouping m.0 input m.1) m.2 key xs x s.0 c.args.kept.now c.loop-change.kept may (c.loop-change.invariant.kept key m.0 m.1 m.2 m.3 m.4),
      ),
    )

pub loop-change-preserved : goal.loop-change-preserved
loop-change-preserved g c =
    let input = g.I.ChangeMode.mode c.args.input.now in
    let xs = c.loop-change.yielded in
    let x = c.in-Some.change in
    let gives = c.into_iter-change-iterator.ensures.into_iter_gives in
    let road = YieldsList-from_vec c.args.changes gives.0 gives.1 in
    let t = YieldsList-turn road xs c.loop-change.change-iterator c.loop-change.yielded_by c.next.result c.next.new.self x c.in-Some.is c.next.ensures.steps in
    let s = split_at c.args.changes xs x (YieldsList-so_far road xs c.loop-change.change-iterator c.loop-change.yielded_by) t.0 t.1 in
    record {
      rows = λ key by output rows stands m.
          let may = subst (λ (l : List Change). MayShiftAlong (grouping by input output) rows c.args.kept.now key l) s.1 m in
          let shifted = c.loop-change.invariant.kept key by output rows stands m in
          let next = may_next (grouping by input output) rows key xs x s.0 c.args.kept.now c.loop-change.kept may shifted in
          let now = c.in_default.ensures.rows key by output (fold_from input rows xs) (c.loop-change.invariant.rows key by output rows stands m) next in
          subst (λ (r : Rows). g.I.InMode.stands_for c.args.input.now c.shift_one.new.rows r) (sym (fold_from-append input rows xs (x ∷ []))) now;
      kept = λ key by output rows stands m.
          let may = subst (λ (l : List Change). MayShiftAlong (grouping by input output) rows c.args.kept.now key l) s.1 m in
          let shifted = c.loop-change.invariant.kept key by output rows stands m in
          let next = may_next (grouping by input output) rows key xs x s.0 c.args.kept.now c.loop-change.kept may shifted in
          has_next (grouping by input output) rows key xs x s.0 c.args.kept.now c.loop-change.kept may shifted c.shift_one.new.kept
          (c.in_default.ensures.kept key by output (fold_from input rows xs) (c.loop-change.invariant.rows key by output rows stands m) next);
    }

pub returns-in-Err-clause-out : goal.returns-in-Err-clause-out
returns-in-Err-clause-out g c = λ out key by output rows stands m.
    let input = g.I.ChangeMode.mode c.args.input.now in
    let xs = c.loop-change.yielded in
    let x = c.in-Some.change in
    let gives = c.into_iter-change-iterator.ensures.into_iter_gives in
    let road = YieldsList-from_vec c.args.changes gives.0 gives.1 in
    let t = YieldsList-turn road xs c.loop-change.change-iterator c.loop-change.yielded_by c.next.result c.next.new.self x c.in-Some.is c.next.ensures.steps in
    let s = split_at c.args.changes xs x (YieldsList-so_far road xs c.loop-change.change-iterator c.loop-change.yielded_by) t.0 t.1 in
    let may = subst (λ (l : List Change). MayShiftAlong (grouping by input output) rows c.args.kept.now key l) s.1 m in
    let shifted = c.loop-change.invariant.kept key by output rows stands m in
    let next = may_next (grouping by input output) rows key xs x s.0 c.args.kept.now c.loop-change.kept may shifted in
    ap (λ (l : List Change). fits_along (grouping by input output) key rows l) s.1
    ∙ out_next (grouping by input output) rows key xs x s.0 c.args.kept.now c.loop-change.kept may shifted
    (c.in-Err.ensures.out out key by output (fold_from input rows xs) (c.loop-change.invariant.rows key by output rows stands m) next)

pub returns-clause-rows : goal.returns-clause-rows
returns-clause-rows g c = λ key by output rows stands m.
    let input = g.I.ChangeMode.mode c.args.input.now in
    let gives = c.into_iter-change-iterator.ensures.into_iter_gives in
    let all = YieldsList-end (YieldsList-from_vec c.args.changes gives.0 gives.1) c.loop-change.yielded c.loop-change.change-iterator c.loop-change.yielded_by c.next.result c.next.new.self c.in-None.is c.next.ensures.steps in
    let is : c.loop-change.yielded ≡ c.args.changes = sym (map-id c.loop-change.yielded) ∙ all.0 in
    subst (λ (l : List Change). g.I.InMode.stands_for c.args.input.now c.loop-change.rows (fold_from input rows l)) is (c.loop-change.invariant.rows key by output rows stands m)

pub returns-clause-kept : goal.returns-clause-kept
returns-clause-kept g c = λ key by output rows stands m.
    let input = g.I.ChangeMode.mode c.args.input.now in
    let gives = c.into_iter-change-iterator.ensures.into_iter_gives in
    let all = YieldsList-end (YieldsList-from_vec c.args.changes gives.0 gives.1) c.loop-change.yielded c.loop-change.change-iterator c.loop-change.yielded_by c.next.result c.next.new.self c.in-None.is c.next.ensures.steps in
    let is : c.loop-change.yielded ≡ c.args.changes = sym (map-id c.loop-change.yielded) ∙ all.0 in
    subst (λ (l : List Change). HasShiftedAlong (grouping by input output) rows c.loop-change.kept key l) is (c.loop-change.invariant.kept key by output rows stands m)
