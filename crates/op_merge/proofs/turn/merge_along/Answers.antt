use Rattle.std.proofs.Common.{◌≡◌, ◌++◌, ◌∷◌, [], true, false, sym, ap, subst, ◌∙◌, arith, append-nil, drop, take, refl}
use Rattle.std.proofs.lemmas.List.{take_all}
use Rattle.phase_rules.specs.Merging.{within_after}
use Rattle.op_merge.specs.Kept.{IsKept, is_within}
use Rattle.op_merge.specs.Groups.{amounts_of}
use Rattle.op_merge.proofs.Along.{kept_more, within_more, past_at}
use Rattle.op_merge.proofs.turn.merge_along.Goals as goal

pub loop-change-init : goal.loop-change-init
loop-change-init c = λ g rows kept. (subst (IsKept g c.args.kept.now) (sym (append-nil rows)) kept, refl)

pub loop-change-preserved : goal.loop-change-preserved
loop-change-preserved c = λ g rows kept.
    let inv = c.loop-change.invariant g rows kept in
    let n = c.loop-change.change-index in
    let changes = c.args.changes.now in
    let row = c.behind.ensures ∙ ap (λ r. drop c.args.keys r) c.as_slice.ensures in (
      kept_more g c.args.keys rows n changes c.change-item.result (omega arith) c.change-item.is c.merge.new.self (subst (λ r. IsKept g c.merge.new.self ((rows ++ amounts_of c.args.keys (take n changes)) ++ r ∷ [])) row (c.in_default.ensures.kept g (rows ++ amounts_of c.args.keys (take n changes)) inv.0)),
      within_more g c.args.keys rows n changes c.change-item.result (omega arith) c.change-item.is inv.1 (subst (λ r. is_within g ((rows ++ amounts_of c.args.keys (take n changes)) ++ r ∷ []) ≡ true) row (c.in_default.ensures.within g (rows ++ amounts_of c.args.keys (take n changes)) inv.0)),
    )

pub returns-in-Err-clause-out : goal.returns-in-Err-clause-out
returns-in-Err-clause-out c = λ out g rows kept.
    let inv = c.loop-change.invariant g rows kept in
    let n = c.loop-change.change-index in
    let changes = c.args.changes.now in
    let row = c.behind.ensures ∙ ap (λ r. drop c.args.keys r) c.as_slice.ensures in
    past_at g c.args.keys rows n changes c.change-item.result (omega arith) c.change-item.is (subst (λ r. is_within g ((rows ++ amounts_of c.args.keys (take n changes)) ++ r ∷ []) ≡ false) row (c.in-Err.ensures.out out g (rows ++ amounts_of c.args.keys (take n changes)) inv.0))

pub returns-clause-kept : goal.returns-clause-kept
returns-clause-kept c = λ g rows kept. subst (λ l. IsKept g c.loop-change.kept (rows ++ amounts_of c.args.keys l)) (take_all c.loop-change.change-index c.args.changes.now (omega arith)) (c.loop-change.invariant g rows kept).0

pub returns-clause-within : goal.returns-clause-within
returns-clause-within c = λ g rows kept. subst (λ l. within_after g rows (amounts_of c.args.keys l) ≡ true) (take_all c.loop-change.change-index c.args.changes.now (omega arith)) (c.loop-change.invariant g rows kept).1
