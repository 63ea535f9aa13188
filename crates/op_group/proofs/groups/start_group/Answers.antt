use Rattle.std.proofs.Common.{subst, option_copied}
use Rattle.ct_change.specs.Emission.{replaced}
use Rattle.op_group.specs.Kept.{IsKept}
use Rattle.op_group.proofs.Shifts.{own_calls}
use Rattle.op_group.proofs.Turns.{absent, kept_after, put_anew}
use Rattle.op_group.proofs.groups.start_group.Goals as goal

pub take_turn-requires-clause-kept : goal.take_turn-requires-clause-kept
take_turn-requires-clause-kept c =
    let by = c.args.by.now in
    let r = c.requires.kept in
    (by.tys, r.0 c.args.key.now, own_calls by.tys by.aggs c.in_ok-kept.kept (r.0 c.args.key.now) (c.in_ok-kept.ensures.kept r.0 r.1).0, r.2, r.3)

pub put_back-requires-clause-absent : goal.put_back-requires-clause-absent
put_back-requires-clause-absent c = rw c.in_ok-own.ensures (absent c.args.groups.now c.take_out.new.groups c.args.key.now c.in_ok-kept.ensures.others)

pub returns-clause-kept : goal.returns-clause-kept
returns-clause-kept c = λ of after all has turned.
    let by = c.args.by.now in
    let gone = option_copied c.args.gone in
    let come = option_copied c.args.come in
    let before = c.in_ok-kept.ensures.kept of all in
    let is = subst (λ aggs. IsKept by.tys aggs c.take_turn.new.kept (replaced (of c.args.key.now) gone come)) before.0.calls_are
    (c.in-Ok.ensures.kept by.tys (of c.args.key.now) (own_calls by.tys by.aggs c.in_ok-kept.kept (of c.args.key.now) before.0) has) in
    kept_after by c.args.key.now of after gone come turned c.args.groups.now c.put_back.new.groups c.take_turn.new.kept all is (λ r. c.in-Ok.ensures.retracts (before.1 r))
    (put_anew c.args.key.now c.args.groups.now c.take_out.new.groups c.put_back.new.groups c.take_turn.new.kept c.in_ok-kept.ensures.others (rw c.in_ok-own.ensures at c.in_ok-put_back.ensures.put)) c.in_ok-put_back.ensures.ordered
