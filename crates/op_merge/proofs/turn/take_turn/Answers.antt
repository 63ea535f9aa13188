use Rattle.std.proofs.Common.{◌≡◌, ◌++◌, true, false, subst}
use Rattle.std.proofs.lemmas.Bool.{and_from, and_left, and_right}
use Rattle.phase_rules.specs.Merging.{within_after}
use Rattle.op_merge.specs.Kept.{IsKept, has_results}
use Rattle.op_merge.specs.Groups.{amounts_of}
use Rattle.op_merge.proofs.turn.take_turn.Goals as goal

pub row-requires : goal.row-requires
row-requires c = let r = c.requires in (r.0, r.1 ++ amounts_of c.args.keys c.as_slice.result.now, c.in_default.ensures.kept r.0 r.1 r.2)

pub returns-in-Ok-clause-kept : goal.returns-in-Ok-clause-kept
returns-in-Ok-clause-kept c = λ l rows is. subst (λ cs. IsKept l c.merge_along.new.kept (rows ++ amounts_of c.args.keys cs)) c.as_slice.ensures (c.in_default.ensures.kept l rows is)

pub returns-in-Ok-clause-told : goal.returns-in-Ok-clause-told
returns-in-Ok-clause-told c = λ l rows is.
    let more = amounts_of c.args.keys c.args.changes.now in
    let now = subst (λ cs. IsKept l c.merge_along.new.kept (rows ++ amounts_of c.args.keys cs)) c.as_slice.ensures (c.in_default.ensures.kept l rows is) in
    record {
      old = c.in_ok-old.ensures l rows is;
      fresh = c.in-Ok.ensures.row l (rows ++ more) now;
      fine = and_from (within_after l rows more) (has_results l (rows ++ more)) (subst (λ cs. within_after l rows (amounts_of c.args.keys cs) ≡ true) c.as_slice.ensures (c.in_default.ensures.within l rows is)) (c.in-Ok.ensures.results l (rows ++ more) now);
    }

pub returns-in-Err-clause-out : goal.returns-in-Err-clause-out
returns-in-Err-clause-out c = λ out l rows is.
    let more = amounts_of c.args.keys c.args.changes.now in
    and_left (within_after l rows more) (has_results l (rows ++ more)) (subst (λ cs. within_after l rows (amounts_of c.args.keys cs) ≡ false) c.as_slice.ensures (c.in-Err.ensures.out out l rows is))

pub returns-in-Err-row-clause-out : goal.returns-in-Err-row-clause-out
returns-in-Err-row-clause-out c = λ out l rows is.
    let more = amounts_of c.args.keys c.args.changes.now in
    let now = subst (λ cs. IsKept l c.merge_along.new.kept (rows ++ amounts_of c.args.keys cs)) c.as_slice.ensures (c.in_default.ensures.kept l rows is) in
    and_right (within_after l rows more) (has_results l (rows ++ more)) (c.in-Err-row.ensures.out out l (rows ++ more) now)
