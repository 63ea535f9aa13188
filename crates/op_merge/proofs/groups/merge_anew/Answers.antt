use Rattle.std.proofs.Common.{◌++◌, refl}
use Rattle.op_merge.specs.Groups.{amounts_of, local_of}
use Rattle.op_merge.proofs.Turns.{kept_anew, merged_after}
use Rattle.op_merge.proofs.groups.merge_anew.Goals as goal

pub take_turn-requires : goal.take_turn-requires
take_turn-requires c =
    let by = c.args.by.now in
    let r = c.requires.are in
    (local_of by, r.0 c.args.key, kept_anew by c.args.groups.now r.0 r.1 c.args.key c.in_ok-kept.kept c.requires.absent (c.in_ok-kept.ensures (local_of by) refl refl))

pub put_in-requires-clause-ordered : goal.put_in-requires-clause-ordered
put_in-requires-clause-ordered c = c.requires.are.1.ordered

pub returns-clause-told : goal.returns-clause-told
returns-clause-told c = λ of are.
    let by = c.args.by.now in
    c.in-Ok.ensures.told (local_of by) (of c.args.key) (kept_anew by c.args.groups.now of are c.args.key c.in_ok-kept.kept c.requires.absent (c.in_ok-kept.ensures (local_of by) refl refl))

pub returns-clause-kept : goal.returns-clause-kept
returns-clause-kept c = λ of are.
    let by = c.args.by.now in
    let key = c.args.key in
    let more = amounts_of by.keys c.args.changes.now in
    let is = c.in-Ok.ensures.kept (local_of by) (of key) (kept_anew by c.args.groups.now of are key c.in_ok-kept.kept c.requires.absent (c.in_ok-kept.ensures (local_of by) refl refl)) in
    merged_after by of key more c.args.groups.now c.put_in.new.groups c.take_turn.new.kept are is (c.in_ok-put_in.ensures.put (local_of by) (of key ++ more) is) c.in_ok-put_in.ensures.ordered

pub returns-in-Err-Out-clause-range : goal.returns-in-Err-Out-clause-range
returns-in-Err-Out-clause-range c = λ of are.
    let by = c.args.by.now in
    c.in-Err-Out.ensures.out c.in-Err-Out.field-0-is (local_of by) (of c.args.key) (kept_anew by c.args.groups.now of are c.args.key c.in_ok-kept.kept c.requires.absent (c.in_ok-kept.ensures (local_of by) refl refl))
