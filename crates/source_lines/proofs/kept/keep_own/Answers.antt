use Rattle.std.proofs.Common.{◌∙◌, Result, Ok, Err, OnOk}
use Rattle.source_lines.proofs.Takes.{keyed-refused, keyed-takes}
use Rattle.source_lines.proofs.kept.keep_own.Goals as goal

both : {T E A B C : Type 0} (r : Result T E) → OnOk r A → OnOk r B → (A → B → C) → OnOk r C
both (Ok x) a b f = f a b
both (Err e) a b f = tt

pub returns-in-Keyed-clause-ok : goal.returns-in-Keyed-clause-ok
returns-in-Keyed-clause-ok c =
    let table = c.args.table.now in
    let change = c.args.change in
    both c.take_keyed_own.result c.take_keyed_own.ensures.ok c.take_keyed_own.ensures.taken (λ same taken. λ rows stands.
    let kept = rw c.in-Keyed.is at stands in
    let takes = keyed-takes table.mode table.key kept.0 _ rows kept.1 change c.requires.admitted taken in
    (takes.0, (kept.0, rw same takes.1)))

pub returns-in-Keyed-clause-refused : goal.returns-in-Keyed-clause-refused
returns-in-Keyed-clause-refused c = λ code is rows stands.
    let kept = rw c.in-Keyed.is at stands in
    let table = c.args.table.now in
    let refused = c.take_keyed_own.ensures.refused code is in
    keyed-refused table.mode table.key kept.0 _ rows kept.1 c.args.change c.requires.admitted refused.0 ∙ refused.1
