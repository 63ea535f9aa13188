use Rattle.session_core.proofs.operators.consume_at.Goals as goal

pub returns-in-Err-Range-clause-err : goal.returns-in-Err-Range-clause-err
returns-in-Err-Range-clause-err b c = λ g pieces bundle from may limit laid.
    let told = rw c.in-Err-Range.field-0-is at c.in-Err-Range.ensures.range in
    c.range_or_memory.ensures g limit _ _ laid (told g pieces bundle from may)
