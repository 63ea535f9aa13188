use Rattle.std.proofs.Common.{Ok, Err, ap}
use Rattle.job_text.specs.Lines.{line_in}
use Rattle.source_lines.proofs.Going.{if_err, on_ok, read_code, read_line, refused_code, refused_line, took}
use Rattle.source_lines.proofs.take.take_next.Goals as goal

pub returns-in-Ok-Some-clause-ok : goal.returns-in-Ok-Some-clause-ok
returns-in-Ok-Some-clause-ok c = on_ok c.take_line.result c.take_line.ensures.ok (λ told taken first rest stand are.
    let sources = c.args.sources.now in
    let file = c.args.file.now in
    let read = read_line (line_in sources file.feed first) _ c.in-Ok-Some.line file _ rest (c.in-Ok-Some.ensures.line first rest are) (ap Ok c.in-Ok-Some.field-0-is) in
    let one = told sources taken stand in
    took sources file _ taken first rest read.1 c.in-Ok-Some.line _ read.0 one.0 one.1)

pub returns-in-Ok-Some-clause-refused : goal.returns-in-Ok-Some-clause-refused
returns-in-Ok-Some-clause-refused c = if_err c.take_line.result c.take_line.ensures.refused (λ fault told taken first rest stand are.
    let sources = c.args.sources.now in
    let file = c.args.file.now in
    let read = read_line (line_in sources file.feed first) _ c.in-Ok-Some.line file _ rest (c.in-Ok-Some.ensures.line first rest are) (ap Ok c.in-Ok-Some.field-0-is) in
    refused_line sources file _ taken first rest read.1 _ _ c.feed.ensures c.read.ensures c.in-Ok-Some.line fault read.0 (told sources taken stand))

pub returns-in-Err-Change-clause-refused : goal.returns-in-Err-Change-clause-refused
returns-in-Err-Change-clause-refused c = λ taken first rest stand are.
    let sources = c.args.sources.now in
    let file = c.args.file.now in
    let read = read_code (line_in sources file.feed first) _ c.in-Err-Change.code file _ rest (c.in-Err-Change.ensures.line first rest are) (ap Err c.in-Err-Change.field-0-is) in
    refused_code sources file _ taken first rest read.1 _ _ c.feed-in-Err-Change.ensures c.read-in-Err-Change.ensures c.in-Err-Change.code c.refusal.result read.0 c.refusal.ensures
