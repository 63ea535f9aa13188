use Rattle.std.proofs.Common.{Ok, Err, sym, subst, ap, ◌∙◌}
use Rattle.job_text.specs.Lines.{line_in}
use Rattle.exec_core.proofs.laws.Taking.{HasRead, line_refused, line_stopped, line_taken, none_taken, of_source, read_line, read_none, read_refused}
use Rattle.exec_core.proofs.taking.take_next.Goals as goal

pub take_line-requires : goal.take_line-requires
take_line-requires g c =
    let r = c.requires.ready in
    let file = c.args.lines.now in
    let line = c.in-Ok-Some.line in
    let read = read_line c.args.sources.now file c.next_line.new.self c.next_line.result c.next_line.ensures.end c.next_line.ensures.line line (c.in-Ok-Some.is ∙ ap Ok c.in-Ok-Some.field-0-is) in
    (r.0, r.1, r.2, r.4, of_source r.0.sources file.feed read.first line (ap (λ sources. line_in sources file.feed read.first) r.3 ∙ read.line))

pub returns-in-Ok-clause-ok : goal.returns-in-Ok-clause-ok
returns-in-Ok-clause-ok g c = λ plan limit by_table p place same stands is.
    let file = c.args.lines.now in
    let new = c.next_line.new.self in
    let line = c.in-Ok-Some.line in
    let all = read_line c.args.sources.now file new c.next_line.result c.next_line.ensures.end c.next_line.ensures.line line (c.in-Ok-Some.is ∙ ap Ok c.in-Ok-Some.field-0-is) in
    let read = subst (λ sources. HasRead sources file new (Ok line)) (sym same) all in
    line_taken plan limit by_table p place file new c.in-Ok.next line read (c.in-Ok.ensures.ok plan limit p.state (of_source plan.sources file.feed read.first line read.line) stands)

pub returns-in-Ok-Some-clause-stopped : goal.returns-in-Ok-Some-clause-stopped
returns-in-Ok-Some-clause-stopped g c = λ plan limit by_table p place same stands is.
    let file = c.args.lines.now in
    let new = c.next_line.new.self in
    let line = c.in-Ok-Some.line in
    let all = read_line c.args.sources.now file new c.next_line.result c.next_line.ensures.end c.next_line.ensures.line line (c.in-Ok-Some.is ∙ ap Ok c.in-Ok-Some.field-0-is) in
    let read = subst (λ sources. HasRead sources file new (Ok line)) (sym same) all in
    line_stopped plan limit by_table p place file new c.in-Err.cause c.fault_at.result line read
    (c.in-Err.ensures.stopped plan limit p.state (of_source plan.sources file.feed read.first line read.line) stands) c.fault_at.ensures

pub returns-in-Ok-None-clause-ok : goal.returns-in-Ok-None-clause-ok
returns-in-Ok-None-clause-ok g c = λ plan limit by_table p place same stands is.
    let file = c.args.lines.now in
    let new = c.next_line.new.self in
    none_taken plan limit by_table p place file new c.args.session stands is
    (read_none c.args.sources.now file new c.next_line.result c.next_line.ensures.end c.next_line.ensures.line (c.in-Ok-None.is ∙ ap Ok c.in-Ok-None.field-0-is))

pub returns-in-Err-Change-clause-stopped : goal.returns-in-Err-Change-clause-stopped
returns-in-Err-Change-clause-stopped g c = λ plan limit by_table p place same stands is.
    let file = c.args.lines.now in
    let new = c.next_line.new.self in
    let code = c.in-Err-Change.code in
    let all = read_refused c.args.sources.now file new c.next_line.result c.next_line.ensures.end c.next_line.ensures.line code (c.in-Err-Change.is ∙ ap Err c.in-Err-Change.field-0-is) in
    line_refused plan limit by_table p place file new c.refused.result code (subst (λ sources. HasRead sources file new (Err code)) (sym same) all) c.refused.ensures
