use Rattle.std.proofs.Common.{ap, sym, ◌∙◌}
use Rattle.plan_rules.specs.Doings.{network}
use Rattle.stream_model.specs.Machine.{State}
use Rattle.stream_model.specs.Looks.{few_in_flight, in_flight}
use Rattle.session_core.specs.Stands.{buffer_at}
use Rattle.job_stream.specs.Parts.{refusal_at, lines_refusal}
use Rattle.job_stream.specs.Stops.{buffer_refusal}
use Rattle.job_stream.proofs.Looks.{flush_refused}
use Rattle.source_lines.specs.Supply.{file_named}
use Rattle.job_stream.proofs.orders.refusal.Goals as goal

pub returns-in-Move : goal.returns-in-Move
returns-in-Move c = λ sources plan limit p is same stands.
    let m = c.in-Move in
    let here = stands.stands in
    let told = c.in_flight.ensures.value plan limit p.state.printed here.items here.stands ∙ ap (λ (s : State). in_flight (network plan) s m.edge m.from m.to) here.is in
    c.move_refusal.ensures ∙ ap (λ held. few_in_flight held m.count) told ∙ ap (λ v. refusal_at v c.args.sheet.now.by_table plan limit p) (sym m.is)

pub returns-in-Flush : goal.returns-in-Flush
returns-in-Flush c = λ sources plan limit p is same stands.
    let f = c.in-Flush in
    let here = stands.stands in
    let told = c.buffered.ensures plan limit p.state.printed here.items here.stands ∙ ap (λ (s : State). buffer_at (network plan) s f.node f.subtask) here.is in
    c.flush_refusal.ensures ∙ ap buffer_refusal told ∙ flush_refused (network plan) p.state f.node f.subtask ∙ ap (λ v. refusal_at v c.args.sheet.now.by_table plan limit p) (sym f.is)

pub returns-in-Take : goal.returns-in-Take
returns-in-Take c = λ sources plan limit p is same stands.
    let t = c.in-Take in
    let by = c.args.sheet.now.by_table in
    c.take_refusal.ensures plan limit by ∙ ap (λ place. lines_refusal place t.count by plan limit c.args.files.now.items) c.file_named.ensures
    ∙ ap (λ files. lines_refusal (file_named by t.table) t.count by plan limit files) stands.files_are ∙ ap (λ v. refusal_at v by plan limit p) (sym t.is)
