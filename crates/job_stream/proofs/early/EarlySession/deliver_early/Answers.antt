use Rattle.std.proofs.Common.{◌≡◌, ◌+◌, Some, drop, slice_get, ap, sym, refl, ◌∙◌}
use Rattle.std.proofs.lemmas.Option.{slice_get-get_or}
use Rattle.plan_rules.specs.Doings.{network}
use Rattle.stream_model.specs.Drain.{stages}
use Rattle.stream_model.specs.Machine.{State}
use Rattle.source_lines.specs.Run.{At}
use Rattle.job_stream.proofs.EarlyRuns.{early_more}
use Rattle.job_stream.proofs.early.EarlySession.deliver_early.Goals as goal

pub returns-in-Ok : goal.returns-in-Ok
returns-in-Ok g c = λ sources files plan limit p here.
    let number = c.args.number in
    let items = c.args.self.stages.items in
    let kept = c.index_mut.result.now in
    let at : slice_get items number ≡ Some kept = slice_get-get_or items number kept c.requires.within ∙ ap Some (sym c.index_mut.ensures.value) in
    let lane = c.args.lane in
    let stands = here.stands.stands in
    let there : At State = record p { state = here.state } in
    early_more c.args.sheet.now sources plan limit p c.args.self files here number lane.edge lane.from lane.to (drop (number + 1) (stages (network plan))) (c.requires.next plan limit here.state.printed stands.items stands.stands) kept at (c.requires.early kept at)
    c.in_ok-held.held c.in-Ok.session c.move_all.new.out _ _ _ refl refl (c.in-Ok.ensures.ok sources files plan limit there here.sheet_is here.sources_are here.stands) refl refl
