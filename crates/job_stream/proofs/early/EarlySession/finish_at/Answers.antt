use Rattle.std.proofs.Common.{◌≡◌, Some, slice_get, ap, sym, refl, ◌∙◌}
use Rattle.std.proofs.lemmas.Option.{slice_get-get_or}
use Rattle.plan_rules.specs.Doings.{network}
use Rattle.stream_model.specs.Drain.{stages}
use Rattle.stream_model.specs.Machine.{State}
use Rattle.source_lines.specs.Run.{At}
use Rattle.job_stream.proofs.EarlyRuns.{stage_below, stage_finished, stage_there}
use Rattle.job_stream.proofs.early.EarlySession.finish_at.Goals as goal

pub deliver-requires : goal.deliver-requires
deliver-requires g c =
    let r = c.requires.ready in
    let here = r.5 in
    record { ready = (r.2, r.3, here.state, here.sheet_is, stage_below c.args.sheet.now r.0 r.2 r.3 c.args.number r.4 c.args.self r.1 here c.requires.within, here.stands.stands) }

pub returns-in-Ok : goal.returns-in-Ok
returns-in-Ok g c = λ sources files plan limit p here.
    let number = c.args.number in
    let items = c.args.self.stages.items in
    let kept = c.index_mut.result.now in
    let at : slice_get items number ≡ Some kept = slice_get-get_or items number kept c.requires.within ∙ ap Some (sym c.index_mut.ensures.value) in
    let found = stage_there (stages (network plan)) number (stage_below c.args.sheet.now sources plan limit number p c.args.self files here c.requires.within) in
    let there : At State = record p { state = here.state } in
    stage_finished c.args.sheet.now sources plan limit number p c.args.self files here found.0 found.1 found.2 kept at c.in-Ok.session c.deliver.new.out _ _ _ refl refl
    (c.in-Ok.ensures.ok sources files plan limit there here.sheet_is here.sources_are here.stands) refl refl
