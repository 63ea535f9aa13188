use Rattle.std.proofs.Common.{◌∙◌}
use Rattle.std.proofs.lemmas.Result.{err_from_is_err_and}
use Rattle.stream_model.specs.declared.events.Event.TheVariants.{Take}
use Rattle.stream_model.specs.Tables.{scanned_at}
use Rattle.stream_model.specs.Machine.{take, take_within, scanned}
use Rattle.stream_model.specs.Runs.{happens}
use Rattle.session_core.proofs.Steps.{fits_after, open_after, stops_same, take_accepted}
use Rattle.session_core.proofs.session.Session.take.Goals as goal

pub returns-in_err-check_source-clause-err : goal.returns-in_err-check_source-clause-err
returns-in_err-check_source-clause-err b c = let p = err_from_is_err_and c.from_residual.result c.from_residual.ensures.1 in rw (p.1, p.2) (λ g limit handed s keeps typed.
    c.in_err-check_source.ensures.err g limit s (record { checks = keeps.sources; typed = typed }))

pub scan-requires : goal.scan-requires
scan-requires b c =
    let r = c.requires.ready in
    let g = r.0 in
    let limit = r.1 in
    let s = r.3 in
    let keeps = r.4 in
    let ok = c.in_ok-check_source.ensures.ok g s (record { checks = keeps.sources; typed = r.5 }) in
    let is = take_accepted g limit s c.args.table c.args.change ok.table ok.is ok.accepted in
    record {
      ready = (
        ok.table,
        (
          g,
          limit,
          r.2,
          s,
          record {
            laid = keeps.laid;
            carries = keeps.carries;
            is = ok.is;
            fits = r.5 ok.table ok.is;
            fit = fits_after g limit s (happens (Take c.args.table c.args.change)) (take_within g limit s c.args.table c.args.change (scanned_at ok.table c.args.change)) keeps.opens is r.5;
          },
        ),
      );
    }

pub returns-in_err-scan-clause-err : goal.returns-in_err-scan-clause-err
returns-in_err-scan-clause-err b c = let p = err_from_is_err_and c.from_residual-in_err-scan.result c.from_residual-in_err-scan.ensures.1 in rw (p.1, p.2) (λ g limit handed s keeps typed.
    let ok = c.in_ok-check_source.ensures.ok g s (record { checks = keeps.sources; typed = typed }) in
    let is = take_accepted g limit s c.args.table c.args.change ok.table ok.is ok.accepted in
    stops_same (take g limit s c.args.table c.args.change) (take_within g limit s c.args.table c.args.change (scanned_at ok.table c.args.change)) c.in_err-scan.field-0.0 is
    (c.in_err-scan.ensures.err ok.table g limit handed s (record {
      laid = keeps.laid;
      carries = keeps.carries;
      is = ok.is;
      fits = typed ok.table ok.is;
      fit = fits_after g limit s (happens (Take c.args.table c.args.change)) (take_within g limit s c.args.table c.args.change (scanned_at ok.table c.args.change)) keeps.opens is typed;
    })))

pub returns-clause-ok : goal.returns-clause-ok
returns-clause-ok b c = λ g limit handed s keeps typed.
    let ok = c.in_ok-check_source.ensures.ok g s (record { checks = keeps.sources; typed = typed }) in
    let is = take_accepted g limit s c.args.table c.args.change ok.table ok.is ok.accepted in
    let m = c.in_ok-scan.ensures.ok ok.table g limit handed s (record {
      laid = keeps.laid;
      carries = keeps.carries;
      is = ok.is;
      fits = typed ok.table ok.is;
      fit = fits_after g limit s (happens (Take c.args.table c.args.change)) (take_within g limit s c.args.table c.args.change (scanned_at ok.table c.args.change)) keeps.opens is typed;
    }) in
    let next = scanned g c.args.table (scanned_at ok.table c.args.change) c.args.change s in (
      next,
      is ∙ m.0,
      record {
        laid = keeps.laid;
        nodes_are = keeps.nodes_are;
        width_is = keeps.width_is;
        carries = m.1;
        runs = keeps.runs;
        sources = ok.checks;
        outside = keeps.outside;
        opens = open_after g limit s (happens (Take c.args.table c.args.change)) next (is ∙ m.0) typed keeps.opens;
      },
    )
