use Rattle.std.proofs.Common.{sym}
use Rattle.std.proofs.lemmas.Result.{err_from_is_err_and}
use Rattle.source_lines.specs.declared.supply.ChangeFiles.TheVariants.{One}
use Rattle.job_run.proofs.files.load_input.Goals as goal

pub returns-in_err-bytes-in-Changes-clause-halts : goal.returns-in_err-bytes-in-Changes-clause-halts
returns-in_err-bytes-in-Changes-clause-halts g c =
    let p = err_from_is_err_and c.from_residual.result c.from_residual.ensures.1 in
    rw (p.1, p.2, c.in-Changes.is) (λ next. c.in_err-bytes-in-Changes.ensures.halts (λ h bs. next h (One bs)))

pub returns-in_err-feeds-in-Feeds-clause-halts : goal.returns-in_err-feeds-in-Feeds-clause-halts
returns-in_err-feeds-in-Feeds-clause-halts g c =
    let p = err_from_is_err_and c.from_residual-in_err-feeds-in-Feeds.result c.from_residual-in_err-feeds-in-Feeds.ensures.1 in
    rw (p.1, p.2, c.in-Feeds.is, sym c.as_slice.ensures) c.in_err-feeds-in-Feeds.ensures.halts
