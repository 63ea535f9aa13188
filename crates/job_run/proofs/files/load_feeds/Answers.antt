use Rattle.std.proofs.Common.{◌+◌, drop, arith}
use Rattle.std.proofs.lemmas.Result.{err_from_is_err_and}
use Rattle.job_ending.proofs.laws.Runs.{rose_earlier}
use Rattle.job_run.proofs.Loading.{feed_halts, next_table}
use Rattle.job_run.proofs.files.load_feeds.Goals as goal

pub returns-in_err-bytes-clause-halts : goal.returns-in_err-bytes-clause-halts
returns-in_err-bytes-clause-halts g c =
    let p = err_from_is_err_and c.from_residual.result c.from_residual.ensures.1 in
    let leads = next_table _ c.args.prefix.now 67108864 c.args.tables.now c.loop-table.left c.loop-table.table-index c.table-item.result c.loop-table.feeds (omega arith) c.table-item.is c.loop-table.invariant.leads in
    rw (p.1, p.2) (λ next.
    feed_halts _ c.args.prefix.now 67108864 c.args.tables.now c.loop-table.left c.table-item.result (drop (c.loop-table.table-index + 1) c.args.tables.now) c.loop-table.feeds leads
    _ _ _ _ c.loop-table.invariant.same (rose_earlier _ _ _ c.loop-table.invariant.later) c.in_err-bytes.ensures.halts next)
