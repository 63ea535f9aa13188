use Rattle.std.proofs.Common.{None, ap}
use Rattle.job_run.specs.Loads.{load_holdings, load_names}
use Rattle.job_run.specs.Outcome.{load_run, run_named}
use Rattle.job_run.specs.Printing.{Printing}
use Rattle.job_run.proofs.KeptRuns.{if_halted, if_well, kept_same}
use Rattle.job_run.proofs.sums.load_line.Goals as goal

pub returns-clause-ok : goal.returns-clause-ok
returns-clause-ok c = if_well c.summed_by.result c.summed_by.ensures.ok (λ line holds. holds (load_run c.args.seed c.args.lines)
    (kept_same (λ n. run_named n None) _ load_names _ (load_holdings c.args.seed c.args.lines) _ _ _ _ _ c.in-Ok.ensures c.in-Ok-load_shelf.ensures (ap (λ (p : Printing). p.bytes) c.new-sink.ensures) c.run_names-ran.ensures.runs))

pub returns-clause-halts : goal.returns-clause-halts
returns-clause-halts c = if_halted c.summed_by.result c.summed_by.ensures.halts (λ halt holds. holds (load_run c.args.seed c.args.lines)
    (kept_same (λ n. run_named n None) _ load_names _ (load_holdings c.args.seed c.args.lines) _ _ _ _ _ c.in-Ok.ensures c.in-Ok-load_shelf.ensures (ap (λ (p : Printing). p.bytes) c.new-sink.ensures) c.run_names-ran.ensures.runs))
