use Rattle.std.proofs.Common.{rules, ◌≡◌, ℕ, List, length, subst, arith}
use Rattle.std.specs.List.{AllByRecursion}
use Rattle.ct_value.specs.Bag.{items}
use Rattle.ct_value.specs.declared.row.Row.{Row}
use Rattle.job_batch.proofs.LinesOfRuns.{run_more, run_part, started, wide_runs}
use Rattle.job_batch.proofs.lines.put_rows.Goals as goal

pub runs-init : goal.runs-init
runs-init g c = record {
  taken = started c.args.tys.now _ (items c.args.rows.now) _ c.rows-left.ensures;
  later = search rules;
  wide = wide_runs c.args.tys.now _ (items c.args.rows.now) _ c.rows-left.ensures c.requires.wide;
}

pub runs-preserved : goal.runs-preserved
runs-preserved g c = record {
  taken = run_more c.args.tys.now _ _ _ _ _ _ _ _ c.in-Some.ensures.row c.runs.invariant.taken c.in_ok-put_run.ensures.whole;
  later = omega (arith, c.runs.invariant.later, c.in_ok-put_run.ensures.later);
  wide = (subst (λ (l : List (Row × ℕ)). AllByRecursion (λ (run : Row × ℕ). length run.0 ≡ length c.args.tys.now) l) c.in-Some.ensures.row c.runs.invariant.wide).1;
}

pub returns-in_err-put_run-clause-part : goal.returns-in_err-put_run-clause-part
returns-in_err-put_run-clause-part g c = run_part c.args.tys.now _ _ _ _ _ _ _ _ c.in-Some.ensures.row c.runs.invariant.taken c.in_err-put_run.ensures.part
