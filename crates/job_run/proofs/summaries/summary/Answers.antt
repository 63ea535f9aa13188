use Rattle.std.proofs.Common.{◌++◌, ◌∙◌, ap, codes}
use Rattle.std.specs.Fmt.{decimal}
use Rattle.job_run.proofs.SumLines.{summary_put}
use Rattle.job_run.proofs.summaries.summary.Goals as goal

pub returns : goal.returns
returns c =
    let lines = c.args.lines in
    let count = c.args.changes in
    let start = codes "load," ++ (decimal lines ++ (codes "," ++ (decimal count ++ codes ","))) in
    c.in_ok-push_end.ensures
    ∙ ap (λ xs. xs ++ (codes "," ++ (decimal c.args.hash ++ codes "\n"))) (c.in_ok-extend_from_slice.ensures.items ∙ ap (λ xs. xs ++ c.as_slice.result.now) c.in_ok-line.ensures ∙ ap (λ xs. start ++ xs) c.as_slice.ensures.value)
    ∙ summary_put (decimal lines) (decimal count) c.args.sums.items (decimal c.args.hash)
