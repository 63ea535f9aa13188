use Rattle.std.proofs.Common.{◌%◌}
use Rattle.std.proofs.lemmas.Bool.{ne_eqb}
use Rattle.job_text.proofs.MadeLines.{line_comes, on_ok_more}
use Rattle.job_text.proofs.made.push_line.Goals as goal

pub returns-in_ok-extend-2 : goal.returns-in_ok-extend-2
returns-in_ok-extend-2 c = on_ok_more c.push_row-else-number-eq0.result
    (λ put seed k place last. line_comes seed k c.args.number c.args.before.last c.next_number.result _ _ _ (ne_eqb (c.args.number % 5) 0 c.if-number-eq0.false) place last.last_is c.next_number.ensures c.in_ok-extend-2.ensures.ok put)
    c.push_row-else-number-eq0.ensures
