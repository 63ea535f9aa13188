use Rattle.std.proofs.lemmas.Result.{err_from_is_err_and}
use Rattle.job_text.specs.Orders.{orders_of}
use Rattle.job_run.specs.Outcome.{after_order}
use Rattle.job_run.proofs.Loading.{order_refused}
use Rattle.job_run.proofs.files.load_order.Goals as goal

pub returns-in_err-bytes-in-Some-clause-halts : goal.returns-in_err-bytes-in-Some-clause-halts
returns-in_err-bytes-in-Some-clause-halts g c =
    let p = err_from_is_err_and c.from_residual.result c.from_residual.ensures.1 in
    rw (p.1, p.2, c.in-Some.is) (λ next. c.in_err-bytes-in-Some.ensures.halts (λ h bs. after_order (next h) (orders_of c.args.by_table bs)))

pub returns-in_ok-bytes-in-Some-clause-halts : goal.returns-in_ok-bytes-in-Some-clause-halts
returns-in_ok-bytes-in-Some-clause-halts g c =
    order_refused _ _ c.in_ok-bytes-in-Some.bytes c.args.by_table c.in_ok-bytes-in-Some.ensures.whole _ _ c.in-Some.is c.orders_in.result c.orders_in.ensures.halts
