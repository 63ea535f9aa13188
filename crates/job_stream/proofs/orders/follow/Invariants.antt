use Rattle.std.proofs.Common.{drop}
use Rattle.job_stream.specs.Parts.{orders_run}
use Rattle.job_stream.specs.Writing.{GoesOn, told}
use Rattle.job_stream.proofs.orders.follow.Given as goal

abbrev pub invariant-orders : goal.invariant-orders
invariant-orders g l =
    GoesOn l.sheet l.sources l.fn.session l.initial.files.items (orders_run l.lines) (orders_run (drop l.place l.lines)) l.followed l.files.items (told g.K.Sink.written g.K.Sink.faults l.initial.out) (told g.K.Sink.written g.K.Sink.faults l.out)
