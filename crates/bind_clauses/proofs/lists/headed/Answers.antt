use Rattle.std.proofs.Common.{arith}
use Rattle.bind_clauses.proofs.Heads.{entries_end, bounds_end}
use Rattle.bind_clauses.proofs.lists.headed.Goals as goal
use Rattle.bind_clauses.proofs.lists.headed.Goals.{then-columns-test+else-place-len, else-columns-test}

pub returns : goal.returns
returns c =
    let es = c.args.entries.now in
    let bs = c.args.bounds.now in
    elim c.columns-test.branch [
      | then-columns-test+else-place-len w ↦ bounds_end es bs c.columns.place c.columns.scope _ c.columns.invariant (omega (arith, w.if-place-len))
      | else-columns-test w ↦ entries_end es bs c.columns.place c.columns.scope _ c.columns.invariant (omega (arith, w.columns-test))
    ]
