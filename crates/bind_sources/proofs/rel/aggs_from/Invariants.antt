use Rattle.std.proofs.Common.{◌≡◌, ◌++◌, drop}
use Rattle.bind_sources.proofs.Rels.{aggs_left}
use Rattle.bind_sources.proofs.rel.aggs_from.Given as goal

abbrev pub invariant-loop-call : goal.invariant-loop-call
invariant-loop-call l = l.aggs ++ aggs_left l.arg l.filter (drop l.call-index l.call-items) ≡ aggs_left l.fn.first_arg l.fn.first_filter l.fn.calls
