use Rattle.std.proofs.Common.{◌≡◌, drop, map}
use Rattle.binding.specs.InGroups.{calls_bound}
use Rattle.bind_names.specs.Calls as c
use Rattle.bind_sources.specs.Views.{calls_view}
use Rattle.bind_sources.proofs.Behind.{behind}
use Rattle.bind_sources.proofs.calls.calls_bound.Given as goal

abbrev pub invariant-loop-call : goal.invariant-loop-call
invariant-loop-call l = calls_bound l.scope l.global (map c.call_view l.fn.calls) ≡ behind (calls_view l.bound) (calls_bound l.scope l.global (map c.call_view (drop l.call-index l.call-items)))
