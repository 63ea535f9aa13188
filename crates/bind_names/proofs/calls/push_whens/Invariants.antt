use Rattle.std.proofs.Common.{◌≡◌, ◌++◌, drop, map}
use Rattle.bind_names.specs.Calls.{call_view}
use Rattle.bind_names.proofs.CallLists.{of_whens}
use Rattle.bind_names.proofs.calls.push_whens.Given as goal

abbrev pub invariant-loop-when : goal.invariant-loop-when
invariant-loop-when l = map call_view l.found ++ of_whens (drop l.when-index l.when-items) ≡ map call_view l.fn.found ++ of_whens l.fn.whens
