use Rattle.std.proofs.Common.{◌≡◌, drop}
use Rattle.bind_nodes.specs.Views.{bounds_view}
use Rattle.bind_sources.specs.Views.{lister}
use Rattle.bind_sources.proofs.Behind.{behind}
use Rattle.bind_sources.proofs.Turns.{turns_from}
use Rattle.bind_sources.proofs.lists.in_turn.Given as goal

abbrev pub invariant-loop-entry : goal.invariant-loop-entry
invariant-loop-entry l = turns_from (lister l.group) 0 l.fn.entries ≡ behind (bounds_view l.bounds) (turns_from (lister l.group) l.number (drop l.entry-index l.entry-items))
