use Rattle.std.proofs.Common.{◌≡◌, ◌++◌, drop}
use Rattle.bind_names.specs.Entries.{entries_view}
use Rattle.bind_forms.specs.Lists.{named_entries}
use Rattle.bind_forms.proofs.rank_entries.named_entries.Given as goal

abbrev pub invariant-loop-entry : goal.invariant-loop-entry
invariant-loop-entry l = l.scope ++ named_entries l.alias (entries_view (drop l.entry-index l.entry-items)) ≡ named_entries l.alias (entries_view l.entries)
