-- What the code lists, as the definitions see it.
use Rattle.std.specs.Prelude.{List, map}
use Rattle.sql_syntax.specs.View.{view}
use Rattle.query_answer.specs.Answer as a
use Rattle.bind_names.specs.declared.entries.Entry.{Entry}
use Rattle.bind_names.specs.declared.entries.Listed.{Listed}
use Rattle.bind_names.specs.declared.entries.Listed.TheVariants as l

abbrev pub listed_view : Listed → a.Listed
listed_view (l.Placed n) = a.Placed n
listed_view (l.Written x) = a.Written (view x.now)
listed_view l.NoSource = a.NoSource

abbrev pub entry_view : Entry → a.Entry
entry_view e = record { listed = listed_view e.listed; name = e.name }

abbrev pub entries_view : List Entry → List a.Entry
entries_view = map entry_view
