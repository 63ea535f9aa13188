-- What the code binds an INSERT to, as the definitions see it.
use Rattle.binding.specs.Inserts as i
use Rattle.bind_clauses.specs.Views.{relation_view}
use Rattle.rewrite.specs.declared.inserted.Inserted.{Inserted}

abbrev pub inserted_view : Inserted → i.Inserted
inserted_view x = record { query = relation_view x.query; sources = x.sources; sink = x.sink }
