use Rattle.std.proofs.Common.{◌≡◌, drop}
use Rattle.sql_syntax.specs.Tree.{items}
use Rattle.sql_syntax.specs.View.{items_view}
use Rattle.query_answer.specs.SourceColumns.{makes}
use Rattle.bind_forms.proofs.source_columns.makes.Given as goal

abbrev pub invariant-loop-item : goal.invariant-loop-item
invariant-loop-item l = makes l.name (items (items_view l.items)) ≡ makes l.name (items (items_view (drop l.item-index l.item-items)))
