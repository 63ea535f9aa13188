-- Which sources the code means.
use Rattle.std.specs.Prelude.{Bool, Option}
use Rattle.sql_syntax.specs.Tree.{Text, items}
use Rattle.sql_syntax.specs.View.{items_view}
use Rattle.query_answer.specs.SourceColumns.{of_source, by_star}
use Rattle.bind_forms.specs.declared.source_columns.Meant.{Meant}
use Rattle.bind_forms.specs.declared.source_columns.Meant.TheVariants as m

abbrev pub meant_by : Meant → Option Text → Bool
meant_by (m.Of name) = of_source name.now
meant_by (m.Listed xs) = by_star (items (items_view xs.now))
