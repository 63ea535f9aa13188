use Rattle.std.proofs.Common.{◌≡◌, drop}
use Rattle.std.specs.Prelude.{option_map}
use Rattle.sql_syntax.specs.Tree.{items}
use Rattle.sql_syntax.specs.View.{items_view}
use Rattle.query_answer.specs.SourceColumns.{by_star}
use Rattle.bind_forms.proofs.source_columns.by_star.Given as goal

abbrev pub invariant-loop-item : goal.invariant-loop-item
invariant-loop-item l = by_star (items (items_view l.items)) (option_map (λ x. x.now) l.source) ≡ by_star (items (items_view (drop l.item-index l.item-items))) (option_map (λ x. x.now) l.source)
