use Rattle.std.proofs.Common.{sym, ap, ◌∙◌}
use Rattle.std.specs.FinMap as map
use Rattle.ct_value.proofs.laws.Maps.{get-map_in}
use Rattle.source_lines.proofs.keyed_rows.KeyedRows.get.Goals as goal

pub returns : goal.returns
returns c = c.get.ensures.value ∙ sym (get-map_in c.self.inside.rows c.args.key.now) ∙ ap (λ m. map.get m c.args.key.now) c.self.view_is
