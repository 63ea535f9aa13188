use Rattle.std.proofs.Common.{ap, ◌∙◌}
use Rattle.std.specs.FinMap as map
use Rattle.ct_value.proofs.laws.Maps.{one_gone}
use Rattle.source_lines.proofs.keyed_rows.KeyedRows.remove.Goals as goal

pub returns : goal.returns
returns c = one_gone c.self.inside.rows c.remove.new.self c.args.key.now c.remove.ensures.updates.0 ∙ ap (λ m. map.remove m c.args.key.now) c.self.view_is
