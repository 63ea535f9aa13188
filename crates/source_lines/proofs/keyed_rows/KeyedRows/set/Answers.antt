use Rattle.std.proofs.Common.{ap, ◌∙◌}
use Rattle.std.specs.FinMap as map
use Rattle.ct_value.proofs.laws.Maps.{one_put}
use Rattle.source_lines.proofs.keyed_rows.KeyedRows.set.Goals as goal

pub returns-clause-ok : goal.returns-clause-ok
returns-clause-ok c = one_put c.self.inside.rows c.insert.new.self c.args.key c.args.row c.in_ok-insert.ensures.updates.0 ∙ ap (λ m. map.insert m c.args.key c.args.row) c.self.view_is
