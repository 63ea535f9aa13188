use Rattle.std.proofs.Common.{sym, ap, ◌∙◌}
use Rattle.std.specs.FinMap as map
use Rattle.ct_value.proofs.laws.Maps.{get-map_in, one_gone}
use Rattle.ct_change.proofs.last_rows.LastRows.take.Goals as goal

pub returns-clause-before : goal.returns-clause-before
returns-clause-before c = c.remove.ensures.value ∙ sym (get-map_in c.self.inside.rows c.args.key.now) ∙ ap (λ m. map.get m c.args.key.now) c.self.view_is

pub returns-clause-after : goal.returns-clause-after
returns-clause-after c = one_gone c.self.inside.rows c.remove.new.self c.args.key.now c.remove.ensures.updates.0 ∙ ap (λ m. map.remove m c.args.key.now) c.self.view_is
