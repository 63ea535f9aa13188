use Rattle.std.proofs.Common.{sym, ap, ◌∙◌}
use Rattle.std.specs.FinMap as map
use Rattle.ct_value.proofs.laws.Maps.{get-map_in, one_put}
use Rattle.ct_change.proofs.last_rows.LastRows.set.Goals as goal

pub returns-clause-before : goal.returns-clause-before
returns-clause-before c = c.in_ok-insert.ensures.old ∙ sym (get-map_in c.self.inside.rows c.args.key) ∙ ap (λ m. map.get m c.args.key) c.self.view_is

pub returns-clause-ok : goal.returns-clause-ok
returns-clause-ok c = one_put c.self.inside.rows c.insert.new.self c.args.key c.args.row c.in_ok-insert.ensures.updates.0 ∙ ap (λ m. map.insert m c.args.key c.args.row) c.self.view_is
