use Rattle.std.proofs.Common.{sym, ap, subst, ◌∙◌}
use Rattle.std.specs.Option.{IsSome}
use Rattle.std.specs.FinMap as map
use Rattle.ct_value.proofs.laws.Maps.{get-map_in, one_put}
use Rattle.source_lines.proofs.keyed_rows.KeyedRows.set_new.Goals as goal

pub returns-clause-set : goal.returns-clause-set
returns-clause-set c = λ e. (
  sym (ap (λ m. map.get m c.args.key) c.self.view_is) ∙ get-map_in c.self.inside.rows c.args.key ∙ c.in_ok-is_new.ensures.absent e,
  one_put c.self.inside.rows c.put_new.new.rows c.args.key c.args.row (c.in_ok-is_new.ensures.put e) ∙ ap (λ m. map.insert m c.args.key c.args.row) c.self.view_is,
)

pub returns-clause-there : goal.returns-clause-there
returns-clause-there c = λ e. (
  subst (λ o. IsSome o) (sym (get-map_in c.self.inside.rows c.args.key) ∙ ap (λ m. map.get m c.args.key) c.self.view_is) (c.in_ok-is_new.ensures.there e),
  ap (λ (es : _). map.from_entries es) (c.in_ok-is_new.ensures.same e) ∙ c.self.view_is,
)
