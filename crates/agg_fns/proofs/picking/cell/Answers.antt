use Rattle.std.proofs.Common.{ap, ◌∙◌}
use Rattle.std.specs.Option.{unwrap_or}
use Rattle.ct_value.specs.declared.value.Value.TheVariants.{Null}
use Rattle.agg_fns.proofs.Unwrapped.{unwrapped}
use Rattle.agg_fns.proofs.picking.cell.Goals as goal

pub returns-in-None : goal.returns-in-None
returns-in-None c = c.requires ∙ ap (λ o. unwrap_or o Null) c.in-None.ensures ∙ unwrapped c.args.row.now c.args.column
