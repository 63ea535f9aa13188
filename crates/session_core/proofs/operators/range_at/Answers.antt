use Rattle.std.proofs.Common.{refl, sym, ap, ◌∙◌, Err}
use Rattle.session_core.proofs.operators.range_at.Goals as goal

pub returns : goal.returns
returns c = λ g limit due answer laid out. (out.0, refl, refl, c.in_ok-tys.ensures ∙ c.in_ok-types.ensures g limit laid, out.1 ∙ ap Err (sym c.in_ok-row.ensures))
