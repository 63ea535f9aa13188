use Rattle.std.proofs.Common.{ℕ, length, replicate, ap, ◌∙◌}
use Rattle.session_open.proofs.Started.{none_counted}
use Rattle.session_open.proofs.tables.counts_of.Goals as goal

pub returns : goal.returns
returns c = c.in_ok-vec.ensures.items_if_clones_equal (λ y e. e) ∙ (ap (λ (n : ℕ). replicate n 0) c.len.ensures ∙ none_counted (length c.args.plan.now.sources))
