use Rattle.laid_plans.proofs.laws.Erased as erased
use Rattle.laid_plans.proofs.laid_plans_are_erased.Goals as goal

pub returns : goal.returns
returns c = erased.laid_plans_are_erased
