use Rattle.sound_plans.proofs.laws.Theorems as law
use Rattle.sound_plans.proofs.promises.sound_plans_hold.Goals as goal

pub returns : goal.returns
returns c = law.sound_plans_hold
