-- The theorems of this crate, put together of its lemmas.
use Rattle.plan_rules.proofs.Plans as plans
use Rattle.plan_rules.proofs.laws.Answering as answering
use Rattle.plan_rules.proofs.laws.Erasing as erasing
use Rattle.plan_rules.specs.Answers.{PlansAnswerAsErased, TreesAreErased}
use Rattle.plan_rules.specs.Plans.{PlansAreWired}

-- A plan of the right shape is wired as the composition theorem asks, whatever its nodes do.
pub plans_are_wired : PlansAreWired
plans_are_wired = plans.plans_are_wired

-- Each node of a plan whose operators have rules answers as the node's tree does.
pub plans_answer_as_erased : PlansAnswerAsErased
plans_answer_as_erased = answering.plans_answer_as_erased

-- The tree of the plan of a tree is that tree.
pub trees_are_erased : TreesAreErased
trees_are_erased = erasing.trees_are_erased
