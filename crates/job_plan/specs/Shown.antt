-- What is written of a plan: its text, a line for each node, whose numbers start at 1.
use Rattle.phys_plan.specs.declared.plan.Plan.{Plan}
use Rattle.phys_plan.specs.Explained.{explained}
use Rattle.job_ending.specs.declared.ending.Ending.TheVariants.{Done}
use Rattle.job_ending.specs.Outcome.{Outcome}

abbrev pub shown : Plan → Outcome
shown plan = record { ending = Done; bytes = explained 0 plan }
