-- The plan of an accepted script, and which refusals come with it.
use Rattle.std.specs.Prelude.{ℕ, cond, Ok}
use Rattle.ct_catalog.specs.declared.settings.Settings.{Settings}
use Rattle.judge.specs.Judgement.{Judged, refused}
use Rattle.phys_plan.specs.declared.plan.Plan.{Plan}
use Rattle.plan_rules.specs.Phases.{Bundles}
use Rattle.plan_rules.specs.Pieces.{bare, plan_of_tree}
use Rattle.planner.specs.Planned.{Made, Refused, Planned, made, sink_top}
use Rattle.plan_laying.specs.Topped.{topped_plan}
use Rattle.job_judgement.specs.Judgement.{Accepted}

-- how many changes a bundle holds; there are no bundles where mini-batches are off
abbrev pub mini_batch_of : Settings → ℕ
mini_batch_of settings = cond settings.batching settings.batch_size 0

-- and how groups in bundles are laid
abbrev pub bundles_by : Settings → Bundles
bundles_by settings = record { size = mini_batch_of settings; two_phase = settings.two_phase }

-- the plan that is laid of what the script's query is bound to
abbrev pub laid : Accepted → Plan
laid script =
    plan_of_tree script.inserted.sources script.inserted.sink script.catalogue.settings.parallelism (bundles_by script.catalogue.settings) bare script.inserted.query.rel

-- and with what stands before its sink, by the script's setting for materializers
abbrev pub topped : Accepted → Plan
topped script = topped_plan (sink_top (laid script) script.catalogue.settings.materialize) (laid script)

-- the script is refused at its statement; or it is planned
abbrev pub planned_by : ℕ → Made → Judged Plan
planned_by statement (Refused code) = refused code statement
planned_by statement (Planned plan) = Ok plan

abbrev pub planned : Accepted → Judged Plan
planned script = planned_by script.statement (made (laid script) script.catalogue.settings.materialize)
