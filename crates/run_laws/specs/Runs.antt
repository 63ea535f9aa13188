-- What a run never stops by, where its plan calculates nothing.
use Rattle.std.specs.Prelude.{◌≡◌, ℕ, ◌*◌, ◌<◌, Bool, true, List, Some}
use Rattle.std.specs.List.{list_all}
use Rattle.ct_value.specs.declared.row.Row.{Row}
use Rattle.ct_value.specs.declared.ty.ColTy.{ColTy}
use Rattle.rel_algebra.specs.Rel.{Rel}
use Rattle.range_rules.specs.Tame.{is_tame_rel}
use Rattle.phys_plan.specs.declared.node.Node.{Node}
use Rattle.phys_plan.specs.declared.plan.Plan.{Plan}
use Rattle.phys_plan.specs.Reading.{numbered}
use Rattle.stream_model.specs.declared.events.StepFault.TheVariants.{Range}
use Rattle.stream_model.specs.Machine.{State}
use Rattle.plan_rules.specs.Doings.{network}
use Rattle.plan_rules.specs.Phases.{sends_parts}
use Rattle.sound_plans.specs.Sound.{IsRuled}
use Rattle.sound_plans.specs.TameOps.{is_tame_op}
use Rattle.laid_plans.specs.Inferred.{with_inferred}
use Rattle.laid_plans.specs.Shapes.{IsLaidOut}
use Rattle.job_text.specs.declared.orders.OrderLine.{OrderLine}
use Rattle.source_lines.specs.Run.{At, halts, stopped, whole_run}
use Rattle.source_lines.specs.declared.supply.ChangeFiles.{ChangeFiles}

-- a plan of such operators
abbrev pub is_tame_plan : Plan → Bool
is_tame_plan plan = list_all (λ node. is_tame_op node.op) plan.nodes

-- that of a tree that calculates nothing is one, with what is inferred of it
abbrev pub TreesHaveTamePlans : Type 0
TreesHaveTamePlans = (plan : Plan) (rel : Rel) → IsLaidOut plan rel → is_tame_rel rel ≡ true → is_tame_plan (with_inferred plan) ≡ true

-- a run over a sound plan that calculates nothing never stops by a value that leaves the range of its type, so far as it sends no
-- more changes than a BIGINT counts; where some are partial rows, so far as bundles of so many hold no more
abbrev pub RunsStayInRange : Type 0
RunsStayInRange = (plan : Plan) → IsRuled plan → is_tame_plan plan ≡ true → (limit : ℕ) → limit < 9223372036854775808
    → ((v : ℕ) (node : Node) → numbered plan.nodes v ≡ Some node → sends_parts node.op ≡ true → limit * plan.mini_batch < 9223372036854775808)
    → (files : ChangeFiles) (orders : List OrderLine) (node subtask : ℕ) (row : Row) (types : List ColTy) (p : At State)
    → whole_run (network plan) limit plan.sources files orders ≡ halts (stopped (Range node subtask row types)) p → ⊥
