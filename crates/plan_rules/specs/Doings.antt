-- What each node of a plan does, by its operator among what is around it.
use Rattle.std.specs.Prelude.{ℕ, List, [], ◌∷◌, length, map, Option, Some, None, unwrap_or}
use Rattle.phys_plan.specs.Reading.{numbered, first_input}
use Rattle.phys_plan.specs.declared.node.Node.{Node}
use Rattle.phys_plan.specs.declared.node.Op.{Op}
use Rattle.phys_plan.specs.declared.plan.Plan.{Plan}
use Rattle.stream_model.specs.Network.{Network}
use Rattle.plan_rules.specs.Around.{Around, Side}
use Rattle.plan_rules.specs.Behaviours.{behaviour, doing_of, idle}
use Rattle.plan_rules.specs.Columns.{columns_at}
use Rattle.plan_rules.specs.Plans.{Doing, kinds_in, local_in, network_of, update_in}

abbrev pub other_inputs : List ℕ → List ℕ
other_inputs [] = []
other_inputs (input ∷ inputs) = inputs

abbrev pub side_of : Plan → ℕ → Side
side_of plan input = record { kinds = kinds_in (numbered plan.edges input); input = update_in (numbered plan.edges input); columns = columns_at plan.sources plan.nodes input }

abbrev pub around_of : Plan → ℕ → List ℕ → Around
around_of plan v inputs = record {
  kinds = kinds_in (numbered plan.edges (first_input inputs));
  input = update_in (numbered plan.edges (first_input inputs));
  own = update_in (numbered plan.edges v);
  columns = columns_at plan.sources plan.nodes (first_input inputs);
  partial = local_in (columns_at plan.sources plan.nodes) plan (numbered plan.nodes (first_input inputs));
  others = map (side_of plan) (other_inputs inputs);
  inputs = length inputs;
  declared = plan.sink.mode;
  sink_key = unwrap_or plan.sink.key [];
}

-- what a node does, by its operator
abbrev pub doing_by : Op → Around → Doing
doing_by operator around = doing_of (behaviour operator around)

abbrev pub doing_in : Plan → ℕ → Option Node → Doing
doing_in plan v None = idle
doing_in plan v (Some node) = doing_by node.op (around_of plan v node.inputs)

-- the plan as the network on which the machine runs
abbrev pub network : Plan → Network
network plan = network_of (columns_at plan.sources plan.nodes) (λ v. doing_in plan v (numbered plan.nodes v)) plan
