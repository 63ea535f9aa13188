-- What is inferred of a plan whose nodes send these columns, in tables by the nodes' numbers.
use Rattle.std.specs.Prelude.{List}
use Rattle.ct_value.specs.declared.ty.ColTy.{ColTy}
use Rattle.phys_plan.specs.declared.plan.Plan.{Plan}
use Rattle.phys_plan.specs.Reading.{wires}
use Rattle.phys_plan.specs.Columns.{columns_in}
use Rattle.upsert_keys.specs.Keys as k
use Rattle.mode_infer.specs.Kinds as m
use Rattle.mode_infer.specs.UpdateKeys as u
use Rattle.mode_infer.specs.Modes.{edge_modes}
use Rattle.plan_inferred.specs.declared.inferred.Inferred.{Inferred}

abbrev pub inferred : List (List ColTy) → Plan → Inferred
inferred columns plan = record {
  columns = columns;
  keys = k.keys (columns_in columns) plan.sources plan.edges (wires plan.nodes);
  flows = m.flows plan.sources (wires plan.nodes);
  update_keys = u.update_keys (columns_in columns) (wires plan.nodes);
  modes = edge_modes (columns_in columns) plan.sources plan.sink (wires plan.nodes);
}
