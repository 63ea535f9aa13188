-- A plan whose nodes are given keys, and its edges modes.
use Rattle.std.specs.Prelude.{◌≡◌, List, length}
use Rattle.phys_plan.specs.declared.node.KeyInfo.{KeyInfo}
use Rattle.phys_plan.specs.declared.plan.Plan.{Plan}
use Rattle.upsert_keys.specs.Keys.{keyed}
use Rattle.mode_infer.specs.declared.modes.EdgeMode.{EdgeMode}
use Rattle.mode_infer.specs.Modes.{moded}
use Rattle.laid_plans.proofs.laws.Edges.{edges_from}
use Rattle.laid_plans.proofs.laws.Nodes.{many_from}

module _ (keys : List KeyInfo) (modes : List EdgeMode) (plan : Plan) where
  abbrev pub given : Plan
  given = record {
    sources = plan.sources;
    sink = plan.sink;
    nodes = keyed keys plan.nodes;
    edges = moded modes plan.edges;
    parallelism = plan.parallelism;
    mini_batch = plan.mini_batch;
  }

  -- it has as many nodes
  pub nodes_many : length given.nodes ≡ length plan.nodes
  nodes_many = many_from keys 1 plan.nodes

  -- and as many edges
  pub edges_many : length given.edges ≡ length plan.edges
  edges_many = edges_from modes 1 plan.edges
