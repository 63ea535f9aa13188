-- In which way an upsert sink would take what nodes of worked plans send.
use Rattle.std.specs.Prelude.{ℕ, Bool, true, false, List, [], ◌∷◌, None}
use Rattle.phys_plan.specs.Reading.{at, wires, no_keys}
use Rattle.mode_infer.specs.Kinds.{flows, no_flow}
use Rattle.mode_infer.specs.UpdateKeys.{update_keys}
use Rattle.plan_inferred.specs.declared.ways.Way.{Way}
use Rattle.plan_inferred.specs.declared.ways.Way.TheVariants.{Forced, NewRows, Direct, Materialized, Refused}
use Rattle.plan_inferred.specs.Ways.{way_of}
use Rattle.run_examples.specs.Plans.{Example, columns_of, keys_of, nodes_of}
use Rattle.run_examples.specs.InferenceExamples.{joined_inner, joined_counts}

-- a sink with this key above a node, where a materializer is asked for or isn't
pub record Asked : Type 0 where
  pub plan : Example
  pub force : Bool
  pub key : List ℕ
  pub node : ℕ
  pub way : Way

abbrev pub way_asked : Asked → Way
way_asked a =
    way_of a.force a.key (at no_flow (flows a.plan.sources (wires (nodes_of a.plan))) a.node).sent
    (at None (update_keys (columns_of a.plan) (wires (nodes_of a.plan))) a.node) (at no_keys (keys_of a.plan) a.node)

abbrev pub ask : Example → Bool → List ℕ → ℕ → Way → Asked
ask plan force key node way = record { plan = plan; force = force; key = key; node = node; way = way }

abbrev pub asked : List Asked
asked =
    ask joined_inner false (0 ∷ []) 1 Direct
    ∷ ask joined_inner false (0 ∷ []) 3 Materialized
    ∷ ask joined_inner true (0 ∷ []) 3 Forced
    ∷ ask joined_counts false (0 ∷ []) 2 NewRows
    ∷ ask joined_counts false (0 ∷ 2 ∷ []) 5 Refused
    ∷ ask joined_counts true (0 ∷ 2 ∷ []) 5 Refused ∷ []
