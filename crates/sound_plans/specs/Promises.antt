-- What is promised beyond the contracts of code: statements that lemmas name.
use Rattle.std.specs.Prelude.{ℕ, List, None}
use Rattle.ct_value.specs.declared.ty.ColTy.{ColTy}
use Rattle.ct_catalog.specs.declared.table.TableDef.{TableDef}
use Rattle.phys_plan.specs.declared.edge.Edge.{Edge}
use Rattle.phys_plan.specs.Reading.{Wire, no_keys}
use Rattle.upsert_keys.specs.Keys.{keys, keys_of}
use Rattle.upsert_keys.specs.Seen.{all_seen}
use Rattle.mode_infer.specs.Kinds.{flows, flow_of, no_flow}
use Rattle.mode_infer.specs.UpdateKeys.{input_width, update_key_of, update_keys}
use Rattle.plan_inferred.specs.Local.{AreOrdered, IsLocal}
use Rattle.plan_shape.specs.Shaped.{ShapedPlansHaveShape}
use Rattle.sound_plans.specs.JoinFits.{EdgesAreKeyed}

abbrev pub KeysGoByInputs : Type 0
KeysGoByInputs = (columns : ℕ → List ColTy) (sources : List TableDef) (edges : List Edge) (ws : List Wire) → AreOrdered ws
    → IsLocal (λ w below. keys_of sources w.op (all_seen columns edges w.inputs below)) no_keys ws (keys columns sources edges ws)

abbrev pub KindsGoByInputs : Type 0
KindsGoByInputs = (sources : List TableDef) (ws : List Wire) → AreOrdered ws → IsLocal (λ w. flow_of sources w.op) no_flow ws (flows sources ws)

abbrev pub UpdateKeysGoByInputs : Type 0
UpdateKeysGoByInputs = (columns : ℕ → List ColTy) (ws : List Wire) → AreOrdered ws → IsLocal (λ w. update_key_of (input_width columns w.inputs) w.op) None ws (update_keys columns ws)

-- laws on which those of sound plans stand
pub record Laws : Type 0 where
  pub shaped : ShapedPlansHaveShape
  pub keys : KeysGoByInputs
  pub kinds : KindsGoByInputs
  pub update_keys : UpdateKeysGoByInputs
  -- an edge that carries new rows alone keeps each key in one channel
  pub edges_are_keyed : EdgesAreKeyed
