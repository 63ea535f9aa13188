-- The theorems of this crate, put together of its lemmas.
use Rattle.upsert_keys.specs.Keys.{keys_of, keys}
use Rattle.upsert_keys.specs.Seen.{all_seen}
use Rattle.phys_plan.specs.Reading.{no_keys, Wire}
use Rattle.plan_inferred.proofs.Local.{read-is-local, local-is-read}
use Rattle.std.specs.Prelude.{ℕ, List, ◌≡◌, Option}
use Rattle.ct_value.specs.declared.ty.ColTy.{ColTy}
use Rattle.ct_catalog.specs.declared.table.TableDef.{TableDef}
use Rattle.phys_plan.specs.declared.edge.Edge.{Edge}
use Rattle.plan_inferred.specs.Local.{AreOrdered, IsLocal}
use Rattle.phys_plan.specs.declared.node.KeyInfo.{KeyInfo}
use Rattle.mode_infer.specs.Kinds.{flow_of, no_flow, flows}
use Rattle.mode_infer.specs.declared.kinds.Flow.{Flow}
use Rattle.std.proofs.Common.{None}
use Rattle.mode_infer.specs.UpdateKeys.{input_width, update_key_of, update_keys}

-- The keys of nodes are the one table in which each node's keys are made of what it sees of its inputs' keys.
pub keys_go_by_inputs_local : (columns : ℕ → List ColTy) (sources : List TableDef) (edges : List Edge) (ws : List Wire) → AreOrdered ws → IsLocal (λ w below. keys_of sources w.op (all_seen columns edges w.inputs below)) no_keys ws (keys columns sources edges ws)
keys_go_by_inputs_local = λ columns sources edges ws. read-is-local (λ w below. keys_of sources w.op (all_seen columns edges w.inputs below)) no_keys ws

-- The keys of nodes are the one table in which each node's keys are made of what it sees of its inputs' keys.
pub keys_go_by_inputs_only : (columns : ℕ → List ColTy) (sources : List TableDef) (edges : List Edge) (ws : List Wire) (table : List KeyInfo) → AreOrdered ws → IsLocal (λ w below. keys_of sources w.op (all_seen columns edges w.inputs below)) no_keys ws table → table ≡ keys columns sources edges ws
keys_go_by_inputs_only = λ columns sources edges ws. local-is-read (λ w below. keys_of sources w.op (all_seen columns edges w.inputs below)) no_keys ws

-- What nodes send is the one table in which each node's kinds are made of its inputs'.
pub kinds_go_by_inputs_local : (sources : List TableDef) (ws : List Wire) → AreOrdered ws → IsLocal (λ w. flow_of sources w.op) no_flow ws (flows sources ws)
kinds_go_by_inputs_local = λ sources ws. read-is-local (λ w. flow_of sources w.op) no_flow ws

-- What nodes send is the one table in which each node's kinds are made of its inputs'.
pub kinds_go_by_inputs_only : (sources : List TableDef) (ws : List Wire) (table : List Flow) → AreOrdered ws → IsLocal (λ w. flow_of sources w.op) no_flow ws table → table ≡ flows sources ws
kinds_go_by_inputs_only = λ sources ws. local-is-read (λ w. flow_of sources w.op) no_flow ws

-- The update keys of nodes are the one table in which each node's is made of its inputs'.
pub update_keys_go_by_inputs_local : (columns : ℕ → List ColTy) (ws : List Wire) → AreOrdered ws → IsLocal (λ w. update_key_of (input_width columns w.inputs) w.op) None ws (update_keys columns ws)
update_keys_go_by_inputs_local = λ columns ws. read-is-local (λ w. update_key_of (input_width columns w.inputs) w.op) None ws

-- The update keys of nodes are the one table in which each node's is made of its inputs'.
pub update_keys_go_by_inputs_only : (columns : ℕ → List ColTy) (ws : List Wire) (table : List (Option (List ℕ))) → AreOrdered ws → IsLocal (λ w. update_key_of (input_width columns w.inputs) w.op) None ws table → table ≡ update_keys columns ws
update_keys_go_by_inputs_only = λ columns ws. local-is-read (λ w. update_key_of (input_width columns w.inputs) w.op) None ws
