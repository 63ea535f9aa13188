-- What is inferred of a plan stands in tables with one entry for each node.
use Rattle.std.specs.Prelude.{◌≡◌, ℕ, ◌+◌, List, ◌++◌, length, map, Option}
use Rattle.std.proofs.Common.{suc, [], ◌∷◌, refl, sym, ap, ◌∙◌, arith}
use Rattle.std.proofs.lemmas.List.{length_push}
use Rattle.ct_value.specs.declared.ty.ColTy.{ColTy}
use Rattle.ct_change.specs.declared.kind.Declared.{Declared}
use Rattle.ct_catalog.specs.declared.table.TableDef.{TableDef}
use Rattle.phys_plan.specs.declared.edge.Edge.{Edge}
use Rattle.ct_change.specs.declared.update.Update.{Update}
use Rattle.phys_plan.specs.declared.node.Node.{Node}
use Rattle.phys_plan.specs.Reading.{at, read_up, wire, Wire, wires, no_keys}
use Rattle.upsert_keys.specs.Keys.{keys, keys_of}
use Rattle.upsert_keys.specs.Seen.{all_seen}
use Rattle.mode_infer.specs.declared.kinds.Flow.{Flow}
use Rattle.mode_infer.specs.declared.modes.EdgeMode.{EdgeMode}
use Rattle.mode_infer.specs.Kinds.{flow_of, flows, no_flow}
use Rattle.mode_infer.specs.Modes.{all_modes, edge_modes, modes_of, updates}
use Rattle.mode_infer.specs.Updates.{updates_behind}
use Rattle.sound_plans.proofs.laws.Lists.{map_length}

-- a value for each wire, behind those before
read_many : {B : Type 0} (f : Wire → List B → B) (d : B) (done : List B) (ws : List Wire) → length (read_up f d done ws) ≡ length done + length ws
read_many f d done [] = let e : length done ≡ length done + 0 = omega arith in e
read_many f d done (w ∷ ws) =
    let next = f w (map (at d done) w.inputs) in
    let one = length_push done next in
    let later = read_many f d (done ++ next ∷ []) ws in
    let e : length (done ++ next ∷ []) + length ws ≡ length done + suc (length ws) = omega (arith, one) in
    later ∙ e

-- a value for each node
read_all : {B : Type 0} (f : Wire → List B → B) (d : B) (nodes : List Node) → length (read_up f d [] (wires nodes)) ≡ length nodes
read_all f d nodes = let e : 0 + length (wires nodes) ≡ length (wires nodes) = omega arith in read_many f d [] (wires nodes) ∙ e ∙ map_length wire nodes

-- keys for each
pub keys_many : (columns : ℕ → List ColTy) (sources : List TableDef) (edges : List Edge) (nodes : List Node) → length (keys columns sources edges (wires nodes)) ≡ length nodes
keys_many columns sources edges nodes = read_all (λ w below. keys_of sources w.op (all_seen columns edges w.inputs below)) no_keys nodes

-- kinds for each
pub flows_many : (sources : List TableDef) (nodes : List Node) → length (flows sources (wires nodes)) ≡ length nodes
flows_many sources nodes = read_all (λ w. flow_of sources w.op) no_flow nodes

-- a way to tell updates for each wire
behind_many : (sources : List TableDef) (sink : TableDef) (sent : List Flow) (by : List (Option (List ℕ))) (before : ℕ) (ws : List Wire) → length (updates_behind sources sink sent by before ws) ≡ length ws
behind_many sources sink sent by before [] = refl
behind_many sources sink sent by before (w ∷ ws) = ap suc (behind_many sources sink sent by (before + 1) ws)

-- and for each node
pub updates_many : (columns : ℕ → List ColTy) (sources : List TableDef) (sink : TableDef) (nodes : List Node) → length (updates columns sources sink (wires nodes)) ≡ length nodes
updates_many columns sources sink nodes = behind_many sources sink _ _ 0 (wires nodes) ∙ map_length wire nodes

-- as many modes as there are kinds and ways to tell updates
modes_many : (sent : List Flow) (told : List Update) → length sent ≡ length told → length (modes_of sent told) ≡ length told
modes_many [] [] e = refl
modes_many [] (x ∷ told) e = absurd (omega (arith, e))
modes_many (x ∷ sent) [] e = absurd (omega (arith, e))
modes_many (x ∷ sent) (y ∷ told) e = ap suc (modes_many sent told (omega (arith, e)))

-- and with the sink's among them
all_many : (declared : Declared) (modes : List EdgeMode) (ws : List Wire) (own : List EdgeMode) → length own ≡ length ws → length (all_modes declared modes ws own) ≡ length ws
all_many declared modes [] own e = refl
all_many declared modes (w ∷ ws) [] e = absurd (omega (arith, e))
all_many declared modes (w ∷ ws) (one ∷ own) e = ap suc (all_many declared modes ws own (omega (arith, e)))

-- a mode for each edge
pub edge_modes_many : (columns : ℕ → List ColTy) (sources : List TableDef) (sink : TableDef) (nodes : List Node) → length (edge_modes columns sources sink (wires nodes)) ≡ length nodes
edge_modes_many columns sources sink nodes =
    let sent = flows sources (wires nodes) in
    let told = updates columns sources sink (wires nodes) in
    let many = updates_many columns sources sink nodes in
    let own = modes_many sent told (flows_many sources nodes ∙ sym many) in
    all_many sink.mode (modes_of sent told) (wires nodes) (modes_of sent told) (own ∙ many ∙ sym (map_length wire nodes)) ∙ map_length wire nodes
