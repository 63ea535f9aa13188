-- Keys depend on operators and inputs alone: nodes that are given their keys keep them.
use Rattle.std.proofs.Common.{◌≡◌, ℕ, ◌+◌, List, [], ◌∷◌, refl, ap}
use Rattle.phys_plan.specs.declared.node.Node.{Node}
use Rattle.phys_plan.specs.declared.node.KeyInfo.{KeyInfo}
use Rattle.phys_plan.specs.Reading.{Wire, wire, wires}
use Rattle.upsert_keys.specs.Keys.{keyed, keyed_from}

pub wires_keyed_from : (v : ℕ) (table : List KeyInfo) (nodes : List Node) → wires (keyed_from v table nodes) ≡ wires nodes
wires_keyed_from v table [] = refl
wires_keyed_from v table (node ∷ nodes) = ap (λ (ws : List Wire). wire node ∷ ws) (wires_keyed_from (v + 1) table nodes)

pub wires_keyed : (table : List KeyInfo) (nodes : List Node) → wires (keyed table nodes) ≡ wires nodes
wires_keyed table nodes = wires_keyed_from 1 table nodes
